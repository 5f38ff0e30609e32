-- `sums_fit`: a mark past its range, or what the sums come to.
use Rattle.std.proofs.Common.{◌∙◌, arith}
use Rattle.measures.proofs.RefusedLaws.{done_zero}
use Rattle.book.proofs.Laws.Check.VerdictLaws.{unfit_marks, sums_decide}
use Rattle.book.proofs.whole.sums_fit.Goals as goal

pub returns-then-s : goal.returns-then-s
returns-then-s c x y p =
    let u = c.args.unit in
    unfit_marks _ _ x y u.book.ranged u.placed _ p (omega arith)

pub returns : goal.returns
returns c x y p =
    let u = c.args.unit in
    c.is_ok.ensures.value ∙ done_zero c.sums_came.result
    ∙ sums_decide _ _ x y u.book.ranged u.placed _ p _ c.sums_came.ensures (omega arith)
