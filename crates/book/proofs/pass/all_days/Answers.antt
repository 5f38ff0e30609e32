-- `all_days`: the days passed are joined.
use Rattle.std.proofs.Common.{◌≡◌, arith}
use Rattle.book.proofs.Laws.Check.PassLaws.{pass_none, days_more}
use Rattle.book.proofs.pass.all_days.Goals as goal

pub loop-d-init : goal.loop-d-init
loop-d-init g c = λ f l h. pass_none f

pub loop-d-preserved : goal.loop-d-preserved
loop-d-preserved g c = λ f l h.
    days_more f l c.loop-d.d _ _ _ (omega (arith, c.loop-d-test.true, c.requires.0))
    (c.loop-d.invariant f l (λ d s b p. h d s (omega arith) p))
    (h c.loop-d.d c.day.result (omega arith) c.day.ensures) c.together-s.ensures

pub returns : goal.returns
returns g c = λ f l h.
    let e : c.loop-d.d ≡ c.args.days = omega arith in
    rw e at (c.loop-d.invariant f l (λ d s b p. h d s (omega arith) p))
