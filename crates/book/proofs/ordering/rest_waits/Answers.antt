-- `rest_waits`: nothing waits where nothing is left.
use Rattle.std.proofs.Common.{sym, ◌∙◌, arith, eqb-true}
use borrow.Author.Tests.{eqb-false}
use Rattle.matching.specs.Memory.{as_order}
use Rattle.book.proofs.Laws.Order.RestWaitLaws.{rest_none, rest_some, put_same}
use Rattle.book.proofs.ordering.rest_waits.Goals as goal

pub returns-then-eq : goal.returns-then-eq
returns-then-eq c =
    rest_none _ (as_order c.args.o) c.args.left.0 (eqb-true _ _ (sym c.eq.ensures ∙ c.if-eq.true))

pub append-requires : goal.append-requires
append-requires c =
    let n = eqb-false c.args.left.0 0 (sym c.eq.ensures ∙ c.if-eq.false) in
    (c.requires.0, c.requires.1 (omega arith))

pub returns : goal.returns
returns c =
    rest_some _ _ (as_order c.args.o) c.args.left.0 (eqb-false _ _ (sym c.eq.ensures ∙ c.if-eq.false))
    (put_same _ _ c.leaving-rest.ensures _ _ c.append.ensures)
