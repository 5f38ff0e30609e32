-- `add_order`: the quantity goes to the raising or lowering of its hour or period, by the order's direction.
use Rattle.std.proofs.Common.{arith}
use Rattle.matching.proofs.Laws.Laying.KeyLaws.{direction_few}
use Rattle.book.proofs.Laws.Check.OpenDayLaws.{order_raises, order_lowers}
use Rattle.book.proofs.standing.add_order.Goals as goal

pub returns-then-book-at : goal.returns-then-book-at
returns-then-book-at g c =
    let d = direction_few c.args.direction in
    order_raises _ _ _ _ c.args.book.ranged c.requires.0 (omega arith) c.requires.1 _ _ (rw c.from.ensures at c.if-book-at.true) (omega arith)

pub returns-else-book-at : goal.returns-else-book-at
returns-else-book-at g c =
    let d = direction_few c.args.direction in
    order_lowers _ _ _ _ c.args.book.ranged c.requires.0 (omega arith) c.requires.1 _ _ (rw c.from.ensures at c.if-book-at.false) (omega arith)
