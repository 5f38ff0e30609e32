-- `against_at`: an order of the same direction is not against; any other counts as the unit's.
use Rattle.std.proofs.Common.{arith}
use Rattle.book.proofs.Laws.Order.OrderCheckLaws.{against_same, against_other}
use Rattle.book.proofs.ordering.against_at.Goals as goal

pub returns-then-book-at : goal.returns-then-book-at
returns-then-book-at c = against_other _ _ _ _ _ _ (omega arith) c.of_unit_at.ensures

pub returns-else-book-at : goal.returns-else-book-at
returns-else-book-at c = against_same _ _ _ _ _ (omega arith)
