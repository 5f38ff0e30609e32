-- `of_unit_at`: unit and period decide.
use Rattle.std.proofs.Common.{arith}
use Rattle.book.proofs.Laws.Order.OrderCheckLaws.{unit_own, unit_other}
use Rattle.book.proofs.ordering.of_unit_at.Goals as goal

pub returns-then-book-at : goal.returns-then-book-at
returns-then-book-at c = unit_own _ _ 0 _ _ (omega arith)

pub returns-else-book-at : goal.returns-else-book-at
returns-else-book-at c = unit_other _ _ 0 _ _ (omega arith)
