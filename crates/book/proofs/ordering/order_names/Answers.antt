-- `order_names`: what passes each test is named.
use Rattle.std.proofs.Common.{arith}
use Rattle.matching.proofs.Laws.Laying.KeyLaws.{direction_few}
use Rattle.book.proofs.Laws.Memory.RangeFacts.{unit_test}
use Rattle.book.proofs.Laws.Memory.TestLaws.{is_below, is_in}
use Rattle.book.proofs.Laws.Order.OrderCheckLaws.{names_pass}
use Rattle.book.proofs.ordering.order_names.Goals as goal

pub returns-clause-checked : goal.returns-clause-checked
returns-clause-checked c =
    names_pass _ _ _ _ _ _ _ (is_in (unit_test _ _ c.unit_known.ensures) c.if-not-unit_known.false) (omega arith)
    (is_in c.price_in.ensures c.if-not-price_in.false) (is_in c.can_be_declared.ensures c.if-not-can_be_declared.false)
    (is_below c.has.ensures c.if-not-has.false)
    (omega (arith, direction_few c.in-Ok.direction, c.in-Ok.ensures))
