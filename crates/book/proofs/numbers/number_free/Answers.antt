-- `number_free`: no order was found with the number.
use Rattle.book.proofs.Laws.Check.NumberLaws.{free_by}
use Rattle.book.proofs.numbers.number_free.Goals as goal

pub returns : goal.returns
returns c = free_by _ _ c.find_order.result c.args.book.readable.orders_to c.find_order.ensures _ c.is_none.ensures
