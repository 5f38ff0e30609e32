-- `give_number`: only the count of numbers changes.
use Rattle.book.proofs.Laws.Order.WaitLaws.{number_more, number_aside}
use Rattle.book.proofs.ordering.give_number.Goals as goal

pub returns : goal.returns
returns c = (rw c.requires.1 (number_more c.args.book.now c.requires.0), number_aside c.args.book.now _)
