-- `gather_day`: the offers' amounts, and then what the orders have open.
use Rattle.std.proofs.Common.{arith}
use Rattle.book.proofs.Laws.Check.OpenDayLaws.{gathered}
use Rattle.book.proofs.standing.gather_day.Goals as goal

pub returns : goal.returns
returns c = gathered _ _ _ _ _ _ (omega arith) c.requires.1 (rw c.number.ensures at c.add_offers.ensures) c.add_day_orders.ensures
