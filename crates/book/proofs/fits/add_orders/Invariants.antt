use Rattle.matching.specs.Memory.{direction_number}
use Rattle.book.proofs.Laws.Check.OpenDayLaws.{OrdersAdded}
use Rattle.book.proofs.fits.add_orders.Given as goal

abbrev pub invariant-loop-k : goal.invariant-loop-k
invariant-loop-k l = OrdersAdded l.book.words.now l.unit (direction_number l.direction) l.initial.amounts l.amounts l.k
