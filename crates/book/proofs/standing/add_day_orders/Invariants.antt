use Rattle.matching.specs.Memory.{direction_number}
use Rattle.book.specs.Inner.Whole.{link_of}
use Rattle.book.proofs.Laws.Check.OpenDayLaws.{Walking}
use Rattle.book.proofs.standing.add_day_orders.Given as goal

abbrev pub invariant-loop-next : goal.invariant-loop-next
invariant-loop-next l =
    Walking l.unit.at.book.words.now l.unit.at.place l.d (direction_number l.direction) l.initial.amounts l.amounts (link_of l.next)

abbrev pub decreases-loop-next : goal.decreases-loop-next
decreases-loop-next l = link_of l.next
