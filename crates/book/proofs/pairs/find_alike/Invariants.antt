use Rattle.book.specs.Inner.Whole.{link_of}
use Rattle.book.proofs.Laws.Check.TogetherLaws.{Seeking}
use Rattle.book.proofs.pairs.find_alike.Given as goal

abbrev pub invariant-loop-day_next : goal.invariant-loop-day_next
invariant-loop-day_next l = Seeking l.book.words.now l.k (link_of l.day_next) (link_of l.period_next)

abbrev pub decreases-loop-day_next : goal.decreases-loop-day_next
decreases-loop-day_next l = link_of l.day_next
