use Rattle.matching.proofs.Laws.Orders.TakingLaws.{Closing}
use Rattle.matching.proofs.rests.close_gaps.Given as goal

abbrev pub invariant-loop-k : goal.invariant-loop-k
invariant-loop-k l = Closing l.initial.orders l.stands l.n l.orders l.to l.k
