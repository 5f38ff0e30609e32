use Rattle.matching.proofs.Laws.Orders.TakingLaws.{Taking}
use Rattle.matching.proofs.rests.take_fills.Given as goal

abbrev pub invariant-loop-p : goal.invariant-loop-p
invariant-loop-p l = Taking l.initial.orders l.initial.stands l.fills.places.now l.fills.amounts.now l.n l.orders l.stands l.p-iterator.a.rest.now l.p-iterator.b.rest.now
