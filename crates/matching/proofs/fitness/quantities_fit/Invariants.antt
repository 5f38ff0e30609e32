use Rattle.matching.proofs.Laws.Orders.FitLaws.{Summing}
use Rattle.matching.proofs.fitness.quantities_fit.Given as goal

abbrev pub invariant-loop-k : goal.invariant-loop-k
invariant-loop-k l = Summing l.orders.words.now l.orders.count l.sum.0 l.k
