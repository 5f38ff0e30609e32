use Prim.Native.Nat.{◌≤◌}
use Rattle.matching.proofs.Laws.Orders.FitLaws.{ClimbsTo}
use Rattle.matching.proofs.fitness.rise.Given as goal

abbrev pub invariant-loop-k : goal.invariant-loop-k
invariant-loop-k l = (1 ≤ l.k) × ClimbsTo l.orders.words.now l.k
