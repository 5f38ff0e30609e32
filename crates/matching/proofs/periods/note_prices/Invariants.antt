use Prim.Native.Nat.{◌≤◌}
use Rattle.matching.proofs.Laws.Periods.SkipLaws.{NotedTo}
use Rattle.matching.proofs.periods.note_prices.Given as goal

abbrev pub invariant-loop-k : goal.invariant-loop-k
invariant-loop-k l = (l.k ≤ l.orders.count) × NotedTo l.orders.words.now l.prices.high l.prices.low l.k
