use Rattle.matching.specs.Memory.{as_order}
use Rattle.matching.proofs.Laws.Rolling.LeftOverLaws.{Leaving}
use Rattle.matching.proofs.rolling.left_behind.Given as goal

abbrev pub invariant-loop-k : goal.invariant-loop-k
invariant-loop-k l = Leaving l.orders.words.now l.orders.count (as_order l.incoming.order) l.left.0 l.k
