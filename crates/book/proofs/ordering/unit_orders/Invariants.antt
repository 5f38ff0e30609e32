use Rattle.std.proofs.Common.{◌≡◌, ◌≤◌, ltb}
use Rattle.measures.specs.Lists.{sum}
use Rattle.book.specs.Inner.Ordering.{of_unit_at, against_at}
use Rattle.book.proofs.ordering.unit_orders.Given as goal

abbrev pub invariant-loop-k : goal.invariant-loop-k
invariant-loop-k l = (l.stand ≤ l.k) × (l.stand ≡ sum l.k (of_unit_at l.book.words.now l.wanted.unit l.wanted.period))
    × (l.against ≡ ltb 0 (sum l.k (against_at l.book.words.now l.wanted.unit l.wanted.direction l.wanted.period)))
