use Rattle.std.proofs.Common.{◌≡◌, ℕ, ◌<◌, Bool, true}
use Rattle.measures.specs.Lists.{all}
use Rattle.book.proofs.ranges.every.Given as goal

abbrev pub invariant-loop-k : goal.invariant-loop-k
invariant-loop-k g l = (f : ℕ → Bool) → ((k : ℕ) (r : Bool) → k < l.n → goal.F-post g l.test k r → r ≡ f k) → all l.k f ≡ true
