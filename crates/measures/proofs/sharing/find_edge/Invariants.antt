use Prim.Native.Nat.{◌-◌}
use mathlib.Core.Path.{◌≡◌}
use lib.ListN.{length}
use Rattle.measures.specs.Inner.Cuts.{rest, Between}
use Rattle.measures.proofs.sharing.find_edge.Given as goal

-- a search in a loop stands as its fields, one behind the other: parts, wanted, low, high, above, from
abbrev pub invariant-loop-search : goal.invariant-loop-search
invariant-loop-search l =
    let s = l.search in
    (s.0.now ≡ l.parts) × (s.1.0 ≡ l.k)
    × Between (rest s.0.now) (length s.0.now) s.1.0 s.1.1.0 s.1.1.1.0 s.1.1.1.1.0 s.1.1.1.1.1.0

abbrev pub decreases-loop-search : goal.decreases-loop-search
decreases-loop-search l = l.search.1.1.1.0 - l.search.1.1.0
