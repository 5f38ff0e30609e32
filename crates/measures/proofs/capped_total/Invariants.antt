use Prim.Native.Nat.{◌+◌, ◌-◌, ◌≤◌}
use mathlib.Core.Path.{◌≡◌}
use lib.ListN.{drop}
use Rattle.measures.specs.Ranges.{most_energy}
use Rattle.measures.specs.Sharing.{total}
use Rattle.measures.proofs.capped_total.Given as goal

abbrev pub invariant-loop-r : goal.invariant-loop-r
invariant-loop-r l = (l.room.0 ≤ most_energy) × (most_energy - l.room.0 + total (drop l.r-index l.amounts) ≡ total l.amounts)
