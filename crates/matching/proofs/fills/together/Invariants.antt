use Prim.Native.Nat.{◌+◌}
use mathlib.Core.Path.{◌≡◌}
use lib.ListN.{drop}
use Rattle.measures.specs.Sharing.{total}
use Rattle.matching.proofs.fills.together.Given as goal

abbrev pub invariant-loop-amount : goal.invariant-loop-amount
invariant-loop-amount l = l.sum.0 + total (drop l.amount-index l.amounts) ≡ total l.amounts
