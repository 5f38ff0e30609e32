use Prim.Native.Nat.{◌+◌}
use mathlib.Core.Path.{◌≡◌}
use Rattle.measures.specs.Inner.Cuts.{rest, ties}
use Rattle.measures.proofs.sharing.ties_end.Given as goal

abbrev pub invariant-loop-i : goal.invariant-loop-i
invariant-loop-i l = l.left + ties (rest l.parts) l.i l.at ≡ l.wanted
