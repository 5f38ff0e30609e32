use mathlib.Core.Path.{◌≡◌}
use Rattle.measures.specs.Inner.Cuts.{reach, rest}
use Rattle.measures.proofs.sharing.reaching.Given as goal

abbrev pub invariant-loop-part : goal.invariant-loop-part
invariant-loop-part l = l.count ≡ reach (rest l.parts) l.part-index l.m
