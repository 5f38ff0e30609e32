use Rattle.measures.specs.Inner.Cuts.{Written, settled}
use Rattle.measures.proofs.sharing.settle.Given as goal

abbrev pub invariant-loop-part : goal.invariant-loop-part
invariant-loop-part l = Written 0 l.part-index (settled l.m l.initial.parts) l.initial.parts l.parts
