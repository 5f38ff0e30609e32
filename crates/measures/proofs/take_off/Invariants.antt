use Rattle.std.proofs.Common.{◌-◌, get_or}
use Rattle.measures.specs.Inner.Cuts.{Written}
use Rattle.measures.proofs.take_off.Given as goal

abbrev pub invariant-loop-i : goal.invariant-loop-i
invariant-loop-i l = Written 0 l.i (λ j. get_or l.initial.amounts j 0 - get_or l.parts j 0) l.initial.amounts l.amounts
