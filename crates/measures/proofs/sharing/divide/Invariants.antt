use Rattle.measures.proofs.SelectLaws.{Dividing}
use Rattle.measures.proofs.sharing.divide.Given as goal

abbrev pub invariant-loop-i : goal.invariant-loop-i
invariant-loop-i l = Dividing l.d l.amounts l.initial.parts l.parts l.left l.i
