use Rattle.book.specs.Inner.Runs.{UnitEmptied}
use Rattle.book.proofs.enrolling.empty_unit.Given as goal

abbrev pub invariant-loop-d : goal.invariant-loop-d
invariant-loop-d l = UnitEmptied l.initial.book l.book l.k l.d
