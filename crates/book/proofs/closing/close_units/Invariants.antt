use Rattle.book.specs.Inner.Closing.{DayOver}
use Rattle.book.proofs.closing.close_units.Given as goal

abbrev pub invariant-loop-k : goal.invariant-loop-k
invariant-loop-k l = DayOver l.initial.book l.book l.d l.k
