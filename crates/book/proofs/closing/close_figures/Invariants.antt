use Rattle.book.specs.Inner.Closing.{DaysOver}
use Rattle.book.proofs.closing.close_figures.Given as goal

abbrev pub invariant-loop-d : goal.invariant-loop-d
invariant-loop-d l = DaysOver l.initial.book l.book l.d
