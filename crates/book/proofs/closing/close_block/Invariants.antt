use Rattle.book.proofs.Laws.Close.ClosingLaws.{HeldNetted}
use Rattle.book.proofs.closing.close_block.Given as goal

abbrev pub invariant-loop-h : goal.invariant-loop-h
invariant-loop-h l = HeldNetted l.initial.book l.book l.at l.h
