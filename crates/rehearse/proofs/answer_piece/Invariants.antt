use Rattle.std.proofs.Common.{length}
use Rattle.lines.specs.Stepping.{state_of}
use Rattle.rehearse.proofs.RunningLaws.{Passing}
use Rattle.rehearse.proofs.answer_piece.Given as goal

abbrev pub invariant-loop-rest : goal.invariant-loop-rest
invariant-loop-rest g l =
    Passing (state_of l.initial.memory) l.piece l.rest (state_of l.memory) (g.W.Write.contents l.initial.output) l.written (g.W.Write.contents l.output)

abbrev pub decreases-loop-rest : goal.decreases-loop-rest
decreases-loop-rest g l = length l.rest
