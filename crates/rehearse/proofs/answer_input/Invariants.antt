use Rattle.lines.specs.Stepping.{state_of}
use Rattle.rehearse.specs.Running.{ReadFrom}
use Rattle.rehearse.proofs.answer_input.Given as goal

abbrev pub invariant-turns : goal.invariant-turns
invariant-turns g l =
    ReadFrom (state_of l.initial.memory) (state_of l.memory) (g.I.Read.remaining l.initial.input) (g.I.Read.remaining l.input)
    (g.W.Write.contents l.initial.output) l.written (g.W.Write.contents l.output)
