-- `answer_input`: what was read so far is passed.
use Rattle.rehearse.proofs.RunningLaws.{read_none, read_more}
use Rattle.rehearse.proofs.answer_input.Goals as goal

pub turns-init : goal.turns-init
turns-init g c = read_none _ _ _ _

pub turns-preserved : goal.turns-preserved
turns-preserved g c =
    rw c.and-written.ensures (read_more _ _ _ _ _ _ _ _ _ _ _ _ c.turns.invariant c.in_ok-count.ensures.bytes.0 c.answer_piece.ensures)
