-- `cenduxari_curve`: what the book answers is told.
use Rattle.cenduxari.proofs.cenduxari_curve.Goals as goal

pub returns : goal.returns
returns c =
    record { answer = c.curve.result; curved = c.curve.ensures; refusal = c.tell.ensures.refusal; handed = c.tell.ensures.numbers }
