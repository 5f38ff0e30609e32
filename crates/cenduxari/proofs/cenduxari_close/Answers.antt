-- `cenduxari_close`: what the book answers is told.
use Rattle.cenduxari.proofs.cenduxari_close.Goals as goal

pub returns : goal.returns
returns c =
    record { answer = c.close.result; made = c.close.ensures; refusal = c.tell.ensures.refusal; handed = c.tell.ensures.numbers }
