-- `answer_all`: the end answers the last line.
use Rattle.rehearse.proofs.RunningLaws.{read_all}
use Rattle.rehearse.proofs.answer_all.Goals as goal

pub returns : goal.returns
returns g c =
    let w = rw c.as_slice.ensures.value at c.write_all.ensures.bytes in
    let r = c.answer_input-written.ensures in
    rw c.and.ensures (read_all _ _ _ _ _ _ _ _ _ _ _ _ _ _ c.requires c.end.ensures w r.reads r.ends)
