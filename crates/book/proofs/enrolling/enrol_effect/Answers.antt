-- `enrol_effect`: the cleared figures, the three words and the count are one unit more.
use Rattle.std.proofs.Common.{arith}
use Rattle.book.proofs.Laws.Answer.MadeLaws.{sound_readable}
use Rattle.book.proofs.Laws.Enrol.EnrolLaws.{unit_more}
use Rattle.book.proofs.enrolling.enrol_effect.Goals as goal

pub bounds-book-5 : goal.bounds-book-5
bounds-book-5 c = let r = sound_readable _ c.requires.0 in omega arith

pub empty_unit-requires : goal.empty_unit-requires
empty_unit-requires c = (sound_readable _ c.requires.0, c.requires.1)

pub returns-clause-book : goal.returns-clause-book
returns-clause-book c =
    let u = c.args.unit in
    let w = c.empty_unit in
    rw c.put_words.ensures
    (unit_more c.args.book.now w.new.book u.kind u.capacity u.asset.0 (sound_readable _ c.requires.0) c.requires.1 w.ensures)
