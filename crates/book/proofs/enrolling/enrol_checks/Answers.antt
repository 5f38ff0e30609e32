-- `enrol_checks`: a sound book has a word for its count of units.
use Rattle.std.proofs.Common.{arith}
use Rattle.book.proofs.Laws.Answer.MadeLaws.{sound_readable}
use Rattle.book.proofs.enrolling.enrol_checks.Goals as goal

pub bounds-book-5 : goal.bounds-book-5
bounds-book-5 c = let r = sound_readable c.args.book.words.now c.args.book.sound in omega arith
