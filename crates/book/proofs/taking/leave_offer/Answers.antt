-- `leave_offer`: all of it goes, or a part.
use Rattle.book.proofs.Laws.Answer.MadeLaws.{sound_readable}
use Rattle.book.proofs.taking.leave_offer.Goals as goal

pub lessen_offer-requires : goal.lessen_offer-requires
lessen_offer-requires c = (sound_readable _ c.requires.0, c.requires.1)
