-- `open_fit`: without orders the units decide, else the orders linked too.
use Rattle.std.proofs.Common.{sym, ◌∙◌}
use Rattle.book.proofs.Laws.Check.TogetherLaws.{pairs_none}
use Rattle.book.proofs.Laws.Check.SoundInLaws.{and_true-left}
use Rattle.book.proofs.sound.open_fit.Goals as goal

pub returns-then-book-eq0 : goal.returns-then-book-eq0
returns-then-book-eq0 c =
    c.units_fit.ensures ∙ sym (and_true-left _ _ (pairs_none c.args.book.words.now c.if-book-eq0.true))
