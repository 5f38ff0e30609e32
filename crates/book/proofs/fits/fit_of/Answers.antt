-- `fit_of`: the book is sound, so a fault of the pass is an hour that does not fit.
use Rattle.book.proofs.Laws.Check.VerdictLaws.{sums_came}
use Rattle.book.proofs.Laws.Check.UnitsFitLaws.{sound_tidy}
use Rattle.book.proofs.fits.fit_of.Goals as goal

pub returns : goal.returns
returns c =
    let r = c.args.book.ranged in
    let g = c.requires in
    sums_came _ _ _ _ r g.place _ c.open_unit.ensures _ c.sums_came.ensures (sound_tidy _ _ g.sound r g.place)
