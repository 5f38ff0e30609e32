-- `clear_effect`: the rows of the cleared orders are booked, and the phase is set.
use Rattle.std.proofs.Common.{◌∙◌, arith, length-set}
use Rattle.book.proofs.Laws.Answer.MadeLaws.{sound_readable}
use Rattle.book.proofs.Laws.Clear.ClearEffectLaws.{swept_readable, swept_room, swept_rows, swept_small, all-cleared}
use Rattle.book.proofs.periods.clear_effect.Goals as goal

pub book_rows-requires : goal.book_rows-requires
book_rows-requires c =
    let w = c.sweep-count in
    let f = w.ensures.few in (
      swept_readable _ _ _ _ _ c.requires.0 c.requires.1 w.ensures,
      swept_room _ _ _ _ _ c.requires.0 c.requires.1 w.ensures,
      omega arith,
      swept_rows _ _ _ _ _ c.requires.0 c.requires.1 w.ensures,
      swept_small _ _ _ _ _ c.requires.0 c.requires.1 w.ensures,
    )

pub bounds-book-3 : goal.bounds-book-3
bounds-book-3 c =
    let r = sound_readable c.args.book.now c.requires.0 in
    let a = c.sweep-count.ensures.long in
    let b = c.book_rows.ensures.kept.long in
    omega arith

pub shape_of-book : goal.shape_of-book
shape_of-book c =
    let w = c.sweep-count in
    let b = c.book_rows in
    length-set b.new.book 3 1 ∙ b.ensures.kept.long ∙ w.ensures.long

pub returns : goal.returns
returns c =
    all-cleared _ _ _ _ _ _ c.requires.0 c.requires.1 c.sweep-count.ensures c.book_rows.ensures
