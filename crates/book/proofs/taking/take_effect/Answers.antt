-- `take_effect`: the rows, then what is left of the offer, then the rows in the figures.
use Rattle.std.proofs.Common.{refl, rules}
use Rattle.book.proofs.Laws.Answer.MadeLaws.{sound_readable}
use Rattle.book.proofs.Laws.Take.EffectLaws.{rows_asks, booking_asks, take_made}
use Rattle.book.proofs.taking.take_effect.Goals as goal

pub invariant_of-readable : goal.invariant_of-readable
invariant_of-readable c = record { readable = sound_readable _ c.requires.0 }

pub take_rows-count-requires : goal.take_rows-count-requires
take_rows-count-requires c =
    let p = c.requires in
    rows_asks _ _ _ _ _ p.0 p.2 _ p.1.has c.args.parts.now (search rules) p.3 _ refl

pub leave_offer-requires : goal.leave_offer-requires
leave_offer-requires c = (c.requires.0, c.requires.1.has.there)

pub book_rows-requires : goal.book_rows-requires
book_rows-requires c =
    let a = c.args in
    let p = c.requires in
    let w = c.leave_offer in
    let g = rw p.1.has.here at w.ensures.gone in
    booking_asks _ _ _ _ _ p.0 p.2 _ p.1.has a.parts.now (search rules) p.3 w.new.book _ p.1.whole g w.ensures.left w.auto.book
    a.rows.now _ _ c.take_rows-count.ensures refl

pub returns : goal.returns
returns c =
    let a = c.args in
    let p = c.requires in
    let w = c.leave_offer in
    let g = rw p.1.has.here at w.ensures.gone in
    take_made _ _ _ _ _ p.0 p.2 _ p.1.has a.parts.now (search rules) p.3 w.new.book _ p.1.whole g w.ensures.left w.auto.book
    a.rows.now _ _ c.take_rows-count.ensures _ c.book_rows.ensures
