-- `offer_room`: each test is a check of the chain.
use Rattle.std.proofs.Common.{sym, ◌∙◌, arith}
use Rattle.book.proofs.Laws.Offer.OfferCheckLaws.{room_sides, room_full, room_used, room_pass}
use Rattle.book.proofs.offering.offer_room.Goals as goal

pub returns-then-not-sides_fit : goal.returns-then-not-sides_fit
returns-then-not-sides_fit c =
    let a = c.args in
    room_sides a.book.words.now a.offer.unit a.offer.partner c.requires.2
    (sym c.sides_fit.ensures ∙ c.if-not-sides_fit.true)

pub returns-then-book-ge-MOST : goal.returns-then-book-ge-MOST
returns-then-book-ge-MOST c =
    let a = c.args in
    room_full a.book.words.now a.offer.unit a.offer.partner c.requires.2
    (sym c.sides_fit.ensures ∙ c.if-not-sides_fit.false) (omega arith)

pub returns-then-book-ge-NUMBERS : goal.returns-then-book-ge-NUMBERS
returns-then-book-ge-NUMBERS c =
    let a = c.args in
    room_used a.book.words.now a.offer.unit a.offer.partner c.requires.2
    (sym c.sides_fit.ensures ∙ c.if-not-sides_fit.false) (omega arith) (omega arith)

pub returns : goal.returns
returns c =
    let a = c.args in
    room_pass a.book.words.now a.offer.unit a.offer.partner c.requires.2
    (sym c.sides_fit.ensures ∙ c.if-not-sides_fit.false) (omega arith) (omega arith)
