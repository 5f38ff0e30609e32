-- `offer_checks`: the three parts of the chain, one behind the other.
use Rattle.std.proofs.Common.{refl}
use Rattle.std.proofs.lemmas.Result.{err_from_is_err_and}
use Rattle.measures.proofs.RefusedLaws.{number_some}
use Rattle.book.specs.Layout.{decode}
use Rattle.book.proofs.Laws.Answer.MadeLaws.{sound_readable}
use Rattle.book.proofs.Laws.Offer.OfferChainLaws.{terms_left, offer_terms_lem, offer_room_lem, offer_fit_lem}
use Rattle.book.proofs.offering.offer_checks.Goals as goal

pub invariant_of-readable : goal.invariant_of-readable
invariant_of-readable c = record { readable = sound_readable _ c.args.book.sound }

pub returns-in_err-offer_terms : goal.returns-in_err-offer_terms
returns-in_err-offer_terms c =
    let a = c.args.offer in
    let p = err_from_is_err_and c.from_residual.result c.from_residual.ensures.1 in
    rw (p.1, p.2)
    (offer_terms_lem (decode c.args.book.words.now) a.unit a.partner a.price.0 c.args.amounts.now _ c.in_err-offer_terms.ensures (number_some _))

pub offer_room-requires : goal.offer_room-requires
offer_room-requires c =
    let a = c.args.offer in
    let t = terms_left c.args.book.words.now a.unit a.partner a.price.0 c.args.amounts.now _ c.in_ok-offer_terms.ensures refl in
    (t.unit.0, t.unit.1, t.partner)

pub returns-in_err-offer_room : goal.returns-in_err-offer_room
returns-in_err-offer_room c =
    let a = c.args.offer in
    let p = err_from_is_err_and c.from_residual-in_err-offer_room.result c.from_residual-in_err-offer_room.ensures.1 in
    rw (p.1, p.2)
    (offer_room_lem (decode c.args.book.words.now) a.unit a.partner a.price.0 c.args.amounts.now _ c.in_ok-offer_terms.ensures refl _
    c.in_err-offer_room.ensures (number_some _))

pub offer_fit-requires : goal.offer_fit-requires
offer_fit-requires c =
    let a = c.args.offer in
    let t = terms_left c.args.book.words.now a.unit a.partner a.price.0 c.args.amounts.now _ c.in_ok-offer_terms.ensures refl in
    (t.unit.0, t.unit.1, t.whole, t.energy.1)

pub returns : goal.returns
returns c =
    let a = c.args.offer in
    offer_fit_lem (decode c.args.book.words.now) a.unit a.partner a.price.0 c.args.amounts.now _ c.in_ok-offer_terms.ensures refl _
    c.in_ok-offer_room.ensures refl _ c.offer_fit.ensures
