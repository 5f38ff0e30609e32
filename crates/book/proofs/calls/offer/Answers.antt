-- `offer`: not a sound book, a check that applies, or the effect.
use Rattle.std.proofs.Common.{[], refl}
use Rattle.matching.proofs.Laws.Orders.RowLaws.{written_none}
use Rattle.book.specs.Calls.{call_offer}
use Rattle.book.proofs.Laws.Answer.MadeLaws.{made_unsound, is_sound, made_checked, made_done, offer_number}
use Rattle.book.proofs.Laws.Offer.OfferChainLaws.{offer_passed}
use Rattle.book.proofs.calls.offer.Goals as goal

pub returns-in_err-sound : goal.returns-in_err-sound
returns-in_err-sound c = made_unsound _ _ _ _ _ c.from_residual.ensures.1 c.in_err-sound.ensures.refusal

pub returns-in_err-offer_checks : goal.returns-in_err-offer_checks
returns-in_err-offer_checks c =
    let s = c.in_ok-sound.ensures in
    let t = c.fresh-terms.ensures in
    made_checked _ _ _ _ _ _ c.from_residual-in_err-offer_checks.ensures.1 s.refusal s.same (rw (t.0, t.1, t.2) at c.in_err-offer_checks.ensures)

pub offer_effect-number-requires : goal.offer_effect-number-requires
offer_effect-number-requires c =
    let a = c.args in
    let s = c.in_ok-sound.ensures in
    let t = c.fresh-terms.ensures in
    let p = offer_passed a.book.now a.unit a.partner a.price a.amounts.now (rw (s.same, t.0, t.1, t.2) at c.in_ok-offer_checks.ensures) in
    (is_sound _ s.refusal, p.0, p.1)

pub returns : goal.returns
returns c =
    let a = c.args in
    let w = c.offer_effect-number in
    let s = c.in_ok-sound.ensures in
    let t = c.fresh-terms.ensures in
    let passed = rw (t.0, t.1, t.2) at c.in_ok-offer_checks.ensures in
    made_done _ [] (call_offer a.unit a.partner a.price a.amounts.now) _ [] _ 0 _ _ [] s.refusal s.same passed
    (rw (← w.ensures.number) at (offer_number a.book.now a.unit a.partner a.price a.amounts.now)) refl (rw (t.0, t.1, t.2) at w.ensures.book.0)
    (written_none [])
    w.ensures.book.1 w.auto.book
