-- `take`: not a sound book, a check that applies, or the effect.
use Rattle.std.proofs.Common.{length, refl}
use Rattle.book.specs.Calls.{call_take}
use Rattle.book.proofs.Laws.Check.MisfitLaws.{zeros_at}
use Rattle.book.proofs.Laws.Answer.MadeLaws.{made_unsound, is_sound, made_checked, made_done}
use Rattle.book.proofs.calls.take.Goals as goal

pub returns-in_err-sound : goal.returns-in_err-sound
returns-in_err-sound c = made_unsound _ _ _ _ _ c.from_residual.ensures.1 c.in_err-sound.ensures.refusal

pub take_checks-requires : goal.take_checks-requires
take_checks-requires c = zeros_at 744

pub returns-in_err-offer : goal.returns-in_err-offer
returns-in_err-offer c =
    let s = c.in_ok-sound.ensures in
    made_checked _ _ _ _ _ _ c.from_residual-in_err-offer.ensures.1 s.refusal s.same c.in_err-offer.ensures.checked.answer

pub take_effect-count-requires : goal.take_effect-count-requires
take_effect-count-requires c =
    let s = c.in_ok-sound.ensures in
    let t = rw s.same at c.in_ok-offer.ensures.checked in
    (is_sound _ s.refusal, rw s.same at c.in_ok-offer.ensures.offer, t.answer, record { behind = _; parts = t.memory refl })

pub returns : goal.returns
returns c =
    let a = c.args in
    let s = c.in_ok-sound.ensures in
    let w = c.take_effect-count in
    let made = w.ensures in
    made_done _ _ (call_take a.unit a.number a.quantity (length a.rows.now)) 0 _ _ _ _ _ _ s.refusal s.same
    c.in_ok-offer.ensures.checked.answer refl made.rows.count made.book made.rows.rows made.aside w.auto.book
