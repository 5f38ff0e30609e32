-- `clear`: not a sound book, a check that applies, or the effect.
use Rattle.std.proofs.Common.{length, refl}
use Rattle.book.specs.Calls.{call_clear}
use Rattle.book.proofs.Laws.Answer.MadeLaws.{made_unsound, is_sound, made_checked, made_done, sound_readable, clear_passed}
use Rattle.book.proofs.calls.clear.Goals as goal

pub returns-in_err-sound : goal.returns-in_err-sound
returns-in_err-sound c = made_unsound _ _ _ _ _ c.from_residual.ensures.1 c.in_err-sound.ensures.refusal

pub invariant_of-clear_checks : goal.invariant_of-clear_checks
invariant_of-clear_checks c = record { readable = sound_readable _ c.in_ok-sound.sound.sound }

pub returns-in_err-clear_checks : goal.returns-in_err-clear_checks
returns-in_err-clear_checks c =
    let s = c.in_ok-sound.ensures in
    made_checked _ _ _ _ _ _ c.from_residual-in_err-clear_checks.ensures.1 s.refusal s.same c.in_err-clear_checks.ensures

pub clear_effect-count-requires : goal.clear_effect-count-requires
clear_effect-count-requires c =
    let s = c.in_ok-sound.ensures in (is_sound _ s.refusal, clear_passed c.args.book.now _ (rw s.same at c.in_ok-clear_checks.ensures))

pub returns : goal.returns
returns c =
    let w = c.clear_effect-count in
    let s = c.in_ok-sound.ensures in
    made_done _ _ (call_clear (length c.args.rows.now)) 0 _ _ _ _ _ _ s.refusal s.same c.in_ok-clear_checks.ensures refl w.ensures.counted
    w.ensures.book w.ensures.handed w.ensures.aside w.auto.book
