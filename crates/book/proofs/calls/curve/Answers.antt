-- `curve`: not a sound book, a check that applies, or the points.
use Rattle.std.proofs.Common.{◌≡◌, ℕ, ◌+◌, ◌-◌, ◌++◌, drop, ap, ◌∙◌, arith}
use Rattle.book.specs.Curve.{points}
use Rattle.book.specs.Layout.{decode}
use Rattle.book.proofs.Laws.Answer.MadeLaws.{is_sound, sound_readable}
use Rattle.book.proofs.Laws.Curve.CurveLaws.{curved_unsound, curved_checked, curved_drawn, curve_passed, sound_netted}
use Rattle.book.proofs.calls.curve.Goals as goal

pub returns-in_err-sound : goal.returns-in_err-sound
returns-in_err-sound c = curved_unsound _ _ _ _ _ _ c.from_residual.ensures.1 c.in_err-sound.ensures.refusal

pub invariant_of-readable : goal.invariant_of-readable
invariant_of-readable c = record { readable = sound_readable _ c.in_ok-sound.sound.sound }

pub returns-in_err-curve_checks : goal.returns-in_err-curve_checks
returns-in_err-curve_checks c =
    let s = c.in_ok-sound.ensures in
    curved_checked _ _ _ _ _ _ c.from_residual-in_err-curve_checks.ensures.1 (is_sound _ s.refusal)
    (rw s.same at c.in_err-curve_checks.ensures)

pub overflow_sub-unit : goal.overflow_sub-unit
overflow_sub-unit c = let p = curve_passed _ _ _ _ (rw c.in_ok-sound.ensures.same at c.in_ok-curve_checks.ensures) in omega arith

pub write_points-requires : goal.write_points-requires
write_points-requires c =
    let p = curve_passed _ _ _ _ c.in_ok-curve_checks.ensures in
    (sound_netted _ _ c.in_ok-sound.sound.sound (omega arith), omega arith, omega arith, omega arith)

pub returns : goal.returns
returns c =
    let p = curve_passed _ _ _ _ (rw c.in_ok-sound.ensures.same at c.in_ok-curve_checks.ensures) in
    let e : c.args.unit - 1 + 1 ≡ c.args.unit = omega arith in
    curved_drawn _ _ _ _ _ (is_sound _ c.in_ok-sound.ensures.refusal) (rw c.in_ok-sound.ensures.same at c.in_ok-curve_checks.ensures)
    ((rw c.in_ok-sound.ensures.same at c.write_points.ensures) ∙ ap (λ (u : ℕ). points (decode c.args.book.now) u c.args.day
    ++ drop 48 c.args.points.now) e)
