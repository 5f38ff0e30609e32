-- `enrol`: not a sound book, a check that applies, or the effect.
use Rattle.std.proofs.Common.{[], refl}
use Rattle.matching.proofs.Laws.Orders.RowLaws.{written_none}
use Rattle.book.specs.Calls.{call_enrol}
use Rattle.book.proofs.Laws.Answer.MadeLaws.{made_unsound, is_sound, made_checked, made_done, enrol_number}
use Rattle.book.proofs.Laws.Enrol.EnrolLaws.{enrol_room}
use Rattle.book.proofs.calls.enrol.Goals as goal

pub returns-in_err-sound : goal.returns-in_err-sound
returns-in_err-sound c = made_unsound _ _ _ _ _ c.from_residual.ensures.1 c.in_err-sound.ensures.refusal

pub returns-in_err-enrol_checks : goal.returns-in_err-enrol_checks
returns-in_err-enrol_checks c =
    let s = c.in_ok-sound.ensures in
    let u = c.fresh-unit.ensures in
    made_checked _ _ _ _ _ _ c.from_residual-in_err-enrol_checks.ensures.1 s.refusal s.same (rw (u.0, u.1, u.2) at c.in_err-enrol_checks.ensures)

pub enrol_effect-number-requires : goal.enrol_effect-number-requires
enrol_effect-number-requires c =
    let s = c.in_ok-sound.ensures in
    let u = c.fresh-unit.ensures in
    (is_sound _ s.refusal, enrol_room _ c.args.kind c.args.capacity c.args.asset (rw (s.same, u.0, u.1, u.2) at c.in_ok-enrol_checks.ensures))

pub returns : goal.returns
returns c =
    let a = c.args in
    let s = c.in_ok-sound.ensures in
    let u = c.fresh-unit.ensures in
    let w = c.enrol_effect-number in
    let passed = rw (u.0, u.1, u.2) at c.in_ok-enrol_checks.ensures in
    made_done _ [] (call_enrol a.kind a.capacity a.asset) _ [] _ 0 _ _ [] s.refusal s.same passed
    (rw (← w.ensures.number) at (enrol_number a.book.now a.kind a.capacity a.asset)) refl (rw (u.0, u.1, u.2) at w.ensures.book.0) (written_none [])
    w.ensures.book.1 w.auto.book
