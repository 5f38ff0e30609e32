-- `withdraw`: not a sound book, a check that applies, or the effect.
use Rattle.std.proofs.Common.{[], refl}
use Rattle.matching.proofs.Laws.Orders.RowLaws.{written_none}
use Rattle.book.specs.Calls.{call_withdraw}
use Rattle.book.proofs.Laws.Answer.MadeLaws.{made_unsound, is_sound, made_checked, made_done}
use Rattle.book.proofs.calls.withdraw.Goals as goal

pub returns-in_err-sound : goal.returns-in_err-sound
returns-in_err-sound c = made_unsound _ _ _ _ _ c.from_residual.ensures.1 c.in_err-sound.ensures.refusal

pub returns-in_err-j : goal.returns-in_err-j
returns-in_err-j c =
    let s = c.in_ok-sound.ensures in
    made_checked _ _ _ _ _ _ c.from_residual-in_err-j.ensures.1 s.refusal s.same c.in_err-j.ensures.refusal

pub withdraw_effect-requires : goal.withdraw_effect-requires
withdraw_effect-requires c =
    let h = rw c.in_ok-sound.ensures.same at c.in_ok-j.ensures.place in
    (is_sound _ c.in_ok-sound.ensures.refusal, h.there)

pub returns : goal.returns
returns c =
    let s = c.in_ok-sound.ensures in
    let w = c.withdraw_effect in
    let h = rw s.same at c.in_ok-j.ensures.place in
    made_done _ [] (call_withdraw c.args.unit c.args.number) 0 [] _ 0 _ _ [] s.refusal s.same c.in_ok-j.ensures.refusal refl refl
    (rw h.here at w.ensures.0) (written_none []) w.ensures.1 w.auto.book
