-- `close`: not a sound book, or the day closed.
use Rattle.std.proofs.Common.{[], refl}
use Rattle.matching.proofs.Laws.Orders.RowLaws.{written_none}
use Rattle.book.specs.Calls.{call_close}
use Rattle.book.proofs.Laws.Answer.MadeLaws.{made_unsound, is_sound, made_done, no_checks, sound_readable}
use Rattle.book.proofs.Laws.Close.ClosedLaws.{sound_netting}
use Rattle.book.proofs.calls.close.Goals as goal

pub returns-in_err-check_sound : goal.returns-in_err-check_sound
returns-in_err-check_sound c = made_unsound _ _ _ _ _ c.from_residual.ensures.1 c.in_err-check_sound.ensures.refusal

pub close_day-requires : goal.close_day-requires
close_day-requires c = let s = is_sound _ c.in_ok-check_sound.ensures.refusal in (sound_readable _ s, sound_netting _ s)

pub returns : goal.returns
returns c =
    let w = c.close_day in
    made_done _ [] call_close 0 [] _ 0 _ _ [] c.in_ok-check_sound.ensures.refusal refl no_checks refl refl w.ensures.0 (written_none [])
    w.ensures.1 w.auto.book
