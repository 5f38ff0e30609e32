-- `withdraw_effect`: what moves up at place j is what is kept.
use Rattle.std.proofs.Common.{arith, refl}
use Rattle.book.proofs.Laws.Answer.MadeLaws.{sound_readable}
use Rattle.book.proofs.Laws.Withdraw.WithdrawLaws.{withdrawn, withdrawn_aside}
use Rattle.book.proofs.withdrawing.withdraw_effect.Goals as goal

pub overflow_mul-j : goal.overflow_mul-j
overflow_mul-j c = let r = sound_readable _ c.requires.0 in omega arith

pub overflow_add-j : goal.overflow_add-j
overflow_add-j c = let r = sound_readable _ c.requires.0 in omega arith

pub overflow_mul-n : goal.overflow_mul-n
overflow_mul-n c = let r = sound_readable _ c.requires.0 in omega arith

pub overflow_add-n : goal.overflow_add-n
overflow_add-n c = let r = sound_readable _ c.requires.0 in omega arith

pub shift-requires : goal.shift-requires
shift-requires c =
    let r = sound_readable _ c.requires.0 in
    (omega (arith, c.requires.1), omega (arith, r.days_from, r.offers_to, r.long))

pub shift-requires-2 : goal.shift-requires-2
shift-requires-2 c =
    let r = sound_readable _ c.requires.0 in
    (omega (arith, c.requires.1), omega (arith, c.shift.auto.book, r.days_from, r.offers_to, r.long))

pub returns : goal.returns
returns c =
    let f = c.requires.1 in
    let u = c.shift in
    let w = c.shift-2 in (
      withdrawn c.args.book.now u.new.book w.new.book _ _ c.requires.0 f refl u.ensures w.ensures,
      withdrawn_aside c.args.book.now u.new.book w.new.book _ _ c.requires.0 f refl u.ensures w.ensures,
    )
