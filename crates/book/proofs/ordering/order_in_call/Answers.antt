-- `order_in_call`: the order waits behind the others, and its number is given.
use Rattle.book.specs.Layout.{DAYS, GIVEN}
use Rattle.std.proofs.Common.{arith, refl}
use Rattle.book.proofs.Laws.Answer.MadeLaws.{sound_readable}
use Rattle.book.proofs.Laws.Memory.WordLaws.{aside_then}
use Rattle.book.proofs.Laws.Order.WaitLaws.{put_aside, called}
use Rattle.book.proofs.Laws.Order.RestWaitLaws.{put_same}
use Rattle.book.proofs.ordering.order_in_call.Goals as goal

pub returns-clause-done : goal.returns-clause-done
returns-clause-done c = (refl, refl)

pub bounds-book-4 : goal.bounds-book-4
bounds-book-4 c = let r = sound_readable _ c.requires.0 in omega arith

pub append-requires : goal.append-requires
append-requires c = let r = sound_readable _ c.requires.0 in (omega arith, omega arith)

pub give_number-requires : goal.give_number-requires
give_number-requires c =
    let r = sound_readable _ c.requires.0 in
    let h = c.append.ensures in
    let a = h.low GIVEN (omega arith) (omega arith) in
    let l = h.long in
    (omega arith, omega arith)

pub returns-clause-book : goal.returns-clause-book
returns-clause-book c =
    let r = sound_readable _ c.requires.0 in
    let h = put_same _ _ c.numbered-o.ensures _ _ c.append.ensures in
    let n = c.give_number.ensures in (
      called c.args.book.now _ _ _ _ _ _ _ r.units_to r.offers_to h n.0,
      aside_then _ _ _ (h.low DAYS (omega arith) (omega arith)) (put_aside _ _ _ h) n.1,
    )
