-- `offer_effect`: the amounts, the five words of the head and the two counts are one offer more.
use Rattle.std.proofs.Common.{arith, length-set}
use Rattle.book.proofs.Laws.Answer.MadeLaws.{sound_head, sound_readable}
use Rattle.book.proofs.Laws.Offer.OfferedLaws.{offer_more}
use Rattle.book.proofs.offering.offer_effect.Goals as goal

pub overflow_add-number : goal.overflow_add-number
overflow_add-number c = let h = sound_head c.args.book.now c.requires.0 in omega arith

pub bounds-book-4-2 : goal.bounds-book-4-2
bounds-book-4-2 c = let r = sound_readable _ c.requires.0 in simp length-set (omega arith)

pub returns-clause-book : goal.returns-clause-book
returns-clause-book c =
    let a = c.args in
    let w = c.put_amounts in
    rw c.put_words.ensures
    (offer_more a.book.now w.new.book a.offer.unit a.offer.partner a.offer.price.0 a.amounts.now (sound_readable _ c.requires.0) c.requires.1
    c.requires.2 w.auto.book w.ensures.0 w.ensures.1)
