-- `numbers_differ`: the three tests of `numbers_differ`, one by one.
use Rattle.std.proofs.Common.{sym, ◌∙◌, arith, length-drop, length-take}
use Rattle.matching.proofs.Laws.Orders.PlacedLaws.{rise_is}
use Rattle.book.proofs.Laws.Check.NumberLaws.{differ_offers, differ_orders, differ_free, orders_from}
use Rattle.book.proofs.numbers.numbers_differ.Goals as goal

pub returns-then-not-offers_rise : goal.returns-then-not-offers_rise
returns-then-not-offers_rise c = differ_offers _ (sym c.offers_rise.ensures ∙ c.if-not-offers_rise.true)

pub returns-then-not-numbers_rise : goal.returns-then-not-numbers_rise
returns-then-not-numbers_rise c =
    let p = c.args.book.readable in
    let e = sym c.numbers_rise.ensures ∙ c.if-not-numbers_rise.true in
    differ_orders c.args.book.words.now (rw (orders_from c.args.book.words.now)
    (sym (rise_is _ _ p.orders_to (simp (length-take, length-drop) (omega arith))) ∙ e))

pub returns : goal.returns
returns c =
    let p = c.args.book.readable in
    let e = sym c.numbers_rise.ensures ∙ c.if-not-numbers_rise.false in
    c.numbers_free.ensures
    ∙ differ_free c.args.book.words.now
    (sym c.offers_rise.ensures ∙ c.if-not-offers_rise.false)
    (rw (orders_from c.args.book.words.now) (sym (rise_is _ _ p.orders_to (simp (length-take, length-drop) (omega arith))) ∙ e))
