-- `order_in_rolling`: matching, the rest, the rows and the number, one after the other.
use Rattle.std.proofs.Common.{arith}
use Rattle.book.proofs.Laws.Answer.MadeLaws.{sound_readable}
use Rattle.book.proofs.Laws.Order.RollCallLaws.{rows_lent, number_left, rest_room, booking_room, number_room, rolled_on}
use Rattle.book.proofs.ordering.order_in_rolling.Goals as goal

pub bounds-book-4 : goal.bounds-book-4
bounds-book-4 c = let r = sound_readable _ c.requires.0 in omega arith

pub overflow_add-number : goal.overflow_add-number
overflow_add-number c =
    let w = c.args.wanted in
    let n = number_left c.args.book.now c.args.rows.now w.unit w.direction w.period w.price.0 w.quantity.0 c.requires.0 c.requires.1 in
    omega arith

pub meet_orders-met-requires : goal.meet_orders-met-requires
meet_orders-met-requires c =
    let w = c.args.wanted in
    (c.requires.0, rows_lent _ _ w.unit w.direction w.period w.price.0 w.quantity.0 c.requires.0 c.requires.1)

pub rest_waits-requires : goal.rest_waits-requires
rest_waits-requires c = rest_room _ _ _ _ _ _ _ c.requires.0 c.requires.1 _ c.numbered-o.ensures _ _ _ _ c.meet_orders-met.ensures

pub book_rows-requires : goal.book_rows-requires
book_rows-requires c = booking_room _ _ _ _ _ _ _ c.requires.0 c.requires.1 _ c.numbered-o.ensures _ _ _ _ c.meet_orders-met.ensures _ c.rest_waits.ensures

pub give_number-requires : goal.give_number-requires
give_number-requires c =
    number_room _ _ _ _ _ _ _ c.requires.0 c.requires.1 _ c.numbered-o.ensures _ _ _ _ c.meet_orders-met.ensures _ c.rest_waits.ensures _ c.book_rows.ensures

pub returns-clause-rolled : goal.returns-clause-rolled
returns-clause-rolled c =
    rolled_on _ _ _ _ _ _ _ c.requires.0 c.requires.1 _ c.numbered-o.ensures _ _ _ _ c.meet_orders-met.ensures _ c.rest_waits.ensures _ c.book_rows.ensures _
    c.give_number.ensures.0 c.give_number.ensures.1
