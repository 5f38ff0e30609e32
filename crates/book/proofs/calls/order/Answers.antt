-- `order`: not a sound book, a check that applies, or the effect in its phase.
use Rattle.std.proofs.Common.{[], length, arith}
use Rattle.matching.proofs.Laws.Orders.RowLaws.{written_none}
use Rattle.book.specs.Calls.{call_order}
use Rattle.book.proofs.Laws.Answer.MadeLaws.{made_unsound, is_sound, made_checked, made_done, order_called, order_rolled, sound_readable}
use Rattle.book.proofs.Laws.Order.RollCallLaws.{orders_left, number_left}
use Rattle.book.proofs.calls.order.Goals as goal

pub returns-in_err-sound : goal.returns-in_err-sound
returns-in_err-sound c = made_unsound _ _ _ _ _ c.from_residual.ensures.1 c.in_err-sound.ensures.refusal

pub returns-in_err-order_checks : goal.returns-in_err-order_checks
returns-in_err-order_checks c =
    let s = c.in_ok-sound.ensures in
    made_checked _ _ _ _ _ _ c.from_residual-in_err-order_checks.ensures.1 s.refusal s.same c.in_err-order_checks.ensures

pub bounds-book-3 : goal.bounds-book-3
bounds-book-3 c =
    let r = sound_readable c.args.book.now (is_sound _ c.in_ok-sound.ensures.refusal) in omega arith

pub order_in_call-requires : goal.order_in_call-requires
order_in_call-requires c =
    let a = c.args in
    let s = is_sound _ c.in_ok-sound.ensures.refusal in
    let p = rw c.in_ok-sound.ensures.same at c.in_ok-order_checks.ensures in (
      s,
      orders_left a.book.now a.rows.now a.unit a.direction a.period a.price a.quantity s p c.if-book.true,
      number_left a.book.now a.rows.now a.unit a.direction a.period a.price a.quantity s p,
    )

pub returns-then-book : goal.returns-then-book
returns-then-book c =
    let a = c.args in
    let s = c.in_ok-sound.ensures in
    let w = c.order_in_call in
    made_done _ _ (call_order a.unit a.direction a.period a.price a.quantity (length a.rows.now)) _ [] _ _ _ _ _
    s.refusal s.same c.in_ok-order_checks.ensures
    (rw (← w.ensures.done.0) at (order_called a.book.now a.unit a.direction a.period a.price a.quantity (length a.rows.now) c.if-book.true))
    w.ensures.done.1 w.ensures.book.0 (written_none _) w.ensures.book.1 w.auto.book

pub order_in_rolling-requires : goal.order_in_rolling-requires
order_in_rolling-requires c = let s = c.in_ok-sound.ensures in (is_sound _ s.refusal, rw s.same at c.in_ok-order_checks.ensures)

pub returns : goal.returns
returns c =
    let a = c.args in
    let s = c.in_ok-sound.ensures in
    let w = c.order_in_rolling in
    let r = w.ensures.rolled in
    made_done _ _ (call_order a.unit a.direction a.period a.price a.quantity (length a.rows.now)) _ _ _ _ _ _ _
    s.refusal s.same c.in_ok-order_checks.ensures
    (rw (← w.ensures.number) at (order_rolled a.book.now a.unit a.direction a.period a.price a.quantity (length a.rows.now) c.if-book.false))
    r.count r.book r.handed r.aside w.auto.book
