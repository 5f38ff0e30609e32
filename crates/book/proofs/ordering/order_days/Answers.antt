-- `order_days`: each test is a check of the second part; the sums are the lengths of what the checks keep.
use Rattle.std.proofs.Common.{sym, ◌∙◌, arith}
use Rattle.book.proofs.Laws.Order.OrderCheckLaws.{days_against, days_mark, days_two, days_full, days_used, days_pass}
use Rattle.book.proofs.ordering.order_days.Goals as goal

pub returns-then-seen : goal.returns-then-seen
returns-then-seen c = days_against _ _ _ _ _ _ (omega arith) (omega arith) (omega arith) _ c.unit_orders-seen.ensures.1 c.if-seen.true

pub returns-then-is_against : goal.returns-then-is_against
returns-then-is_against c =
    days_mark _ _ _ _ _ _ (omega arith) (omega arith) (omega arith) _ c.figures_at.ensures
    _ (rw c.requires.2 at c.is_against.ensures) c.if-is_against.true

pub returns-then-two_open : goal.returns-then-two_open
returns-then-two_open c =
    let s = c.unit_orders-seen.ensures in
    days_two _ _ _ _ _ _ (omega arith) (omega arith) (omega arith) _ s.1 c.if-seen.false _ c.figures_at.ensures
    _ (rw c.requires.2 at c.is_against.ensures) c.if-is_against.false _ s.0 _ c.two_open.ensures c.if-two_open.true

pub returns-then-lacks_place : goal.returns-then-lacks_place
returns-then-lacks_place c =
    let s = c.unit_orders-seen.ensures in
    days_full _ _ _ _ _ _ (omega arith) (omega arith) (omega arith) _ s.1 c.if-seen.false _ c.figures_at.ensures
    _ (rw c.requires.2 at c.is_against.ensures) c.if-is_against.false _ s.0 _ c.two_open.ensures c.if-two_open.false
    (sym c.lacks_place.ensures ∙ c.if-lacks_place.true)

pub returns-then-book-ge-NUMBERS : goal.returns-then-book-ge-NUMBERS
returns-then-book-ge-NUMBERS c =
    let s = c.unit_orders-seen.ensures in
    days_used _ _ _ _ _ _ (omega arith) (omega arith) (omega arith) _ s.1 c.if-seen.false _ c.figures_at.ensures
    _ (rw c.requires.2 at c.is_against.ensures) c.if-is_against.false _ s.0 _ c.two_open.ensures c.if-two_open.false
    (sym c.lacks_place.ensures ∙ c.if-lacks_place.false) (omega arith)

pub returns : goal.returns
returns c =
    let s = c.unit_orders-seen.ensures in
    days_pass _ _ _ _ _ _ (omega arith) (omega arith) (omega arith) _ s.1 c.if-seen.false _ c.figures_at.ensures
    _ (rw c.requires.2 at c.is_against.ensures) c.if-is_against.false _ s.0 _ c.two_open.ensures c.if-two_open.false
    (sym c.lacks_place.ensures ∙ c.if-lacks_place.false) (omega arith)
