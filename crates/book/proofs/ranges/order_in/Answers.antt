-- `order_in`: a test that fails contradicts one of the order's facts; the quantity decides the rest.
use Rattle.std.proofs.Common.{sym, ◌∙◌, arith}
use Rattle.book.proofs.Laws.Memory.RangeFacts.{unit_test, order_fails, order_holds}
use Rattle.book.proofs.Laws.Memory.TestLaws.{is_below, not_below_lem, is_in, not_in, settles, where_err, where_ok, direction_most}
use Rattle.book.proofs.ranges.order_in.Goals as goal

pub returns-then-not-number_given : goal.returns-then-not-number_given
returns-then-not-number_given c = order_fails _ _ c.requires (λ h. not_in c.number_given.ensures c.if-not-number_given.true h.number)

pub returns-then-not-unit_known : goal.returns-then-not-unit_known
returns-then-not-unit_known c = order_fails _ _ c.requires (λ h. not_in (unit_test _ _ c.unit_known.ensures) c.if-not-unit_known.true h.unit)

pub returns-then-is_err : goal.returns-then-is_err
returns-then-is_err c =
    order_fails _ _ c.requires
    (λ h. where_err _ _ c.try_from.result c.try_from.ensures (λ e n. omega (arith, n, h.direction)) (sym c.is_err.ensures.value ∙ c.if-is_err.true))

pub returns-then-not-has : goal.returns-then-not-has
returns-then-not-has c =
    order_fails _ _ c.requires (λ h. let n = not_below_lem c.has.ensures c.if-not-has.true in omega (arith, n, h.period))

pub returns-then-not-price_in : goal.returns-then-not-price_in
returns-then-not-price_in c = order_fails _ _ c.requires (λ h. not_in c.price_in.ensures c.if-not-price_in.true h.price)

pub returns : goal.returns
returns c =
    let k = c.requires in
    settles _ _
    (λ t. order_holds _ _ k
    (record {
      number = is_in c.number_given.ensures c.if-not-number_given.false;
      unit = is_in (unit_test _ _ c.unit_known.ensures) c.if-not-unit_known.false;
      direction = where_ok _ _ c.try_from.result c.try_from.ensures (direction_most _) (sym c.is_err.ensures.value ∙ c.if-is_err.false);
      period = is_below c.has.ensures c.if-not-has.false;
      price = is_in c.price_in.ensures c.if-not-price_in.false;
      quantity = is_in c.can_be_declared.ensures t;
    }))
    (λ t. order_fails _ _ k (λ h. not_in c.can_be_declared.ensures t h.quantity))
