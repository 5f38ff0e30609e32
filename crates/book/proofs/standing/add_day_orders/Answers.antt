-- `add_day_orders`: the orders of the unit and day are walked, last first, and those passed have their quantities added.
use Rattle.std.proofs.Common.{arith}
use Rattle.book.proofs.Laws.Check.OpenDayLaws.{walking_starts, walking_more, walking_ends}
use Rattle.book.proofs.Laws.Check.UnitsFitLaws.{direction_is}
use Rattle.book.proofs.standing.add_day_orders.Goals as goal

pub loop-next-init : goal.loop-next-init
loop-next-init c =
    let u = c.args.unit.at in
    walking_starts _ _ _ u.book.ranged u.placed _ _ _ c.day_head-next.ensures

pub loop-next-preserved : goal.loop-next-preserved
loop-next-preserved c =
    let u = c.args.unit.at in
    let w = rw c.in-Some.is at c.loop-next.invariant in
    rw c.before-next.ensures
    (walking_more _ _ _ u.book.ranged u.placed _ _ _ _ _ _ w (c.args.unit.linked.chain _ (omega (arith, w.few))) c.add_order.ensures)

pub returns : goal.returns
returns c =
    let u = c.args.unit.at in
    walking_ends _ _ _ u.book.ranged u.placed _ _ _ (rw c.in_default.is at c.loop-next.invariant)
    (direction_is _ _ u.placed _ (rw c.number.ensures at c.raising_direction-direction.ensures))
