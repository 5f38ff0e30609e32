-- `unit_orders`: the sums of the places passed.
use Rattle.book.proofs.Laws.Order.OrderCheckLaws.{one_at_most, counting_more, counting_end, any_none, any_more, any_end}
use Rattle.std.proofs.Common.{sym, arith}
use Rattle.measures.proofs.ListLaws.{sum_none}
use Rattle.book.proofs.ordering.unit_orders.Goals as goal

pub loop-k-init : goal.loop-k-init
loop-k-init c = (omega arith, sym (sum_none _), any_none _)

pub loop-k-preserved : goal.loop-k-preserved
loop-k-preserved c =
    let g = c.loop-k.invariant in (
      omega (arith, one_at_most c.of_unit_at.result),
      counting_more _ _ _ _ _ g.1 c.from-stand.ensures c.of_unit_at.ensures,
      any_more _ _ _ _ g.2 c.against_at-against.ensures,
    )

pub returns : goal.returns
returns c = (counting_end _ _ _ _ c.loop-k.invariant.1 (omega arith), any_end _ _ _ _ c.loop-k.invariant.2 (omega arith))
