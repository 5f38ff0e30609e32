-- `close_gaps`: each order that stands moves up to the first free place, which never lies behind it.
use mathlib.Core.Path.{ap, ◌∙◌}
use native.Mathlib.Omega.{arith}
use lib.ListN.{set}
use Rattle.matching.specs.Orders.{Order}
use Rattle.matching.specs.Memory.{orders_in}
use Rattle.matching.proofs.Laws.Orders.TakingLaws.{closing_skip, closing_stay, closing_move, closing_end}
use Rattle.matching.proofs.rests.close_gaps.Goals.{then-to-k, else-to-k}
use Rattle.matching.proofs.rests.close_gaps.Goals as goal

pub loop-k-preserved-then-not-stands-k : goal.loop-k-preserved-then-not-stands-k
loop-k-preserved-then-not-stands-k c =
    closing_skip _ _ _ _ _ _ (omega arith) c.loop-k-test.true c.loop-k.invariant c.if-not-stands-k.true

pub loop-k-preserved : goal.loop-k-preserved
loop-k-preserved c =
    let l = c.loop-k in
    elim c.if-to-k.branch [
      | then-to-k w ↦ (rw w.orders-is
          (closing_move _ _ _ _ _ _ (omega arith) c.loop-k-test.true l.invariant _ c.if-not-stands-k.false
          (w.write_at.ensures.0 ∙ ap (λ (o : Order). set (orders_in l.orders c.args.n) l.to o) w.read-o.ensures)
          w.write_at.ensures.1))
      | else-to-k w ↦ (rw w.orders-is
          (closing_stay _ _ _ _ _ _ (omega arith) c.loop-k-test.true l.invariant c.if-not-stands-k.false (omega (arith, w.if-to-k.false, l.invariant.low))))
    ]

pub returns : goal.returns
returns c = (closing_end _ _ _ _ _ c.loop-k.k (omega arith) c.loop-k.invariant, c.loop-k.invariant.past)
