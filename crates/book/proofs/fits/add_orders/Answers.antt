-- `add_orders`: the orders passed have what they have open added, if they are the unit's.
use Rattle.book.proofs.Laws.Check.OpenDayLaws.{orders_none, orders_own, orders_other}
use Rattle.book.proofs.fits.add_orders.Goals as goal
use Rattle.book.proofs.fits.add_orders.Goals.{then-book-k, else-book-k}

pub loop-k-init : goal.loop-k-init
loop-k-init c = orders_none _ _ _ _

pub loop-k-preserved : goal.loop-k-preserved
loop-k-preserved c =
    let o = c.loop-k.invariant in
    elim c.if-book-k.branch [
      | then-book-k w ↦ rw w.amounts-is
          (orders_own _ _ _ _ _ _ o c.args.book.ranged c.loop-k-test.true w.if-book-k.true _ w.add_order.ensures)
      | else-book-k w ↦ rw w.amounts-is (orders_other _ _ _ _ _ _ o w.if-book-k.false)
    ]
