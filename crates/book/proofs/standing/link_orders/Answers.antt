-- `link_orders`: the orders passed are linked, by unit and day and by period.
use Rattle.std.proofs.Common.{refl, arith}
use Rattle.book.specs.Inner.Whole.{by_day, by_period}
use Rattle.book.proofs.Laws.Check.LinkedLaws.{linking_more, period_key, day_key}
use Rattle.book.proofs.standing.link_orders.Goals as goal

pub loop-k-preserved : goal.loop-k-preserved
unfolding by_day by_period
loop-k-preserved c =
    let t = c.loop-k-test.true in
    let i = c.loop-k.invariant in
    let m = c.args.book.words.now in
    let r = c.args.book.ranged in
    let g = c.requires in
    let d = c.link.ensures in
    let p = c.link-in-loop-k.ensures in (
      rw (d.0, d.1) (linking_more _ _ _ _ _ _ _ i.0 _ refl t (omega (arith, day_key m c.loop-k.k r t)) (omega (arith, t, g.1))),
      rw (p.0, p.1) (linking_more _ _ _ _ _ _ _ i.1 _ refl t (omega (arith, period_key m c.loop-k.k r t)) (omega (arith, t, g.4))),
    )
