use lib.ListN.{length}
use Prim.Native.Nat.{◌+◌, ◌-◌, ◌≤◌}
use Rattle.matching.specs.Inner.Places.{fills_at}
use Rattle.matching.proofs.Laws.Rows.OverlapLaws.{Rowing}
use Rattle.matching.proofs.overlaps.put_overlaps.Given as goal

abbrev pub invariant-loop-i : goal.invariant-loop-i
invariant-loop-i l =
    let fb = fills_at l.orders.words.now l.bids.places.now l.bids.amounts.now in
    let fa = fills_at l.orders.words.now l.asks.places.now l.asks.amounts.now in
    (l.i ≤ length l.bids.places.now) × (l.j ≤ length l.asks.places.now)
    × Rowing l.period l.price.0 fb fa l.initial.rows l.rows l.i l.j l.a.0 l.e.0 l.count

abbrev pub decreases-loop-i : goal.decreases-loop-i
decreases-loop-i l = length l.bids.places.now + length l.asks.places.now - (l.i + l.j)
