use lib.ListN.{length}
use Rattle.matching.proofs.Laws.Clearing.PlaceLaws.{WalkAt, turns}
use Rattle.matching.proofs.margins.find_margins.Given as goal

abbrev pub invariant-loop-i : goal.invariant-loop-i
invariant-loop-i l =
    WalkAt l.bids.orders.words.now l.bids.places.now l.asks.places.now l.i l.j l.demand.0 l.supply.0 l.margins.volume.0
    l.margins.bid.0 l.margins.ask.0

abbrev pub decreases-loop-i : goal.decreases-loop-i
decreases-loop-i l = turns (length l.bids.places.now) (length l.asks.places.now) l.i l.j l.demand.0 l.supply.0
