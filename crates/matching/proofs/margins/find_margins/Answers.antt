-- `find_margins`: a bid and an ask that meet are met for the smaller of what is left of them; the laws say what the walk has found where it ends.
use Prim.Native.Nat.{min}
use mathlib.Core.Path.{◌≡◌, sym, ◌∙◌}
use Rattle.std.proofs.Common.{rules}
use native.Mathlib.Omega.{arith}
use Rattle.matching.proofs.Laws.Laying.LayingLaws.{stand_below}
use Rattle.matching.proofs.Laws.Clearing.PlaceLaws.{walk_at_bid, walk_at_ask, walk_at_takes}
use Rattle.matching.proofs.Laws.Clearing.PlaceLaws.{walk_at_bids_end, walk_at_asks_end, walk_at_apart}
use borrow.Author.Tests.{eqb-true, eqb-false, leb-true, leb-false}
use Rattle.matching.proofs.margins.find_margins.Goals as goal

pub returns-then-j-asks : goal.returns-then-j-asks
returns-then-j-asks c =
    walk_at_asks_end _ _ _ _ _ _ _ _ _ _ _ c.requires.1 c.loop-i.invariant (omega arith)

pub read-s-requires : goal.read-s-requires
read-s-requires c =
    let b = stand_below _ _ _ _ c.loop-i.j c.requires.1.asks_stand (omega arith) in
    omega arith

pub returns-then-not-meets : goal.returns-then-not-meets
returns-then-not-meets c =
    let l = c.loop-i in
    walk_at_apart _ _ _ _ _ _ _ _ _ _ _ c.requires.1 l.invariant _ _ c.loop-i-test.true (omega (arith, l.invariant.asks_in, c.if-j-asks.false))
    c.read-b.ensures (rw c.requires.0 at c.read-s.ensures) (leb-false _ _ (sym c.meets.ensures ∙ c.if-not-meets.true))

pub loop-i-preserved-then-eq : goal.loop-i-preserved-then-eq
loop-i-preserved-then-eq c =
    walk_at_bid _ _ _ _ _ _ _ _ _ _ _ c.requires.1 c.loop-i.invariant _ c.loop-i-test.true
    (eqb-true _ _ (sym c.eq.ensures ∙ c.if-eq.true)) c.open_at-demand-then-eq.ensures

pub loop-i-preserved-then-eq-2 : goal.loop-i-preserved-then-eq-2
loop-i-preserved-then-eq-2 c =
    let l = c.loop-i in
    walk_at_ask _ _ _ _ _ _ _ _ _ _ _ c.requires.1 l.invariant _ (omega (arith, l.invariant.asks_in, c.if-j-asks.false))
    (eqb-true _ _ (sym c.eq-else-eq.ensures ∙ c.if-eq-2.true)) (rw c.requires.0 at c.open_at-supply-then-eq-2.ensures)

pub loop-i-preserved : goal.loop-i-preserved
loop-i-preserved c =
    let l = c.loop-i in
    let least : c.min-x.result.0 ≡ min l.demand.0 l.supply.0 = search rules in
    walk_at_takes _ _ _ _ _ _ _ _ _ _ _ c.requires.1 l.invariant _ _ c.loop-i-test.true (omega (arith, l.invariant.asks_in, c.if-j-asks.false))
    c.read-b.ensures (rw c.requires.0 at c.read-s.ensures) _ _ _ _ (leb-true _ _ (sym c.meets.ensures ∙ c.if-not-meets.false))
    (eqb-false _ _ (sym c.eq.ensures ∙ c.if-eq.false)) (eqb-false _ _ (sym c.eq-else-eq.ensures ∙ c.if-eq-2.false))
    least c.minus-demand.ensures c.minus-supply.ensures c.plus-volume.ensures

pub returns : goal.returns
returns c =
    walk_at_bids_end _ _ _ _ _ _ _ _ _ _ _ c.requires.1 c.loop-i.invariant (omega arith)
