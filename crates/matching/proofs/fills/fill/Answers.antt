-- `fill`: the two picks are all orders at or above the margin's price, and what better ones leave is within the margin's.
use Prim.Native.Nat.{ℕ, ◌+◌, ◌≤◌}
use mathlib.Core.Path.{◌∙◌}
use mathlib.Core.List.{List}
use native.Mathlib.Omega.{arith}
use lib.ListN.{length, take}
use Rattle.matching.specs.declared.fills.Which.TheVariants.{Better, Margin}
use Rattle.matching.specs.Inner.Places.{picked}
use Rattle.matching.proofs.Laws.Clearing.PickLaws.{sum_total, both_few, better_sum, side-filled}
use Rattle.matching.proofs.fills.fill.Goals as goal
use Rattle.matching.proofs.fills.fill.Goals.{Start}

few : (s : Start)
    → length (picked s.args.laid.orders.words.now (Better s.args.direction) s.args.margin.0 s.args.laid.places.now)
    + length (picked s.args.laid.orders.words.now Margin s.args.margin.0 s.args.laid.places.now)
    ≤ s.args.laid.orders.count
few s =
    let a = s.args in
    both_few a.laid.orders.words.now a.laid.places.now a.laid.orders.count a.direction a.margin.0 a.volume.0 a.laid.stand s.requires

abbrev Room : ℕ → List ℕ → Type 0
Room n l = n ≤ length l

pub pick-better-requires : goal.pick-better-requires
pick-better-requires c =
    let w = few (goal.at.pick-better-requires c).Start in
    omega arith

pub pick-all-requires : goal.pick-all-requires
pick-all-requires c =
    let w = few (goal.at.pick-all-requires c).Start in
    let e = c.pick-better.ensures.count in
    omega arith

pub together-first-requires : goal.together-first-requires
together-first-requires c =
    let k = c.pick-better in
    let t = better_sum c.args.laid.orders.words.now c.args.laid.places.now c.args.laid.orders.count c.args.direction c.args.margin.0
    c.args.volume.0 c.args.laid.stand c.requires _ _ _ _ _ k.ensures in
    omega (arith, t, sum_total (take c.pick-better.result k.new.amounts), c.requires.small)

pub slice_bounds-share-end : goal.slice_bounds-share-end
slice_bounds-share-end c =
    let w = few (goal.at.slice_bounds-share-end c).Start in
    let e = c.pick-better.ensures.count in
    let f = c.pick-all.ensures.count in
    omega arith

pub slice_bounds-share-end-2 : goal.slice_bounds-share-end-2
slice_bounds-share-end-2 c =
    let w = few (goal.at.slice_bounds-share-end-2 c).Start in
    let e = c.pick-better.ensures.count in
    let f = c.pick-all.ensures.count in
    omega arith

pub returns : goal.returns
returns c =
    let a = c.args in
    let k = c.pick-better in
    let o = c.pick-all in
    let to1 : Room a.laid.orders.count o.new.to = omega (arith, c.args.laid.orders.few) in
    let am1 : Room a.laid.orders.count k.new.amounts = omega (arith, c.args.laid.orders.few) in
    let op1 : Room a.laid.orders.count o.new.amounts = omega (arith, c.args.laid.orders.few) in
    side-filled a.laid.orders.words.now a.laid.places.now a.laid.orders.count a.direction a.margin.0 a.volume.0 c.args.laid.stand c.requires _ _ _ _ _
    k.ensures _ _ _ _ o.ensures
    to1 am1 c.args.laid.orders.few op1 _ _ (c.together-first.ensures ∙ sum_total _) c.minus.ensures _ _ c.share.ensures
