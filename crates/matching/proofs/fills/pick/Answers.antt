-- `pick`: each chosen place joins those picked, and its order's quantity with it.
use mathlib.Core.Path.{sym, refl, ◌∙◌}
use native.Mathlib.Omega.{arith}
use Rattle.matching.proofs.Laws.Clearing.PickLaws.{picking_skip, picking_put, picking_room, picking_end}
use Rattle.matching.proofs.fills.pick.Goals.{then-at_price, else-at_price}
use Rattle.matching.proofs.fills.pick.Goals as goal

pub bounds-to-r : goal.bounds-to-r
bounds-to-r c =
    let g = c.loop-p.invariant in
    let b = picking_room _ _ _ _ _ _ _ _ _ _ _ (omega arith) _ c.read-o.ensures g (sym c.at_price.ensures ∙ c.if-at_price.true) in
    let l = g.long_to in
    omega arith

pub bounds-amounts-r : goal.bounds-amounts-r
bounds-amounts-r c =
    let g = c.loop-p.invariant in
    let b = picking_room _ _ _ _ _ _ _ _ _ _ _ (omega arith) _ c.read-o.ensures g (sym c.at_price.ensures ∙ c.if-at_price.true) in
    let l = g.long_am in
    omega arith

pub loop-p-preserved : goal.loop-p-preserved
loop-p-preserved c =
    let g = c.loop-p.invariant in
    elim c.if-at_price.branch [
      | then-at_price w ↦
          let t = sym c.at_price.ensures ∙ w.if-at_price.true in
          let b = picking_room _ _ _ _ _ _ _ _ _ _ _ (omega arith) _ c.read-o.ensures g t in
          let l = g.long_to in
          let k = g.long_am in
          rw (w.to-is, w.amounts-is, w.r-is)
          (picking_put _ _ _ _ _ _ _ _ _ _ _ (omega arith) _ c.read-o.ensures g t _ _ refl refl (omega arith) (omega arith))
      | else-at_price w ↦
          rw (w.to-is, w.amounts-is, w.r-is)
          (picking_skip _ _ _ _ _ _ _ _ _ _ _ (omega arith) _ c.read-o.ensures g (sym c.at_price.ensures ∙ w.if-at_price.false))
    ]

pub returns : goal.returns
returns c = picking_end _ _ _ _ _ _ _ _ _ _ c.loop-p.p-index (omega arith) c.loop-p.invariant
