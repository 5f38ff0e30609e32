-- `take_fills`: numbers stay, so each fill finds its order at its place.
use mathlib.Core.Logic.{inl, inr}
use Rattle.matching.proofs.Laws.Orders.TakingLaws.{taking-more, taking_end, no_places, no_amounts}
use Rattle.matching.proofs.rests.take_fills.Goals as goal

pub loop-p-preserved : goal.loop-p-preserved
loop-p-preserved c =
    taking-more _ _ _ _ _ _ _ _ _ _ _ _ _ (rw (c.in-Some.ensures.steps.0, c.in-Some.ensures.steps.1) at c.loop-p.invariant) c.take_fill.ensures

pub returns : goal.returns
returns c =
    elim c.in-None.ensures.steps [
      | inl w ↦ taking_end _ _ _ _ _ _ _ _ _ (no_places _ _ _ w.1.0) c.loop-p.invariant
      | inr w ↦ taking_end _ _ _ _ _ _ _ _ _ (no_amounts _ _ _ w.1.0) c.loop-p.invariant
    ]
