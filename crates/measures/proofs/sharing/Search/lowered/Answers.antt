-- `lowered`: no fraction lies from above the largest of those below m to m.
use mathlib.Core.Path.{◌∙◌}
use native.Mathlib.Omega.{arith}
use Rattle.measures.specs.Inner.Cuts.{higher_below}
use Rattle.measures.proofs.LargestLaws.{folded_along, between_sunk}
use Rattle.measures.proofs.sharing.Search.lowered.Goals as goal

pub overflow_add-best : goal.overflow_add-best
overflow_add-best c =
    let s = c.requires in
    let b = c.args.self.now.between in
    let l = between_sunk _ _ _ _ _ _ _ b _ _ _ s.0 s.1 s.2 s.3 (c.highest-best.ensures ∙ folded_along (higher_below c.args.m) _ _) in
    omega (arith, b.range, l.1)

pub moved-requires-2 : goal.moved-requires-2
moved-requires-2 c =
    let s = c.requires in
    (between_sunk _ _ _ _ _ _ _ c.args.self.now.between _ _ _ s.0 s.1 s.2 s.3 (c.highest-best.ensures ∙ folded_along (higher_below c.args.m) _ _)).0

pub returns : goal.returns
returns c =
    let s = c.requires in
    let b = c.args.self.now.between in
    let l = between_sunk _ _ _ _ _ _ _ b _ _ _ s.0 s.1 s.2 s.3 (c.highest-best.ensures ∙ folded_along (higher_below c.args.m) _ _) in
    let e = c.moved-2.ensures in
    record { parts = e.0; wanted = e.1; less = rw (e.2, e.3) (omega (arith, b.order, l.1)) }
