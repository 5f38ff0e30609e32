-- `raised`: no fraction lies from m to the smallest of those from m on.
use mathlib.Core.Path.{◌∙◌}
use native.Mathlib.Omega.{arith}
use Rattle.measures.specs.Inner.Cuts.{lower_from}
use Rattle.measures.proofs.LargestLaws.{folded_along, between_lifted}
use Rattle.measures.proofs.sharing.Search.raised.Goals as goal

pub overflow_add-low : goal.overflow_add-low
overflow_add-low c =
    let s = c.requires in
    let b = c.args.self.now.between in
    let l = between_lifted _ _ _ _ _ _ _ b _ _ _ s.1 s.2 s.3 (c.lowest-low.ensures ∙ folded_along (lower_from c.args.m) _ _) in
    omega (arith, b.range, l.2)

pub moved-requires-2 : goal.moved-requires-2
moved-requires-2 c =
    let s = c.requires in
    (between_lifted _ _ _ _ _ _ _ c.args.self.now.between _ _ _ s.1 s.2 s.3 (c.lowest-low.ensures ∙ folded_along (lower_from c.args.m) _ _)).0

pub returns : goal.returns
returns c =
    let s = c.requires in
    let b = c.args.self.now.between in
    let l = between_lifted _ _ _ _ _ _ _ b _ _ _ s.1 s.2 s.3 (c.lowest-low.ensures ∙ folded_along (lower_from c.args.m) _ _) in
    let e = c.moved-2.ensures in
    record { parts = e.0; wanted = e.1; less = rw (e.2, e.3) (omega (arith, b.order, l.1)) }
