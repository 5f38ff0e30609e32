-- `checked`: what passes the tests is in its range.
use Prim.Native.Nat.{◌≤◌}
use mathlib.Core.Path.{sym, ◌∙◌}
use native.Mathlib.Omega.{arith}
use borrow.Author.Tests.{leb-true}
use Rattle.std.proofs.Common.{rules, tests}
use Rattle.measures.proofs.RangeLaws.{In}
use Rattle.limits.specs.Units.{most_capacity}
use Rattle.limits.proofs.LimitLaws.{unit_passes}
use Rattle.limits.proofs.Unit.checked.Goals as goal

pub returns-clause-refusal : goal.returns-clause-refusal
returns-clause-refusal c =
    let s = c.args.self in
    let r = c.new.result in
    let low : r.start ≤ s.capacity = search (rules, tests) in
    let high : s.capacity ≤ r.end = search (rules, tests) in
    let capacity : In 1 most_capacity s.capacity = (omega (arith, low, c.new.ensures.start), omega (arith, high, c.new.ensures.end)) in
    let asset = leb-true _ _ (sym c.in_range.ensures ∙ c.if-not-in_range.false) in
    unit_passes c.in_ok-kind.kind s.kind s.capacity s.asset.0 c.in_ok-kind.ensures capacity asset
