-- `rise`: numbers that rise by neighbours rise.
use mathlib.Core.Path.{sym, ap}
use native.Mathlib.Omega.{arith}
use Rattle.matching.specs.Orders.{Order}
use Rattle.matching.proofs.Laws.Orders.FitLaws.{climbs_rise, climbs_not, climbs_more}
use Rattle.matching.proofs.fitness.rise.Goals as goal

pub returns-then-o-before : goal.returns-then-o-before
returns-then-o-before c =
    let x = ap (λ (o : Order). o.number) c.read-o.ensures in
    let y = ap (λ (o : Order). o.number) c.read-before.ensures in
    sym (climbs_not _ _ c.loop-k.k c.loop-k.invariant.0 c.loop-k-test.true (omega (arith, x, y, c.if-o-before.true)))

pub loop-k-preserved : goal.loop-k-preserved
loop-k-preserved c =
    let i = c.loop-k.invariant in
    let x = ap (λ (o : Order). o.number) c.read-o.ensures in
    let y = ap (λ (o : Order). o.number) c.read-before.ensures in
    (omega arith, climbs_more _ _ i.0 (omega (arith, x, y, c.if-o-before.false)) i.1)

pub returns : goal.returns
returns c = sym (climbs_rise _ _ (λ j l. c.loop-k.invariant.1 j (omega arith)))
