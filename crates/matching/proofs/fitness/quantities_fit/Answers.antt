-- `quantities_fit`: the running sum and what stands from place k on make the whole.
use Prim.Native.Nat.{◌+◌, min}
use mathlib.Core.Path.{ap, ◌∙◌}
use native.Mathlib.Omega.{arith}
use Rattle.measures.specs.Ranges.{most_number}
use Rattle.matching.specs.Orders.{Order}
use Rattle.matching.proofs.Laws.Orders.FitLaws.{summing_more, summing_ends}
use Rattle.matching.proofs.fitness.quantities_fit.Goals as goal

pub loop-k-preserved : goal.loop-k-preserved
loop-k-preserved c =
    let l = c.loop-k in
    summing_more _ _ _ _ _ c.loop-k-test.true (c.plus-sum.ensures ∙ ap (λ (o : Order). min (l.sum.0 + o.quantity) most_number) c.read-o.ensures)
    l.invariant

pub returns : goal.returns
returns c = c.in_range.ensures ∙ summing_ends _ _ _ _ (omega arith) c.loop-k.invariant
