-- `settle`: one place more.
use mathlib.Core.Path.{refl, ◌∙◌}
use native.Mathlib.Omega.{arith}
use Rattle.measures.proofs.SelectLaws.{byte_one, settled-more}
use Rattle.measures.proofs.sharing.settle.Goals as goal

pub loop-part-preserved : goal.loop-part-preserved
loop-part-preserved c =
    let l = c.loop-part in
    settled-more 0 l.part-index c.args.m c.args.parts.now l.parts _ (omega arith) (omega (arith, l.auto.parts, c.loop-part-test.true)) l.invariant
    (rw (c.from.ensures ∙ byte_one _) refl)
