-- `reaching`: the count is that of the places before.
use Prim.Native.Nat.{◌+◌}
use mathlib.Core.Path.{sym}
use native.Mathlib.Omega.{arith}
use Rattle.measures.specs.Inner.Cuts.{rest}
use lib.Dec.{leb}
use Rattle.measures.proofs.SelectLaws.{byte_one}
use Rattle.measures.proofs.LargestLaws.{reach_none, reach-more, reach_le}
use Rattle.measures.proofs.sharing.reaching.Goals as goal

pub loop-part-init : goal.loop-part-init
loop-part-init c = sym (reach_none _ _)

pub overflow_add-count : goal.overflow_add-count
overflow_add-count c =
    let a = c.args in
    let w = rest a.parts.now in
    omega (arith, byte_one (leb a.m (rest a.parts.now c.loop-part.part-index)), reach-more w c.loop-part.part-index a.m, reach_le w (c.loop-part.part-index + 1) a.m)

pub loop-part-preserved : goal.loop-part-preserved
loop-part-preserved c =
    let a = c.args in
    omega (arith, byte_one (leb a.m (rest a.parts.now c.loop-part.part-index)), reach-more (rest a.parts.now) c.loop-part.part-index a.m)
