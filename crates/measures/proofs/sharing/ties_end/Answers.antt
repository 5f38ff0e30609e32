-- `ties_end`: what is still wanted and the ties before i are all that is wanted.
use native.Mathlib.Omega.{arith}
use Rattle.measures.specs.Inner.Cuts.{rest}
use Rattle.measures.proofs.LargestLaws.{ties_none, ties_hit, ties_miss}
use Rattle.measures.proofs.sharing.ties_end.Goals as goal
use Rattle.measures.proofs.sharing.ties_end.Goals.{then-part-at, else-part-at}

pub loop-i-init : goal.loop-i-init
loop-i-init c = omega (arith, ties_none (rest c.args.parts.now) c.args.at)

pub loop-i-preserved : goal.loop-i-preserved
loop-i-preserved c =
    let w = rest c.args.parts.now in
    elim c.if-part-at.branch [
      | then-part-at b ↦ omega (arith, ties_hit w c.loop-i.i c.args.at b.if-part-at.true)
      | else-part-at b ↦ omega (arith, ties_miss w c.loop-i.i c.args.at b.if-part-at.false)
    ]
