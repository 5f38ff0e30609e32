-- `take_off`: the amounts passed are less, the others are as they were.
use Rattle.std.proofs.Common.{◌≡◌, length, min, arith}
use Rattle.measures.proofs.LessLaws.{less_end}
use Rattle.measures.proofs.take_off.Goals as goal

pub returns : goal.returns
returns c =
    let e : c.loop-i.i ≡ min (length c.args.amounts.now) (length c.args.parts.now) = omega arith in
    less_end _ _ _ c.loop-i.auto.amounts (rw e at c.loop-i.invariant)
