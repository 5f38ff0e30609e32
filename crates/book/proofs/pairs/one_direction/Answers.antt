-- `one_direction`: no order of the unit and the period stands before it, or the one found stands for all.
use Rattle.std.proofs.Common.{arith}
use Rattle.book.proofs.Laws.Check.TogetherLaws.{direction_alone, direction_tested}
use Rattle.book.proofs.pairs.one_direction.Goals as goal

pub returns-in_default : goal.returns-in_default
returns-in_default c =
    let n = c.args.book.ranged.readable.orders_to in
    direction_alone _ _ (omega arith) c.in_default.ensures

pub returns : goal.returns
returns c =
    let n = c.args.book.ranged.readable.orders_to in
    direction_tested _ _ (omega arith) _ c.in-Some.ensures c.requires.1
