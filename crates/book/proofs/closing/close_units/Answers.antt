-- `close_units`: the day is over for each unit passed.
use Rattle.std.proofs.Common.{arith}
use Rattle.book.proofs.Laws.Close.ClosingLaws.{over_more, over_netted}
use Rattle.book.proofs.closing.close_units.Goals as goal

pub close_unit-requires : goal.close_unit-requires
close_unit-requires c =
    let l = c.loop-k in
    (omega arith, omega arith, over_netted _ _ _ _ l.invariant c.requires.2 (omega arith))

pub loop-k-preserved : goal.loop-k-preserved
loop-k-preserved c =
    let l = c.loop-k in
    over_more _ _ _ _ _ l.invariant c.close_unit.ensures
