-- `close_block`: the hours passed have their nets, the others are as before; then nothing is traded.
use Rattle.std.proofs.Common.{◌≡◌, arith}
use Rattle.book.proofs.Laws.Close.ClosingLaws.{held_none, held_more, closed}
use Rattle.book.proofs.closing.close_block.Goals as goal

pub loop-h-init : goal.loop-h-init
loop-h-init c = held_none _ _

pub loop-h-preserved : goal.loop-h-preserved
loop-h-preserved c = held_more _ _ _ _ c.loop-h.invariant (omega arith) (omega arith)

pub returns : goal.returns
returns c =
    let e : c.loop-h.h ≡ 24 = omega arith in
    closed _ _ _ _ (rw e at c.loop-h.invariant) c.empty.ensures
