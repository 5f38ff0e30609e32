-- `write_points`: the points of the hours passed stand, and those to come follow.
use Rattle.std.proofs.Common.{◌+◌, ◌*◌, ◌∙◌, arith}
use Rattle.book.proofs.Laws.Curve.CurveLaws.{drawing_more, drawing_ends, net-figures}
use Rattle.book.proofs.curve.write_points.Goals as goal

pub loop-h-preserved : goal.loop-h-preserved
loop-h-preserved c =
    let l = c.loop-h in
    drawing_more _ _ _ _ _ _ _ l.invariant c.loop-h-test.true (omega arith)
    (c.net_at-net.ensures ∙ net-figures c.args.book.words.now c.args.k (24 * c.args.day + l.h) (omega arith) (omega arith))

pub returns : goal.returns
returns c = drawing_ends _ _ _ _ _ _ c.loop-h.invariant (omega arith)
