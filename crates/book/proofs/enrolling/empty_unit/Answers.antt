-- `empty_unit`: the days passed are 0, all other words are as before.
use Rattle.std.proofs.Common.{◌≡◌, arith}
use Rattle.book.specs.Layout.{DAYS, word}
use Rattle.book.proofs.Laws.Memory.RunLaws.{unit_emptied_none, unit_emptied_more}
use Rattle.book.proofs.enrolling.empty_unit.Goals as goal

pub loop-d-init : goal.loop-d-init
loop-d-init c = unit_emptied_none _ _

pub loop-d-preserved : goal.loop-d-preserved
loop-d-preserved c = unit_emptied_more _ _ _ _ _ c.requires.1 c.loop-d.invariant c.empty.ensures

pub returns : goal.returns
returns c =
    let l = c.loop-d in
    let e : l.d ≡ word c.args.book.now DAYS = omega arith in
    rw e at l.invariant
