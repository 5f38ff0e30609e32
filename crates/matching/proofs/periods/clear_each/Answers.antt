-- `clear_each`: the prices noted first; what is cleared and what is still to be cleared is the whole.
use native.Mathlib.Omega.{arith}
use Rattle.matching.proofs.Laws.Periods.PassingLaws.{passing_start, passing_more, passing_end}
use Rattle.matching.proofs.Laws.Periods.SkipLaws.{priced_after}
use Rattle.matching.proofs.periods.clear_each.Goals as goal

pub loop-p-init : goal.loop-p-init
loop-p-init c =
    let t = c.note_prices in
    let here = c.new-open.ensures in
    (passing_start _ _ _ _ c.requires.0, rw (here.0, here.1) at t.ensures)

pub loop-p-preserved : goal.loop-p-preserved
loop-p-preserved c =
    let l = c.loop-p in
    let t = c.clear_met-cleared in (
      passing_more _ _ _ _ c.requires.0 _ _ _ _ _ l.invariant.0 _ _ _ _ c.loop-p-test.true t.ensures t.auto.orders t.auto.rows,
      priced_after _ _ _ _ _ _ _ _ _ _ _ t.ensures l.invariant.1,
    )

pub returns : goal.returns
returns c =
    let l = c.loop-p in
    passing_end _ _ _ _ c.requires.0 _ _ _ _ _ l.invariant.0 (omega arith)
