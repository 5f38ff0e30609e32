-- `put_rows`: one row more.
use native.Mathlib.Omega.{arith}
use Rattle.lines.proofs.PuttingLaws.{joined_none, joined_more, joined_all}
use Rattle.lines.proofs.printing.put_rows.Goals as goal

pub loop-row-init : goal.loop-row-init
loop-row-init c = (joined_none _ c.as_chunks.result.0.now, omega arith)

pub loop-row-preserved : goal.loop-row-preserved
loop-row-preserved c =
    let p = c.put_row.ensures in
    let i = c.loop-row.invariant in
    (joined_more _ c.as_chunks.result.0.now _ _ _ c.loop-row-test.true i.0 p.puts, omega (arith, p.short, i.1))

pub returns-clause-puts : goal.returns-clause-puts
returns-clause-puts c = joined_all _ c.as_chunks.result.0.now _ _ _ _ c.as_chunks.ensures.front c.loop-row-test.false c.loop-row.invariant.0
