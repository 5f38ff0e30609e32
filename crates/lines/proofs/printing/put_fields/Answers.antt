-- `put_fields`: one field more.
use native.Mathlib.Omega.{arith}
use Rattle.lines.proofs.PuttingLaws.{fields_none, fields_more}
use Rattle.lines.proofs.printing.put_fields.Goals as goal

pub loop-n-init : goal.loop-n-init
loop-n-init c = (fields_none _ c.args.numbers.now, omega arith)

pub loop-n-preserved : goal.loop-n-preserved
loop-n-preserved c =
    let p = c.put_field.ensures in
    let i = c.loop-n.invariant in
    (fields_more _ c.args.numbers.now _ _ _ c.loop-n-test.true i.0 p.puts, omega arith)
