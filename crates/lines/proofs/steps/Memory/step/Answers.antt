-- `step`: the bytes before the first line end are read; at a line end the line is answered.
use mathlib.Core.Path.{sym}
use native.Mathlib.Omega.{arith}
use lib.Seq.{length-take-le}
use Rattle.lines.proofs.StepLaws.{until_within, stepped_on, stepped_line}
use Rattle.lines.proofs.steps.Memory.step.Goals as goal

pub slice_bounds-read_bytes-end : goal.slice_bounds-read_bytes-end
slice_bounds-read_bytes-end c =
    let w = until_within c.args.bytes.now in
    let e = c.line_end-end.ensures in
    sym (length-take-le _ _ (omega arith))

pub returns-then-end-bytes : goal.returns-then-end-bytes
returns-then-end-bytes c =
    stepped_on _ _ _ _ _ _ _ c.line_end-end.ensures c.read_bytes-self.ensures c.if-end-bytes.true _ c.clear.ensures

pub overflow_add-result : goal.overflow_add-result
overflow_add-result c = let w = until_within c.args.bytes.now in omega arith

pub returns : goal.returns
returns c = stepped_line _ _ _ _ _ _ _ c.line_end-end.ensures c.read_bytes-self.ensures _ _ _ _ c.if-end-bytes.false c.answer.ensures
