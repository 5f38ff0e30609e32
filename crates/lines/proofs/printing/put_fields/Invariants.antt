use Rattle.std.proofs.Common.{◌≡◌, ◌+◌, ◌*◌, ◌≤◌, ◌++◌, length, take}
use Rattle.lines.specs.Printed.{spaced}
use Rattle.lines.proofs.printing.put_fields.Given as goal

abbrev pub invariant-loop-n : goal.invariant-loop-n
invariant-loop-n l =
    (l.out.items ≡ l.initial.out.items ++ spaced (take l.n-index l.numbers))
    × (length l.out.items ≤ length l.initial.out.items + 21 * l.n-index)
