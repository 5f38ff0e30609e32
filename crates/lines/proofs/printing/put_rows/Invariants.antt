use Rattle.std.proofs.Common.{◌≡◌, ◌+◌, ◌*◌, ◌≤◌, ◌++◌, length, take}
use Rattle.lines.proofs.PuttingLaws.{joined}
use Rattle.lines.proofs.printing.put_rows.Given as goal

abbrev pub invariant-loop-row : goal.invariant-loop-row
invariant-loop-row l =
    (l.out.items ≡ l.initial.out.items ++ joined (take l.row-index l.whole))
    × (length l.out.items ≤ length l.initial.out.items + 128 * l.row-index)
