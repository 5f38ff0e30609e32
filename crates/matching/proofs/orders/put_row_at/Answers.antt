-- `put_row_at`: six stores behind the rows that stand.
use Prim.Native.Nat.{◌+◌, ◌*◌, ◌≤◌}
use native.Mathlib.Numerals.{add-one, add-two, add-three, add-four, add_five}
use lib.ListN.{length}
use Rattle.matching.specs.Memory.{written, as_row}
use Rattle.matching.proofs.Laws.Orders.RowLaws.{written-more}
use Rattle.matching.proofs.orders.put_row_at.Goals as goal

pub returns : goal.returns
returns c d rs e h =
    let n = c.args.n in
    let l : 6 * n + 6 ≤ length (written d rs) = rw h at c.requires in
    rw (h, add-one (6 * n), add-two (6 * n), add-three (6 * n), add-four (6 * n), add_five (6 * n)) (written-more d rs (as_row c.args.r) n e l)
