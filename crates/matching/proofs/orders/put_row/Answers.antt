-- `put_row`: a row before the last that has room has room.
use Prim.Native.Nat.{◌+◌, ◌*◌}
use mathlib.Core.Path.{◌≡◌, sym, ◌∙◌}
use mathlib.Core.Bool.{true}
use native.Mathlib.Omega.{arith}
use lib.ListN.{length}
use borrow.Author.Tests.{le-leb, clash}
use Rattle.matching.specs.Memory.{room_for}
use Rattle.matching.proofs.orders.put_row.Goals as goal

pub put_row_at-requires : goal.put_row_at-requires
put_row_at-requires c = omega arith

pub returns : goal.returns
unfolding room_for
returns c =
    let a = c.args in
    let room : room_for a.rows.now a.n ≡ true = le-leb (6 * a.n + 6) (length a.rows.now) (omega arith) in
    record { there = sym room; row = λ e d rs l w. c.put_row_at.ensures d rs l w; stay = λ e. absurd (clash (sym e ∙ room)) }
