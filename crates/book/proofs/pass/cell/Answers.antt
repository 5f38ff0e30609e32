-- `cell`: the word stays low just where each word joined does, and then no sum wrapped.
use Rattle.std.proofs.Common.{ℕ, ◌+◌, ◌-◌, ◌%◌, refl, arith}
use Rattle.book.proofs.Laws.Check.CellLaws.{cell_same}
use Rattle.book.proofs.pass.cell.Goals as goal

pub returns : goal.returns
returns c =
    let a = c.args in
    let f = a.hour in
    let w : ℕ = 18446744073709551616 in
    let up = (f.held.0 + (f.raised.0 + a.x) % w) % w in
    let down = (f.lowered.0 + a.y) % w in
    cell_same a.bad f.held.0 f.raised.0 f.lowered.0 f.volume.0 a.limit a.x a.y
    _ up down ((a.limit + (w - up)) % w) ((f.held.0 + (w - down)) % w) _ _ _ _ _
    refl refl refl (omega arith) (omega arith)
    c.joined-a.ensures c.joined-b.ensures c.joined-c.ensures c.joined-d.ensures c.joined.ensures
    (omega arith) (omega arith) (omega arith) (omega arith) (omega arith)
