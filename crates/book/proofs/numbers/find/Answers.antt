-- `find`: the places before are passed, and this one has the number.
use Rattle.std.proofs.Common.{arith}
use Rattle.book.proofs.numbers.find.Goals as goal

pub returns-then-book-table : goal.returns-then-book-table
returns-then-book-table g c = record { there = omega arith; here = c.if-book-table.true; before = c.loop-k.invariant }
