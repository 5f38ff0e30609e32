-- `offers_rise`: numbers that rise by neighbours rise.
use Rattle.std.proofs.Common.{arith}
use Rattle.book.proofs.Laws.Check.NumberLaws.{climbing_rises, climbing_fails}
use Rattle.book.proofs.numbers.offers_rise.Goals as goal

pub returns-then-number-before : goal.returns-then-number-before
returns-then-number-before c =
    climbing_fails _ c.loop-j.j (omega arith) (omega arith) (omega arith)

pub returns : goal.returns
returns c =
    climbing_rises _ c.loop-j.j (omega arith) c.loop-j.invariant
