-- `after_number`: the number goes to its place, or it is one too many.
use native.Mathlib.Omega.{arith}
use Rattle.lines.proofs.ReadingLaws.{number_many, number_large, number_ends}
use Rattle.lines.proofs.reading.after_number.Goals as goal

pub returns-then-count-ge26 : goal.returns-then-count-ge26
returns-then-count-ge26 c = number_many _ _ _ _ (omega arith) (omega arith)

pub returns-then-value-gt4294967295 : goal.returns-then-value-gt4294967295
returns-then-value-gt4294967295 c = number_large _ _ _ _ (omega arith)

pub returns : goal.returns
returns c = number_ends _ _ _ _ (omega arith) (omega arith) (omega arith)
