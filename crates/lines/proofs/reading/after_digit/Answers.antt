-- `after_digit`: a digit more makes ten times the value and the digit, below 2^32.
use native.Mathlib.Omega.{arith}
use Rattle.lines.proofs.ReadingLaws.{digit_low_lost, digit_high_lost, digit_large, digit_more}
use Rattle.lines.proofs.reading.after_digit.Goals as goal

pub returns-in_default-clause-more : goal.returns-in_default-clause-more
returns-in_default-clause-more c = λ ne ns. digit_low_lost ns _ _ _ _ ne (omega arith)

pub returns-in_default-2-clause-more : goal.returns-in_default-2-clause-more
returns-in_default-2-clause-more c = λ ne ns. digit_high_lost ns _ _ _ _ (omega arith)

pub returns-in-Some-clause-more : goal.returns-in-Some-clause-more
returns-in-Some-clause-more c = λ ne ns. digit_more ns _ _ _ _ _ (omega arith) (omega arith) c.in-Some.ensures.0 c.in-Some.ensures.1

pub returns-in-None-clause-more : goal.returns-in-None-clause-more
returns-in-None-clause-more c = λ ne ns. digit_large ns _ _ _ _ ne c.in-None.ensures
