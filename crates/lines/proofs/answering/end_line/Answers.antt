-- `end_line`: with nothing more to come, what is kept says what the line says.
use mathlib.Core.Logic.{inl, inr}
use native.Mathlib.Omega.{arith}
use Rattle.lines.proofs.ReadingLaws.{end_start, end_letter, end_space, end_many, end_number, end_lost}
use Rattle.lines.proofs.AnswerLaws.{heard}
use Rattle.lines.proofs.answering.end_line.Goals as goal

pub returns-then-count-ge27 : goal.returns-then-count-ge27
returns-then-count-ge27 c = rw c.in-Digits.is (end_many _ _ _ _ (omega arith) (omega arith))

pub returns-in-Letter : goal.returns-in-Letter
returns-in-Letter c = rw c.in-Letter.is (heard _ _ _ _ (end_letter c.args.numbers.now _) (omega arith) (omega arith) _ c.letter_with.ensures)

pub returns-else-count-ge27 : goal.returns-else-count-ge27
returns-else-count-ge27 c =
    rw c.in-Digits.is
    (heard _ _ _ _ (end_number _ _ _ _ (omega arith) (omega arith)) (omega arith) (omega arith) _ c.letter_with-in-Digits.ensures)

pub returns-in-Start : goal.returns-in-Start
returns-in-Start c =
    elim c.in-Start.is [ inl e ↦ rw e (end_start _) | inr s ↦ elim s [ inl e ↦ rw e.2 (end_space _ _ _) | inr e ↦ rw e (end_lost _) ] ]
