-- `after_letter`: a space follows the letter, or the line is not understood.
use Rattle.lines.proofs.ReadingLaws.{letter_space, letter_lost}
use borrow.Author.Rules.{rules}
use Rattle.lines.proofs.reading.after_letter.Goals as goal

pub returns-in-32 : goal.returns-in-32
returns-in-32 c = λ ns. letter_space ns _ _ c.in-32.is

pub returns-in_default : goal.returns-in_default
returns-in_default c = λ ns. letter_lost ns _ _ (search rules)
