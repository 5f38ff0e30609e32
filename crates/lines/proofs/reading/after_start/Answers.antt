-- `after_start`: the first byte is the letter, unless it is a space.
use Rattle.lines.proofs.ReadingLaws.{start_space, start_letter}
use borrow.Author.Rules.{rules}
use Rattle.lines.proofs.reading.after_start.Goals as goal

pub returns-in-32 : goal.returns-in-32
returns-in-32 c = λ ns. start_space ns _ c.in-32.is

pub returns-in_default : goal.returns-in_default
returns-in_default c = λ ns. start_letter ns _ (search rules)
