-- `print_answer`: of the rows, those that are counted.
use mathlib.Core.Path.{◌∙◌}
use Rattle.lines.specs.Inner.Puts.{answer_text}
use Rattle.lines.proofs.PuttingLaws.{rows_counted}
use Rattle.lines.proofs.printing.print_answer.Goals as goal

pub returns-in-Ok : goal.returns-in-Ok
unfolding answer_text
returns-in-Ok c = rw c.in-Ok.is (c.print_ok.ensures.puts ∙ rows_counted _ _ _ (rw c.in-Ok.is at c.requires.counted))

pub returns-in-Err : goal.returns-in-Err
unfolding answer_text
returns-in-Err c = rw (c.in-Err.is, ← c.from.ensures) c.print_no.ensures.puts
