-- `print_head`: the word, the number and the line end, one behind the other.
use Rattle.lines.proofs.PuttingLaws.{head_printed}
use Rattle.lines.proofs.printing.print_head.Goals as goal

pub returns-clause-puts : goal.returns-clause-puts
returns-clause-puts c = head_printed _ _ _ _ _ _ c.clear.ensures c.put_text.ensures c.put_field.ensures.puts c.put_text-2.ensures
