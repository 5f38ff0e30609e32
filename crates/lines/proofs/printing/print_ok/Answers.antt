-- `print_ok`: the first line, then the rows.
use Rattle.lines.proofs.PuttingLaws.{ok_printed}
use Rattle.lines.proofs.printing.print_ok.Goals as goal

pub returns-clause-puts : goal.returns-clause-puts
returns-clause-puts c = ok_printed _ _ _ _ _ c.print_head.ensures.puts c.put_rows.ensures.puts
