-- `put_row`: `t`, six fields and the line end.
use Rattle.lines.proofs.PuttingLaws.{row_put}
use Rattle.lines.proofs.printing.put_row.Goals as goal

pub returns-clause-puts : goal.returns-clause-puts
returns-clause-puts c = row_put _ _ _ _ _ c.put_text.ensures c.put_fields.ensures.puts c.put_text-2.ensures
