-- `print_no`: two letters, the refusal and the line end.
use Rattle.lines.specs.Printed.{printed_no}
use Rattle.lines.proofs.printing.print_no.Goals as goal

pub returns-clause-puts : goal.returns-clause-puts
unfolding printed_no
returns-clause-puts c = c.print_head.ensures.puts
