-- `end`: a line that has begun is answered; else nothing is printed.
use mathlib.Core.Path.{sym, ◌∙◌}
use Rattle.lines.proofs.StepLaws.{ended_none, ended_last}
use Rattle.lines.proofs.steps.Memory.end.Goals as goal

pub returns-then-has_begun : goal.returns-then-has_begun
returns-then-has_begun c = ended_last _ _ _ _ _ _ (sym c.has_begun.ensures ∙ c.if-has_begun.true) c.answer.ensures

pub returns-else-has_begun : goal.returns-else-has_begun
returns-else-has_begun c = rw c.clear.ensures (ended_none _ _ _ (sym c.has_begun.ensures ∙ c.if-has_begun.false))
