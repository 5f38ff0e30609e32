-- `has_book`: where an O was accepted and the day count is 1, the layout decides.
use mathlib.Core.Path.{sym, ◌∙◌}
use Rattle.measures.proofs.ListLaws.{both_ways}
use Rattle.lines.proofs.AnswerLaws.{layout_decides}
use Rattle.lines.proofs.steps.Memory.has_book.Goals.{then-self, else-self}
use Rattle.lines.proofs.steps.Memory.has_book.Goals as goal

pub returns-then-self-eq1 : goal.returns-then-self-eq1
returns-then-self-eq1 c = elim c.if-self.branch [
  | then-self w ↦ layout_decides _ c.args.self.now.book w.if-self.true (sym w.value-is ∙ c.if-self-eq1.true)
  | else-self w ↦ both_ways (sym c.if-self-eq1.true ∙ w.value-is ∙ w.if-self.false)
]
