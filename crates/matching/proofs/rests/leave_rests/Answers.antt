-- `leave_rests`: the fills go off one side after the other, by numbers that stay, and the emptied orders go at the end.
use mathlib.Core.Path.{◌∙◌}
use Rattle.matching.proofs.Laws.Orders.TakingLaws.{rests_left}
use Rattle.matching.proofs.rests.leave_rests.Goals as goal

pub returns : goal.returns
returns c = (
  c.close_gaps.ensures.0 ∙ rests_left _ _ _ _ _ _ _ _ _ _ c.requires.1 c.requires.4 c.take_fills.ensures
      c.take_fills-2.ensures,
  c.close_gaps.ensures.1 ∙ c.take_fills-2.ensures.past ∙ c.take_fills.ensures.past,
)
