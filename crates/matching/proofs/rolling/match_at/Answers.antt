-- `match_at`: the smaller of the two quantities, and the row of the order that stands there.
use mathlib.Core.Path.{ap, ◌∙◌}
use mathlib.Core.List.{[], ◌∷◌, ◌++◌}
use Rattle.std.proofs.Common.{rules}
use Rattle.matching.specs.Orders.{Row}
use Rattle.matching.specs.Memory.{written}
use Rattle.matching.proofs.Laws.Rolling.TurnLaws.{row_of}
use Rattle.matching.proofs.rolling.match_at.Goals as goal

pub returns : goal.returns
returns c = (
  search rules,
  λ m rs l h. c.put_row_at.ensures m rs l h ∙ ap (λ (r : Row). written m (rs ++ (r ∷ []))) (row_of _ _ _ _ _ c.match_row.ensures c.read-o.ensures),
)
