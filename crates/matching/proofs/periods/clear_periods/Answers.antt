-- `clear_periods`: orders that do not fit stay; others are cleared period by period.
use mathlib.Core.Path.{sym, ◌∙◌}
use Rattle.matching.proofs.Laws.Orders.FitLaws.{below_gives}
use Rattle.matching.proofs.Laws.Periods.PassingLaws.{clearable}
use Rattle.matching.proofs.periods.clear_periods.Goals as goal

pub clear_each-requires : goal.clear_each-requires
clear_each-requires c =
    let e = sym c.fits_below.ensures ∙ c.if-not-fits_below.false in
    (clearable _ _ _ _ e, (below_gives _ _ _ _ e).2)
