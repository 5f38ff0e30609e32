-- `clear_met`: no prices meet, or the period is cleared.
use mathlib.Core.Path.{sym, ◌∙◌}
use Rattle.matching.proofs.Laws.Periods.SkipLaws.{stepped_by}
use Rattle.matching.proofs.periods.clear_met.Goals as goal

pub returns-then-not-meet : goal.returns-then-not-meet
returns-then-not-meet c =
    let a = c.args in
    stepped_by a.orders.now a.rows.now a.cleared.standing a.period a.cleared.count a.prices.now.high a.prices.now.low c.requires.2 c.requires.1
    (sym c.meet.ensures ∙ c.if-not-meet.true)
