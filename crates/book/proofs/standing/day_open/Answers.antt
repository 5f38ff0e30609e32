-- `day_open`: no offer of the unit and no order of the unit and day is nothing open.
use Rattle.std.proofs.Common.{sym, ◌∙◌}
use Rattle.book.proofs.Laws.Check.OpenDayLaws.{day_idle}
use Rattle.book.proofs.standing.day_open.Goals as goal

pub returns : goal.returns
returns c =
    let u = c.args.unit.at in
    λ h. day_idle _ _ _ u.book.ranged u.placed _ (sym c.is_some.ensures ∙ h) c.day_head.ensures c.requires.1
