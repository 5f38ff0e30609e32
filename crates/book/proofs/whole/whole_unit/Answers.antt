-- `whole_unit`: the pass over each day is that over its periods, with what is open.
use Rattle.std.proofs.Common.{refl, rules}
use Rattle.book.proofs.Laws.Check.UnitLaws.{unit_limited, unit_day}
use Rattle.book.proofs.whole.whole_unit.Goals as goal

pub returns : goal.returns
returns c =
    let u = c.args.unit.at in
    c.all_days.ensures _ (unit_limited _ _ _ _ u.book.ranged u.placed)
    (λ d s b p. unit_day _ _ _ _ u.book.ranged u.placed _ _ _ u.limited d _ _ _ _ (λ h l. refl) (λ h l. refl) (search rules))
