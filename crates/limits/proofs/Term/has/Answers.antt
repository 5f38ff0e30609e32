-- `has`: a period divided by 24 is its day.
use Rattle.limits.proofs.LimitLaws.{period_divided}
use Rattle.limits.proofs.Term.has.Goals as goal

pub returns : goal.returns
returns c = period_divided _ _
