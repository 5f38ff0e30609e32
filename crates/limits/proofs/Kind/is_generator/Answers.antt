-- `is_generator`: kinds 1 and 2 are, and the others are not.
use Rattle.limits.proofs.LimitLaws.{generates, draws}
use Rattle.limits.proofs.Kind.is_generator.Goals as goal

pub returns-in-Solar : goal.returns-in-Solar
returns-in-Solar c = generates c.args.self c.in-Solar.is

pub returns-in_default : goal.returns-in_default
returns-in_default c = draws c.args.self c.in_default.not-Solar c.in_default.not-Generator
