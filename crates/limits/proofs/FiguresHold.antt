-- The limits of figures 5 and 6 hold: the definitions compute them.
use mathlib.Core.Path.{refl}
use Rattle.limits.specs.Limits.{limits_at, hour_limit, term_limit, volume_limit}
use Rattle.limits.specs.Figures.{AllLimited, figure5, figure6}

pub figure5-holds : AllLimited figure5
unfolding limits_at hour_limit term_limit volume_limit
figure5-holds = (refl, tt)

pub figure6-holds : AllLimited figure6
unfolding limits_at hour_limit term_limit volume_limit
figure6-holds = (refl, (refl, (refl, (refl, tt))))
