-- `is_place`: the orders are there, so the place answers.
use mathlib.Core.Path.{refl}
use Rattle.matching.specs.Memory.{place_in}
use Rattle.matching.proofs.orders.is_place.Goals as goal

pub returns : goal.returns
unfolding place_in
returns c = rw (c.in-Some.ensures.0, c.in-Some.ensures.2) refl
