-- `narrowed`: the place looked at lies between the bounds, and the count says which of them moves there.
use native.Mathlib.Omega.{arith}
use Rattle.measures.proofs.sharing.Search.narrowed.Goals as goal

pub raised-requires : goal.raised-requires
raised-requires c = (c.look-m.ensures.0, c.look-m.ensures.1, c.reaching-count.ensures, omega arith)

pub lowered-requires : goal.lowered-requires
lowered-requires c = (c.look-m.ensures.0, c.look-m.ensures.1, c.reaching-count.ensures, omega arith)
