-- `leave`: one store, at the quantity of place k.
use native.Mathlib.Omega.{arith}
use Prim.Native.Nat.{◌+◌, ◌*◌}
use lib.Seq.{drop-set-lt}
use Rattle.matching.proofs.Laws.Orders.OrderLaws.{left_at}
use Rattle.matching.proofs.orders.leave.Goals as goal

pub returns : goal.returns
returns c = (
  left_at _ _ _ _ c.requires.1 c.requires.0,
  drop-set-lt (6 * c.args.n) c.args.orders.now (6 * c.args.k + 5) c.args.q.0
      (omega arith),
)
