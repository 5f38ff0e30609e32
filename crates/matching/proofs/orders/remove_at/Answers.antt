-- `remove_at`: the words behind place k move up by one order.
use Prim.Native.Nat.{ℕ}
use mathlib.Core.Path.{ap, ◌∙◌}
use native.Mathlib.Omega.{arith}
use lib.ListN.{get_or}
use native.Mathlib.Numerals.{add-one}
use Rattle.matching.proofs.Laws.Orders.OrderLaws.{moved, moved_past}
use Rattle.matching.proofs.orders.remove_at.Goals as goal

pub returns : goal.returns
returns c =
    let b = c.copy_within.ensures.by_index in (
      rw (add-one c.args.k) (moved _ _ _ _ c.requires.1 (λ i l. b.1 i 0 l) (λ i l u. b.0 i 0 l (omega arith) ∙ ap (λ (j : ℕ). get_or c.args.orders.now j 0) (omega arith))),
      moved_past _ _ _ c.copy_within.ensures.len (λ i l. b.2 i 0 (omega arith)),
    )
