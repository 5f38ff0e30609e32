-- `write_parts`: the steps, one after the other.
use Prim.Native.Nat.{◌≤◌}
use lib.ListN.{length}
use native.Mathlib.Omega.{arith}
use Rattle.measures.proofs.LargestLaws.{edge_ties}
use Rattle.measures.proofs.SelectLaws.{
  divided_past,
  divided_few,
  divided_small,
  front-length,
  front_reach,
  settled_in_place,
}
use Rattle.measures.proofs.sharing.write_parts.Goals as goal
use Rattle.measures.proofs.sharing.write_parts.Goals.{After-divide-odd}

pub find_edge-edge-requires : goal.find_edge-edge-requires
find_edge-edge-requires c =
    let s = c.requires in
    let v = c.divide-odd.ensures in
    let l : length c.args.amounts.now ≤ length c.divide-odd.new.parts = omega arith in (
      s.some,
      s.small,
      rw (front-length _ _ l) (divided_few _ _ _ _ _ _ s v),
      divided_small _ _ _ _ _ _ s v,
      rw (front_reach _ _ l c.args.whole) (divided_past _ _ _ _ _ _ s v),
    )

pub ties_end-end-requires : goal.ties_end-end-requires
ties_end-end-requires c = edge_ties _ _ _ _ _ c.find_edge-edge.ensures.0

pub returns : goal.returns
returns c =
    let e = c.ties_end-end.ensures in
    settled_in_place _ _ _ _ _ _ c.requires c.divide-odd.ensures (omega arith) _ _ _ _ _ c.find_edge-edge.ensures.0 e.0 e.1 (omega arith) c.settle.ensures
    (omega arith) c.settle-2.ensures
