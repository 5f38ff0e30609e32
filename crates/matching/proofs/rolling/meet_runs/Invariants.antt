use Prim.Native.Nat.{◌-◌, ◌≤◌, ◌<◌}
use mathlib.Core.Path.{◌≡◌}
use lib.ListN.{length}
use Rattle.matching.specs.Memory.{as_order}
use Rattle.matching.proofs.Laws.Laying.RunLaws.{Found}
use Rattle.matching.proofs.Laws.Rolling.TurnLaws.{MetSoFar}
use Rattle.matching.proofs.rolling.meet_runs.Given as goal

abbrev pub invariant-loop-j : goal.invariant-loop-j
invariant-loop-j l =
    let s = l.runs in
    let d = 1 - l.incoming.order.direction in
    (l.j ≤ s.count)
    × Found l.orders.words.now s.keys s.places s.heads s.ends d l.orders.count s.count l.j l.best

abbrev pub invariant-meeting : goal.invariant-meeting
invariant-meeting l =
    let s = l.runs in
    let d = 1 - l.incoming.order.direction in
    (length s.places ≡ 256) × (length s.heads ≡ 16) × (length l.met ≡ length l.initial.met)
    × (length l.taken ≡ length l.initial.taken) × (length l.rows ≡ length l.initial.rows) × (0 < l.left.0)
    × MetSoFar l.orders.words.now s.keys s.places s.ends d l.orders.count s.count (as_order l.incoming.order) l.initial.rows s.heads
    l.met l.taken l.rows l.left.0 l.count

abbrev pub decreases-meeting : goal.decreases-meeting
decreases-meeting l = l.orders.count - l.count
