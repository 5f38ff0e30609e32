-- `meet_runs`: the matches so far, then those still to come, are the whole; each turn makes the first of those to come.
use Prim.Native.Nat.{◌-◌}
use mathlib.Core.Path.{◌≡◌, refl, sym, ◌∙◌}
use mathlib.Core.List.{map}
use native.Mathlib.Omega.{arith}
use borrow.Author.Tests.{eqb-true, eqb-false}
use lib.ListN.{length-set}
use Rattle.matching.specs.Memory.{as_order}
use Rattle.matching.specs.Rolling.{match_row}
use Rattle.matching.proofs.Laws.Laying.RunLaws.{found_start, found_next, found_first}
use Rattle.matching.proofs.Laws.Rolling.TurnLaws.{meeting_start, meeting_room, meeting_more, ends_spent, ends_alone, ends_full}
use Rattle.matching.proofs.rolling.meet_runs.Goals as goal

pub meeting-init : goal.meeting-init
meeting-init c =
    (omega arith, omega arith, refl, refl, refl, c.requires.1, meeting_start _ _ _ _ _ _ _ _ _ _ _ c.requires.3)

pub loop-j-init : goal.loop-j-init
loop-j-init c =
    let s = c.meeting.runs in
    (omega arith, found_start c.args.orders.words.now s.keys s.places s.heads s.ends (1 - c.args.incoming.order.direction) c.args.orders.count s.count)

pub loop-j-preserved : goal.loop-j-preserved
loop-j-preserved c =
    let i = c.meeting.invariant in
    let g = i.6 in (
      omega (arith, c.loop-j-test.true),
      found_next _ _ _ _ _ _ _ _ g.runs c.requires.0 (omega (arith, i.0, c.args.orders.few)) _ c.loop-j-test.true _ _
          c.nearer-best.ensures c.loop-j.invariant.1,
    )

pub match_at-x-requires : goal.match_at-x-requires
match_at-x-requires c =
    let i = c.meeting.invariant in
    let l = c.loop-j in
    let g = i.6 in
    let few = g.runs.few in
    let f = found_first _ _ _ _ _ _ _ _ l.j _ g.runs (omega (arith, i.0, c.args.orders.few)) (omega (arith, few, i.1, c.args.orders.few))
    (omega (arith, l.invariant.0, c.loop-j-test.false)) (rw c.in-Some.is at l.invariant.1) in
    let w = meeting_room _ _ _ _ _ _ _ _ _ _ _ _ _ _ _ g _ 0 0 f (omega (arith, i.0, c.args.orders.few)) (omega (arith, few, i.1, c.args.orders.few))
    (omega (arith, c.args.orders.few)) (omega (arith, c.args.orders.few)) in
    omega (arith, w, c.take_first-p.ensures.0, i.4, c.args.orders.few, c.requires.2, c.meeting-test.true)

pub meeting-preserved : goal.meeting-preserved
meeting-preserved c =
    let i = c.meeting.invariant in
    let l = c.loop-j in
    let g = i.6 in
    let few = g.runs.few in
    let f = found_first _ _ _ _ _ _ _ _ l.j _ g.runs (omega (arith, i.0, c.args.orders.few)) (omega (arith, few, i.1, c.args.orders.few))
    (omega (arith, l.invariant.0, c.loop-j-test.false)) (rw c.in-Some.is at l.invariant.1) in
    let t = c.take_first-p.ensures in
    let y = c.match_at-x.ensures in (
      rw t.1 i.0,
      rw t.1 (simp length-set i.1),
      simp length-set i.2,
      simp length-set i.3,
      omega (arith, c.match_at-x.auto.rows, i.4),
      omega (arith, eqb-false c.minus-left.result.0 0 (sym c.eq.ensures ∙ c.if-eq.false)),
      rw (t.1, c.minus-left.ensures)
          (meeting_more _ _ _ _ _ _ _ _ _ _ _ _ _ _ _ g c.in-Some.first.run _ _ f (omega (arith, i.0, c.args.orders.few))
          (omega (arith, few, i.1, c.args.orders.few))
          (omega (arith, c.args.orders.few)) (omega (arith, c.args.orders.few)) _ _ (omega (arith, i.5)) t.0 refl y.0
          (y.1 c.args.rows.now (map (match_row (as_order c.args.incoming.order)) g.done) g.counted g.handed)),
    )

pub returns-after-meeting : goal.returns-after-meeting
returns-after-meeting c = ends_full _ _ _ _ _ _ _ _ _ _ _ _ _ _ _ c.meeting.invariant.6 (omega (arith, c.meeting-test.false))

pub returns-in_default : goal.returns-in_default
returns-in_default c =
    let l = c.loop-j in
    let all : l.j ≡ c.meeting.runs.count = omega (arith, l.invariant.0, c.loop-j-test.false) in
    ends_alone _ _ _ _ _ _ _ _ _ _ _ _ _ _ _ c.meeting.invariant.6 (rw (c.in_default.is, all) at l.invariant.1)

pub returns-then-eq : goal.returns-then-eq
returns-then-eq c =
    let i = c.meeting.invariant in
    let l = c.loop-j in
    let g = i.6 in
    let few = g.runs.few in
    let f = found_first _ _ _ _ _ _ _ _ l.j _ g.runs (omega (arith, i.0, c.args.orders.few)) (omega (arith, few, i.1, c.args.orders.few))
    (omega (arith, l.invariant.0, c.loop-j-test.false)) (rw c.in-Some.is at l.invariant.1) in
    let t = c.take_first-p.ensures in
    let y = c.match_at-x.ensures in
    let z : c.minus-left.result.0 ≡ 0 = eqb-true _ _ (sym c.eq.ensures ∙ c.if-eq.true) in
    rw c.minus-left.ensures
    (ends_spent _ _ _ _ _ _ _ _ _ _ _ _ _ _ _
    (meeting_more _ _ _ _ _ _ _ _ _ _ _ _ _ _ _ g c.in-Some.first.run _ _ f (omega (arith, i.0, c.args.orders.few)) (omega (arith, few, i.1, c.args.orders.few))
    (omega (arith, c.args.orders.few)) (omega (arith, c.args.orders.few)) _ _ (omega (arith, i.5)) t.0 refl y.0
    (y.1 c.args.rows.now (map (match_row (as_order c.args.incoming.order)) g.done) g.counted g.handed))
    (sym c.minus-left.ensures ∙ z))
