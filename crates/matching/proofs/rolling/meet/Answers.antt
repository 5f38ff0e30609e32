-- `meet`: orders that do not fit stay, an order of no direction or of which nothing is open meets none, and any other meets in turn.
use mathlib.Core.Path.{sym, ◌∙◌}
use native.Mathlib.Omega.{arith}
use borrow.Author.Tests.{eqb-true, eqb-false}
use Rattle.matching.proofs.Laws.Orders.FitLaws.{fit_gives}
use Rattle.matching.proofs.Laws.Orders.TakingLaws.{no_filling, no_rests}
use Rattle.matching.proofs.Laws.Rolling.TurnLaws.{turn_fills, meets_turn, meets_none, meets_spent}
use Rattle.matching.proofs.rolling.meet.Goals as goal

pub returns-in_default : goal.returns-in_default
returns-in_default c =
    meets_none _ _ _ _ c.in_ok-open.ensures.0 c.in_default.ensures

pub returns-then-eq : goal.returns-then-eq
returns-then-eq c =
    meets_spent _ _ _ _ c.in_ok-open.ensures.0 (eqb-true _ _ (sym c.eq.ensures ∙ c.if-eq.true))

pub meet_in_turn-meeting-requires : goal.meet_in_turn-meeting-requires
meet_in_turn-meeting-requires c =
    let f = fit_gives _ _ _ c.in_ok-open.ensures.0 in
    let few = f.few in
    let z = eqb-false c.args.incoming.quantity.0 0 (sym c.eq.ensures ∙ c.if-eq.false) in
    let here = c.in_ok-open.ensures in
    rw (here.1, here.2, c.in-Some.ensures) (f.rises, omega (arith, z), f.lent)

pub leave_rests-standing-requires : goal.leave_rests-standing-requires
leave_rests-standing-requires c =
    let e = c.in_ok-open.ensures.0 in
    let f = fit_gives _ _ _ e in
    let few = f.few in
    let here = c.in_ok-open.ensures in
    let turn = rw (here.1, here.2, c.in-Some.ensures) at c.meet_in_turn-meeting.ensures in
    (f.inside, few, f.rises, turn_fills _ _ _ _ _ _ _ _ _ turn e (omega arith) (omega arith), no_filling _)

pub returns : goal.returns
returns c =
    let here = c.in_ok-open.ensures in
    let turn = rw (here.1, here.2, c.in-Some.ensures) at c.meet_in_turn-meeting.ensures in
    meets_turn _ _ _ _ _ _ _ _ _ turn c.in_ok-open.ensures.0 _ _
    (c.leave_rests-standing.ensures.0 ∙ no_rests _ _) c.leave_rests-standing.ensures.1
