-- `with`: a first direction, the other one, or one that the mark has.
use Rattle.std.proofs.Common.{◌≡◌, ◌-◌, sym, ◌∙◌, arith}
use Rattle.matching.specs.Memory.{direction_number}
use Rattle.matching.proofs.Laws.Laying.KeyLaws.{direction_few}
use Rattle.book.proofs.Laws.Rows.BookingLaws.{mark_none, mark_other, mark_own}
use Rattle.book.proofs.trades.Mark.with.Goals as goal

pub returns-then-eq : goal.returns-then-eq
returns-then-eq c = c.of.ensures ∙ mark_none _ _ (sym c.eq.ensures ∙ c.if-eq.true)

pub returns-then-eq-2 : goal.returns-then-eq-2
returns-then-eq-2 c =
    let e : c.of-2.result.0 ≡ 2 - direction_number c.args.direction = omega (arith, direction_few c.args.direction) in
    mark_other _ _ (sym c.eq.ensures ∙ c.if-eq.false) (rw (← e) (sym c.eq-2.ensures ∙ c.if-eq-2.true))

pub returns : goal.returns
returns c =
    let e : c.of-2.result.0 ≡ 2 - direction_number c.args.direction = omega (arith, direction_few c.args.direction) in
    mark_own _ _ (sym c.eq.ensures ∙ c.if-eq.false) (rw (← e) (sym c.eq-2.ensures ∙ c.if-eq-2.false))
