-- `is_against`: both directions, or the other one alone.
use Rattle.std.proofs.Common.{◌≡◌, ◌-◌, sym, ◌∙◌, arith}
use Rattle.matching.specs.Memory.{direction_number}
use Rattle.matching.proofs.Laws.Laying.KeyLaws.{direction_few}
use Rattle.book.proofs.Laws.Order.OrderCheckLaws.{mark_both, mark_one}
use Rattle.book.proofs.trades.Mark.is_against.Goals as goal

pub returns-then-eq : goal.returns-then-eq
returns-then-eq c = mark_both _ _ (sym c.eq.ensures ∙ c.if-eq.true)

pub returns : goal.returns
returns c =
    let d = direction_number c.args.direction in
    let e : c.of.result.0 ≡ 2 - d = omega (arith, direction_few c.args.direction) in
    c.eq-2.ensures ∙ rw e (mark_one d _ (omega (arith, direction_few c.args.direction)) (sym c.eq.ensures ∙ c.if-eq.false))
