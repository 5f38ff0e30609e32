-- `day_sums`: the hours passed are joined.
use Rattle.std.proofs.Common.{refl, arith}
use Rattle.book.proofs.Laws.Check.PassLaws.{pass_none}
use Rattle.book.proofs.Laws.Check.UnitLaws.{limits_small}
use Rattle.book.proofs.Laws.Check.DayLaws.{hour_more}
use Rattle.book.proofs.pass.day_sums.Goals as goal

pub cell-requires : goal.cell-requires
cell-requires g c =
    let u = c.args.unit in
    let s = c.requires.small c.loop-h.h c.amounts-x.result c.loop-h-test.true c.amounts-x.ensures in
    (limits_small _ _ _ u.book.ranged u.placed u.limited c.loop-h.h, omega (arith, s.0), omega (arith, s.1))

pub loop-h-init : goal.loop-h-init
loop-h-init g c = λ x y e. pass_none _

pub loop-h-preserved : goal.loop-h-preserved
loop-h-preserved g c = λ x y e.
    let u = c.args.unit in
    let z = e c.loop-h.h c.amounts-x.result c.loop-h-test.true c.amounts-x.ensures in
    hour_more _ _ _ _ _ _ _ _ x y _ _ _ _ _ _ _ _ _ _ c.figures_from-hour.ensures z.0 z.1 c.loop-h-test.true
    (limits_small _ _ _ u.book.ranged u.placed u.limited)
    (c.loop-h.invariant x y e) c.cell.ensures c.joined.ensures refl refl refl refl refl
