-- `meet_in_turn`: the runs of the side that is met hold the counterparts, which are then met.
use native.Mathlib.Omega.{arith}
use Rattle.matching.proofs.Laws.Laying.KeyLaws.{direction_few}
use Rattle.matching.proofs.Laws.Rolling.TurnLaws.{runs_met}
use Rattle.matching.proofs.rolling.meet_in_turn.Goals as goal

pub meet_runs-requires : goal.meet_runs-requires
meet_runs-requires c =
    let p = c.requires in
    let i = c.args.incoming in
    let side = c.side_met.ensures in
    let r = c.lay.ensures in (
      p.0,
      p.1,
      p.2,
      runs_met _ _ _ _ _ _ _ _ _ _ _ c.args.orders.small (omega arith)
          (omega (arith, i.named, direction_few i.direction)) side.0 side.1 side.2 r.2 r.3,
    )
