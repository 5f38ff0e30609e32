-- `clear_one`: the orders fit, so the period is cleared, and its rows are written behind the others.
use native.Mathlib.Omega.{arith}
use Rattle.matching.proofs.Laws.Periods.PassingLaws.{fit_part, step_few, stepped}
use Rattle.matching.proofs.periods.clear_one.Goals as goal

pub clear_fit-done-requires : goal.clear_fit-done-requires
clear_fit-done-requires c = fit_part _ _ _ c.args.period _ c.requires

pub overflow_add-result : goal.overflow_add-result
overflow_add-result c =
    let few = step_few _ _ _ _ _ c.requires _ _ _ c.clear_fit-done.ensures in
    let r = c.requires.lent in
    omega arith

pub returns : goal.returns
returns c = stepped _ _ _ _ _ c.requires _ _ _ c.clear_fit-done.ensures
