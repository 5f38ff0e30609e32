-- `together`: what is summed and what is left make the total.
use native.Mathlib.Omega.{arith}
use Rattle.measures.proofs.SharingLaws.{total-drop, total_end}
use Rattle.matching.proofs.Laws.Clearing.PickLaws.{sum_total}
use Rattle.matching.proofs.fills.together.Goals as goal

pub loop-amount-preserved : goal.loop-amount-preserved
loop-amount-preserved c =
    omega (arith, total-drop c.args.amounts.now c.loop-amount.amount-index (omega arith), sum_total c.args.amounts.now)

pub returns : goal.returns
returns c = omega (arith, total_end c.args.amounts.now c.loop-amount.amount-index (omega arith), sum_total c.args.amounts.now)
