-- `hour_limit`: that of the kind; a number that is no kind is not solar.
use mathlib.Core.Path.{ap, ◌∙◌}
use Prim.Native.Nat.{ℕ}
use Rattle.measures.proofs.ListLaws.{not_both}
use Rattle.measures.proofs.RangeLaws.{inside}
use Rattle.limits.specs.Limits.{hour_limit}
use Rattle.limits.proofs.LimitLaws.{not-solar}
use native.Mathlib.Omega.{arith}
use Rattle.limits.proofs.Unit.hour_limit.Goals as goal

pub returns-in-Ok : goal.returns-in-Ok
returns-in-Ok c =
    c.hour_limit.ensures ∙ ap (λ (kind : ℕ). hour_limit kind c.args.self.capacity c.args.hour) c.in-Ok.ensures

pub returns-in-Err : goal.returns-in-Err
returns-in-Err c =
    let s = c.args.self in
    not-solar s.kind s.capacity c.args.hour (λ k. not_both _ (inside 1 4 s.kind (omega (arith, k), omega (arith, k))) c.in-Err.ensures.1)
