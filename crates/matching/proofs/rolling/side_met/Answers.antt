-- `side_met`: the side opposite to the direction that the order's word names.
use Prim.Native.Nat.{ℕ, ◌-◌}
use mathlib.Core.Path.{◌≡◌, refl, ap, ◌∙◌}
use native.Mathlib.Omega.{arith}
use Rattle.std.specs.Prelude.{Some}
use Rattle.matching.specs.Memory.{direction_number}
use Rattle.matching.specs.Inner.Runs.{key_of}
use Rattle.matching.proofs.rolling.side_met.Goals as goal

pub returns : goal.returns
returns c =
    let i = c.args.incoming in
    let e : direction_number c.opposite-direction.result ≡ 1 - i.order.direction = omega (arith, c.opposite-direction.ensures, i.named) in
    (e, refl, ap (λ (limit : ℕ). Some limit) (c.key_of-limit.ensures ∙ ap (λ (d : ℕ). key_of d i.order.price.0) e))
