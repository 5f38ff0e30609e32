-- `left_past`: the order can be met, so what it has open goes off.
use Prim.Native.Nat.{ℕ, ◌-◌}
use mathlib.Core.Path.{◌≡◌, refl, sym, ap, ◌∙◌}
use mathlib.Core.Bool.{true, cond}
use Rattle.matching.specs.Orders.{Order}
use Rattle.matching.specs.Memory.{as_order}
use Rattle.matching.specs.Rolling.{candidate}
use Rattle.matching.proofs.rolling.left_past.Goals as goal

pub returns : goal.returns
returns c =
    let a = c.args in
    let f : Order → ℕ = λ o. a.left.0 - cond (candidate (as_order a.incoming.order) o) o.quantity 0 in
    let met : candidate (as_order a.incoming.order) (as_order c.read-o.result) ≡ true = sym c.can_meet.ensures ∙ c.if-not-can_meet.false in
    let e : f (as_order c.read-o.result) ≡ a.left.0 - c.read-o.result.quantity.0 = rw met refl in
    c.minus.ensures ∙ sym e ∙ ap f c.read-o.ensures
