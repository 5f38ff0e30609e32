-- Laws of the orders after fills.
use Prim.Native.Nat.{ℕ, ◌+◌, ◌-◌, ◌<◌}
use mathlib.Core.Path.{◌≡◌, refl, sym, ap, ◌∙◌}
use mathlib.Core.Bool.{Bool, false, cond}
use mathlib.Core.List.{List, [], ◌∷◌, ◌++◌}
use native.Mathlib.Omega.{arith}
use Rattle.measures.specs.Lists.{Each, Has, sum_of, keep}
use Rattle.matching.specs.Orders.{Order, quantities, lessen, less, leaving}
use Rattle.matching.specs.Clearing.{Fill, after_fills}
use Rattle.matching.proofs.Laws.Lists.EachLaws.{Pairs, each_map, each_both, each_has, keep-sum, keep-sum_append}
use Rattle.matching.proofs.Laws.Clearing.FillLaws.{Fits, amounts}
use Rattle.matching.proofs.Laws.Orders.LessenLaws.{
  Numbered,
  same_number,
  lessen_each,
  lessen-numbered,
  lessen_has,
  lessen-keep,
  lessen_open,
  open_under,
}

-- fills of orders that stand: each within its order, and no two of one number
pub record Due (fs : List Fill) (os : List Order) : Type 0 where
  pub stand : Each (λ f. Has f.order os) fs
  pub fit : Each Fits fs
  pub apart : Pairs (λ f h. f.order.number ≡ h.order.number → ⊥) fs

pub due_next : (f : Fill) (fs : List Fill) (os : List Order) → Due (f ∷ fs) os → Due fs (lessen f.order.number f.amount os)
due_next f fs os d =
    record {
      stand =
          each_both (λ h. f.order.number ≡ h.order.number
          → ⊥) (λ h. Has h.order os) (λ h. Has h.order (lessen f.order.number f.amount os)) fs
          (λ h ne m. lessen_has f.order.number f.amount os h.order (λ e. ne (sym e)) m) d.apart.0 d.stand.1;
      fit = d.fit.1;
      apart = d.apart.1;
    }

pub after_append : (fs hs : List Fill) (os : List Order) → after_fills (fs ++ hs) os ≡ after_fills hs (after_fills fs os)
unfolding after_fills
after_append [] hs os = refl
after_append (f ∷ fs) hs os = after_append fs hs (lessen f.order.number f.amount os)

pub after-numbered : (fs : List Fill) (os : List Order) → Numbered os → Numbered (after_fills fs os)
unfolding after_fills
after-numbered [] os p = p
after-numbered (f ∷ fs) os p = after-numbered fs (lessen f.order.number f.amount os) (lessen-numbered f.order.number f.amount os p)

-- what holds of each order, and of what is left of each, holds after
pub after_each : (P : Order → Type 0) → ((o : Order) (x : ℕ) → P o → x < o.quantity → P (less o x)) → (fs : List Fill) (os : List Order) → Each P os
    → Each P (after_fills fs os)
unfolding after_fills
after_each P h [] os e = e
after_each P h (f ∷ fs) os e = after_each P h fs (lessen f.order.number f.amount os)
    (lessen_each f.order.number f.amount P os (λ o p l. h o f.amount p l) e)

-- a test that does not look at quantities
module _ (g : Order → Bool) (still : (o : Order) (q : ℕ) → g (leaving o q) ≡ g o) where
  stay : (fs : List Fill) (os : List Order) → Each (λ f. Each (λ o. o.number ≡ f.order.number → g o ≡ false) os) fs → keep g (after_fills fs os)
      ≡ keep g os
  unfolding after_fills
  stay [] os e = refl
  stay (f ∷ fs) os e =
      let os' = lessen f.order.number f.amount os in
      stay fs os'
      (each_map (λ h. Each (λ o. o.number ≡ h.order.number → g o ≡ false) os) (λ h. Each (λ o. o.number ≡ h.order.number → g o ≡ false) os') fs
      (λ h k. lessen_each f.order.number f.amount (λ o. o.number ≡ h.order.number → g o ≡ false) os (λ o j _ q. still o (o.quantity - f.amount)
      ∙ j q) k) e.1)
      ∙ lessen-keep f.order.number f.amount g still os e.0

  -- orders of which none is filled stay, in their order
  pub after_stay : (fs : List Fill) (os : List Order) → Numbered os → Each (λ f. Has f.order os) fs → Each (λ f. g f.order ≡ false) fs
      → keep g (after_fills fs os) ≡ keep g os
  after_stay fs os p m e =
      stay fs os
      (each_both (λ f. Has f.order os) (λ f. g f.order ≡ false) (λ f. Each (λ o. o.number ≡ f.order.number → g o ≡ false) os) fs
      (λ f h k. each_has (λ o. o.number ≡ f.order.number → g o ≡ false) os (λ o j q. ap g (same_number os o f.order p j h q) ∙ k)) m e)

  after_weight : (fs : List Fill) (os : List Order) → Numbered os → Due fs os
      → sum_of (open_under g) (after_fills fs os) + sum_of (λ f. cond (g f.order) f.amount 0) fs ≡ sum_of (open_under g) os
  unfolding after_fills
  after_weight [] os p d = omega arith
  after_weight (f ∷ fs) os p d =
      let t = lessen_open g still f.amount os f.order p d.stand.0 d.fit.0 in
      let ih = after_weight fs (lessen f.order.number f.amount os) (lessen-numbered f.order.number f.amount os p) (due_next f fs os d) in
      omega arith

  -- what is open falls by the fills
  pub after_open : (fs : List Fill) (os : List Order) → Numbered os → Due fs os
      → quantities (keep g (after_fills fs os)) + amounts (keep (λ f. g f.order) fs) ≡ quantities (keep g os)
  after_open fs os p d =
      let a = keep-sum (λ o. o.quantity) g (after_fills fs os) in
      let b = keep-sum (λ f. f.amount) (λ f. g f.order) fs in
      let c = keep-sum (λ o. o.quantity) g os in
      let w = after_weight fs os p d in
      omega arith

-- fills of two lists under a test
pub fills_append : (t : Fill → Bool) (fs hs : List Fill) → amounts (keep t (fs ++ hs)) ≡ amounts (keep t fs) + amounts (keep t hs)
fills_append t fs hs = keep-sum_append (λ f. f.amount) t fs hs
