-- What matching and clearing leave of the orders: each keeps all but its quantity.
use Prim.Native.Nat.{ℕ, ◌-◌, ◌<◌, ◌≤◌}
use mathlib.Core.Path.{◌≡◌, refl, ap, ◌∙◌}
use mathlib.Core.Bool.{Bool, true, false, cond}
use mathlib.Core.List.{List, [], ◌∷◌, ◌++◌}
use native.Mathlib.Omega.{arith}
use lib.Dec.{eqb, leb}
use borrow.Author.Tests.{leb-false}
use Rattle.matching.specs.Orders.{Order, leaving, less, lessen}
use Rattle.matching.specs.Clearing.{Fill, clear_period, after_fills}
use Rattle.matching.specs.Rolling.{counterparts, matches, meet}
use Rattle.matching.proofs.Laws.Lists.RemainLaws.{Remains, ended, gone, kept, remains-all}
use Rattle.matching.proofs.Laws.Clearing.PeriodLaws.{bid_fills_of, ask_fills_of, cleared_orders}
use Rattle.matching.proofs.Laws.Rolling.MetLaws.{fills_of, matches_fill}

-- x is what is left of the order y
pub record LessOrder (x y : Order) : Type 0 where
  pub left : ℕ
  pub is : x ≡ leaving y left
  pub fewer : left ≤ y.quantity
  pub some : 0 < y.quantity → 0 < left

pub same_order : (o : Order) → LessOrder o o
same_order o = record { left = o.quantity; is = refl; fewer = omega arith; some = λ h. h }

module _ {A : Type 0} (R : A → A → Type 0) where
  pub remains_then : ((x y z : A) → R x y → R y z → R x z) → {xs ys zs : List A} → Remains R xs ys → Remains R ys zs → Remains R xs zs
  remains_then h t ended = t
  remains_then h t (gone s) = gone (remains_then h t s)
  remains_then h (gone t) (kept r s) = gone (remains_then h t s)
  remains_then h (kept {x = x} {xs = xs} q t) (kept r s) = kept (h _ _ _ q r) (remains_then h {xs = xs} t s)

  pub remains_append : {xs ys vs ws : List A} → Remains R xs ys → Remains R vs ws → Remains R (xs ++ vs) (ys ++ ws)
  remains_append ended s = s
  remains_append (gone t) s = gone (remains_append t s)
  remains_append (kept r t) s = kept r (remains_append t s)

pub less_then : (x y z : Order) → LessOrder x y → LessOrder y z → LessOrder x z
less_then x y z k l =
    let e : y.quantity ≡ l.left = ap (λ (o : Order). o.quantity) l.is in
    record {
      left = k.left;
      is = k.is ∙ ap (λ (o : Order). leaving o k.left) l.is;
      fewer = let a = k.fewer in let b = l.fewer in omega arith;
      some = λ h. let a = l.some h in k.some (omega arith);
    }

pub lessen-remains : (n x : ℕ) (os : List Order) → Remains LessOrder (lessen n x os) os
unfolding lessen
lessen-remains n x [] = ended
lessen-remains n x (o ∷ os) = go (eqb o.number n) (leb o.quantity x) refl (lessen-remains n x os)
  where
    go : (t z : Bool) → leb o.quantity x ≡ z → Remains LessOrder (lessen n x os) os
        → Remains LessOrder (cond t (cond z os (less o x ∷ os)) (o ∷ lessen n x os)) (o ∷ os)
    go true true e h = gone (remains-all LessOrder same_order os)
    go true false e h =
        let l : x < o.quantity = leb-false _ _ e in
        let k : LessOrder (less o x) o = record { left = o.quantity - x; is = refl; fewer = omega arith; some = λ p. omega arith } in
        kept k (remains-all LessOrder same_order os)
    go false z e h = kept (same_order o) h

pub fills_remain : (fs : List Fill) (os : List Order) → Remains LessOrder (after_fills fs os) os
unfolding after_fills
fills_remain [] os = remains-all LessOrder same_order os
fills_remain (f ∷ fs) os = remains_then LessOrder less_then (fills_remain fs _) (lessen-remains f.order.number f.amount os)

pub cleared_remain : (period : ℕ) (os : List Order) → Remains LessOrder (clear_period period os).orders os
cleared_remain period os = rw (cleared_orders period os) (fills_remain (bid_fills_of period os ++ ask_fills_of period os) os)

pub met_remain : (i : Order) (os : List Order) → Remains LessOrder (meet i os).orders os
unfolding meet
met_remain i os = rw (matches_fill (matches i.quantity (counterparts i os)) os) (fills_remain (fills_of (matches i.quantity (counterparts i os))) os)
