-- A match's row names the first order of its unit, period and price.
use Prim.Native.Nat.{ℕ, ◌-◌, ◌≤◌, ◌<◌, min}
use mathlib.Core.Path.{◌≡◌, refl, sym, ap, ap₂, ◌∙◌}
use mathlib.Core.Logic.{inl, inr}
use mathlib.Core.Bool.{Bool, true, false, cond, ◌&&◌}
use mathlib.Core.List.{List, [], ◌∷◌}
use native.Mathlib.Omega.{arith}
use borrow.Author.Tests.{eq-eqb, ne_eqb, lt-leb, ltb-false}
use lib.Dec.{eqb, leb}
use Rattle.measures.specs.Lists.{Each, Has, keep}
use Rattle.measures.proofs.ListLaws.{both_ways, cond_case}
use Rattle.matching.specs.Orders.{Order as OpenOrder, less, lessen, insert, laid}
use Rattle.matching.specs.Rolling.{candidate, ahead_for, counterparts}
use Rattle.matching.proofs.Laws.Lists.EachLaws.{Pairs, each_keep, each_has, has_each, keep_has, kept}
use Rattle.matching.proofs.Laws.Orders.LaidLaws.{laid_each}
use Rattle.matching.proofs.Laws.Orders.LessenLaws.{Numbered}
use Rattle.matching.proofs.Laws.Rolling.CandidateLaws.{ahead_equal}
use Rattle.matching.proofs.Laws.Rolling.RollingLaws.{best-first}
use Rattle.demands.specs.Tally.{order_lessened}

-- nothing taken off changes nothing
none_lessened : (u p price x : ℕ) (os : List OpenOrder) → x ≡ 0 → Each (λ (o : OpenOrder). 0 < o.quantity) os → order_lessened u p price x os ≡ os
unfolding order_lessened
none_lessened u p price x [] z h = refl
none_lessened u p price x (o ∷ os) z h =
    go (eqb o.unit u && eqb o.period p && eqb o.price price) (none_lessened u p price (x - min x o.quantity) os (omega arith) h.1)
    (none_lessened u p price x os z h.1)
  where
    whole : less o (min x o.quantity) ≡ o
    whole = let e : o.quantity - min x o.quantity ≡ o.quantity = omega arith in rw e

    few : x < o.quantity
    few = let k = h.0 in omega arith

    go : (c : Bool) → order_lessened u p price (x - min x o.quantity) os ≡ os → order_lessened u p price x os ≡ os
        → cond c (cond (leb o.quantity x) (order_lessened u p price (x - min x o.quantity) os) (less o (min x o.quantity)
        ∷ order_lessened u p price (x - min x o.quantity) os)) (o ∷ order_lessened u p price x os) ≡ o ∷ os
    go true e f = rw (lt-leb o.quantity x few) (ap₂ (λ (y : OpenOrder) (l : List OpenOrder). y ∷ l) whole e)
    go false e f = ap (λ (l : List OpenOrder). o ∷ l) f

-- an order of the same unit, period and price
abbrev pub alike : OpenOrder → OpenOrder → Bool
alike c o = eqb o.unit c.unit && eqb o.period c.period && eqb o.price c.price

alike_self : (c : OpenOrder) → alike c c ≡ true
alike_self c = rw (eq-eqb c.unit c.unit refl, eq-eqb c.period c.period refl, eq-eqb c.price c.price refl)

-- what is taken off by unit, period and price is taken off that order, where it has the lowest number of them
pub first_lessened : (c : OpenOrder) (x : ℕ) (os : List OpenOrder) → x ≤ c.quantity → Numbered os → Each (λ (o : OpenOrder). 0 < o.quantity) os → Has c os
    → Each (λ (o : OpenOrder). alike c o ≡ true → c.number ≤ o.number) os → order_lessened c.unit c.period c.price x os ≡ lessen c.number x os
unfolding order_lessened lessen
first_lessened c x [] l r h m f = refl
first_lessened c x (o ∷ os) l r h m f = go (alike c o) refl m (λ n. first_lessened c x os l r.1 h.1 n f.1)
  where
    above : Has c os → o.number < c.number
    above n = has_each (λ (y : OpenOrder). o.number < y.number) os c r.0 n

    rest : List OpenOrder
    rest = order_lessened c.unit c.period c.price (x - min x o.quantity) os

    here : c ≡ o → (d : Bool) → cond d rest (less o (min x o.quantity) ∷ rest) ≡ cond d os (less o x ∷ os)
    here e d =
        let q : c.quantity ≡ o.quantity = ap (λ (y : OpenOrder). y.quantity) e in
        let w : min x o.quantity ≡ x = omega arith in
        let n : rest ≡ os = none_lessened c.unit c.period c.price (x - min x o.quantity) os (omega arith) h.1 in
        ap₂ (λ (y : List OpenOrder) (z : ℕ). cond d y (less o z ∷ y)) n w

    go : (k : Bool) → alike c o ≡ k → Has c (o ∷ os) → (Has c os → order_lessened c.unit c.period c.price x os ≡ lessen c.number x os)
        → cond k (cond (leb o.quantity x) rest (less o (min x o.quantity) ∷ rest)) (o ∷ order_lessened c.unit c.period c.price x os)
        ≡ cond (eqb o.number c.number) (cond (leb o.quantity x) os (less o x ∷ os)) (o ∷ lessen c.number x os)
    go true e (inl q) ih = rw (eq-eqb o.number c.number (ap (λ (y : OpenOrder). y.number) (sym q))) (here q (leb o.quantity x))
    go true e (inr n) ih = let k = above n in let j = f.0 e in absurd (omega arith)
    go false e (inl q) ih = both_ways (sym (alike_self c) ∙ ap (alike c) q ∙ e)
    go false e (inr n) ih = let k = above n in rw (ne_eqb o.number c.number (omega arith)) (ap (λ (y : List OpenOrder). o ∷ y) (ih n))

-- each candidate is among the counterparts
insert_has : (ahead : OpenOrder → OpenOrder → Bool) (o x : OpenOrder) (os : List OpenOrder) → Has x (o ∷ os) → Has x (insert ahead o os)
unfolding insert
insert_has ahead o x [] m = m
insert_has ahead o x (y ∷ os) m =
    cond_case (λ (l : List OpenOrder). Has x l) (ahead o y) (o ∷ y ∷ os) (y ∷ insert ahead o os) (λ e. m) (λ e. behind (λ n. insert_has ahead o x os n) m)
  where
    behind : (Has x (o ∷ os) → Has x (insert ahead o os)) → Has x (o ∷ y ∷ os) → Has x (y ∷ insert ahead o os)
    behind ih (inl q) = inr (ih (inl q))
    behind ih (inr (inl q)) = inl q
    behind ih (inr (inr n)) = inr (ih (inr n))

laid_has : (ahead : OpenOrder → OpenOrder → Bool) (x : OpenOrder) (os : List OpenOrder) → Has x os → Has x (laid ahead os)
unfolding laid
laid_has ahead x [] m = m
laid_has ahead x (o ∷ os) (inl q) = insert_has ahead o x (laid ahead os) (inl q)
laid_has ahead x (o ∷ os) (inr m) = insert_has ahead o x (laid ahead os) (inr (laid_has ahead x os m))

module _ (i : OpenOrder) where
  pub counterparts_each : (P : OpenOrder → Type 0) (os : List OpenOrder) → Each P os → Each P (counterparts i os)
  unfolding counterparts
  counterparts_each P os e = laid_each (ahead_for i) P (keep (candidate i) os) (each_keep P (candidate i) os e)

  pub counterparts_are : (os : List OpenOrder) → Each (λ (o : OpenOrder). candidate i o ≡ true) (counterparts i os)
  unfolding counterparts
  counterparts_are os = laid_each (ahead_for i) (λ (o : OpenOrder). candidate i o ≡ true) (keep (candidate i) os) (kept (candidate i) os)

  counterparts_has : (x : OpenOrder) (os : List OpenOrder) → candidate i x ≡ true → Has x os → Has x (counterparts i os)
  unfolding counterparts
  counterparts_has x os e m = laid_has (ahead_for i) x (keep (candidate i) os) (keep_has (candidate i) os x e m)

  -- the one laid first has the lowest number of its price
  pub laid_lowest : (c : OpenOrder) (cs os : List OpenOrder) → counterparts i os ≡ c ∷ cs
      → Each (λ (o : OpenOrder). candidate i o ≡ true → o.price ≡ c.price → c.number ≤ o.number) os
  laid_lowest c cs os e = each_has (λ (o : OpenOrder). candidate i o ≡ true → o.price ≡ c.price → c.number ≤ o.number) os at
    where
      behind : Pairs (λ (a b : OpenOrder). ahead_for i b a ≡ false) (c ∷ cs)
      behind = rw e at (best-first i os)

      go : (o : OpenOrder) → o.price ≡ c.price → Has o (c ∷ cs) → c.number ≤ o.number
      go o p (inl q) = let n : o.number ≡ c.number = ap (λ (y : OpenOrder). y.number) q in omega arith
      go o p (inr m) = ltb-false o.number c.number (sym (ahead_equal o c i p)
          ∙ has_each (λ (y : OpenOrder). ahead_for i y c ≡ false) cs o behind.0 m)

      at : (o : OpenOrder) → Has o os → candidate i o ≡ true → o.price ≡ c.price → c.number ≤ o.number
      at o m k p = go o p (rw e at (counterparts_has o os k m))
