-- What is left of orders, each less what is taken under its number: by fills one after the other, and by the pairs of a cleared period.
use Prim.Native.Nat.{ℕ, ◌+◌, ◌-◌, ◌<◌, ◌≤◌}
use mathlib.Core.Path.{◌≡◌, refl, sym, ap, subst, ◌∙◌}
use mathlib.Core.Logic.{inl, inr}
use mathlib.Core.Bool.{Bool, true, false, cond}
use mathlib.Core.List.{List, [], ◌∷◌, ◌++◌, map}
use native.Mathlib.Omega.{arith}
use lib.Dec.{eqb, leb, ltb}
use borrow.Author.Tests.{eq-eqb, ne_eqb, eqb-true, eqb-false, leb-true, leb-false, lt-ltb, ltb-true, ltb-false}
use Rattle.measures.specs.Lists.{Each, Has, keep}
use Rattle.matching.specs.Orders.{Order, numbers, rising, quantities, less, lessen}
use Rattle.matching.specs.Clearing.{Fill, after_fills, clear_period}
use Rattle.matching.specs.Matchings.{Pair, paired_of, WithinOrders, left_by}
use Rattle.matching.proofs.Laws.Lists.EachLaws.{each_map, each_has, has_each, each_keep, each_mapped}
use Rattle.matching.proofs.Laws.Lists.RemainLaws.{Remains, ended, gone, kept}
use Rattle.matching.proofs.Laws.Clearing.VolumeLaws.{keep_none}
use Rattle.matching.proofs.Laws.Clearing.FillLaws.{amounts}
use Rattle.matching.proofs.Laws.Orders.LessenLaws.{Numbered, rising-numbered, lessen-numbered, lessen_each}
use Rattle.matching.proofs.Laws.Orders.AfterLaws.{Due, after_open, fills_append}
use Rattle.matching.proofs.Laws.Orders.LeftLaws.{LessOrder}
use Rattle.matching.proofs.Laws.Clearing.PeriodLaws.{bid_fills_of, ask_fills_of, cleared_orders, clear_due}
use Rattle.matching.proofs.Laws.Clearing.ClearingLaws.{pairs_of, pairs_of_bid_lem, pairs_of_ask}

-- each order with something open
abbrev pub Open : List Order → Type 0
Open os = Each (λ o. 0 < o.quantity) os

-- orders less f of their numbers; an emptied one is gone
unfoldable pub less_by : (ℕ → ℕ) → List Order → List Order
less_by f os = keep (λ o. ltb 0 o.quantity) (map (λ o. less o (f o.number)) os)

pub less_same : (f g : ℕ → ℕ) → ((n : ℕ) → f n ≡ g n) → (os : List Order) → less_by f os ≡ less_by g os
unfolding less_by
less_same f g h [] = refl
less_same f g h (o ∷ os) = rw (h o.number) (ap (λ (l : List Order). cond (ltb 0 (o.quantity - g o.number)) (less o (g o.number) ∷ l) l)
    (less_same f g h os))

pub less_none : (f : ℕ → ℕ) (os : List Order) → Each (λ o. f o.number ≡ 0) os → Open os → less_by f os ≡ os
unfolding less_by
less_none f [] z p = refl
less_none f (o ∷ os) z p =
    let q : o.quantity - 0 ≡ o.quantity = omega arith in
    rw (z.0, q, lt-ltb 0 o.quantity p.0) (ap (λ (l : List Order). o ∷ l) (less_none f os z.1 p.1))

-- less one, then less another
pub less_twice : (f g : ℕ → ℕ) (os : List Order) → less_by g (less_by f os) ≡ less_by (λ n. f n + g n) os
unfolding less_by
less_twice f g [] = refl
less_twice f g (o ∷ os) = go (ltb 0 (o.quantity - f o.number)) refl (less_twice f g os)
  where
    go : (s : Bool) → ltb 0 (o.quantity - f o.number) ≡ s → less_by g (less_by f os) ≡ less_by (λ n. f n + g n) os
        → less_by g (cond s (less o (f o.number) ∷ less_by f os) (less_by f os)) ≡ less_by (λ n. f n + g n) (o ∷ os)
    go true e ih =
        let q : o.quantity - f o.number - g o.number ≡ o.quantity - (f o.number + g o.number) = omega arith in
        rw q (ap (λ (l : List Order). cond (ltb 0 (o.quantity - (f o.number + g o.number))) (less o (f o.number + g o.number) ∷ l) l) ih)
    go false e ih =
        let l = ltb-false 0 (o.quantity - f o.number) e in
        let q : o.quantity - (f o.number + g o.number) ≡ 0 = omega arith in
        rw q ih

-- what holds of each order, however much of it is taken, holds of each that is left
pub left_each : (P : Order → Type 0) → ((o : Order) (x : ℕ) → P o → P (less o x)) → (xs : List Pair) (os : List Order) → Each P os → Each P (left_by xs os)
unfolding left_by
left_each P h xs os e =
    each_keep P (λ (o : Order). ltb 0 o.quantity) (map (λ (o : Order). less o (paired_of o.number xs)) os)
    (each_mapped P (λ (o : Order). less o (paired_of o.number xs)) os
    (each_map P (λ (o : Order). P (less o (paired_of o.number xs))) os (λ o k. h o (paired_of o.number xs) k) e))

pub left-remains : (xs : List Pair) (os : List Order) → Remains LessOrder (left_by xs os) os
unfolding left_by
left-remains xs [] = ended
left-remains xs (o ∷ os) = go (ltb 0 (o.quantity - paired_of o.number xs)) refl (left-remains xs os)
  where
    go : (s : Bool) → ltb 0 (o.quantity - paired_of o.number xs) ≡ s → Remains LessOrder (left_by xs os) os
        → Remains LessOrder (cond s (less o (paired_of o.number xs) ∷ left_by xs os) (left_by xs os)) (o ∷ os)
    go true e t =
        let x = paired_of o.number xs in
        let l : LessOrder (less o x) o = record { left = o.quantity - x; is = refl; fewer = omega arith; some = λ _. ltb-true 0 (o.quantity - x) e } in
        kept l t
    go false e t = gone t

-- x less under one number
abbrev only : ℕ → ℕ → ℕ → ℕ
only n x k = cond (eqb n k) x 0

lessen_by : (n x : ℕ) (os : List Order) → Numbered os → Open os → lessen n x os ≡ less_by (only n x) os
unfolding lessen less_by
lessen_by n x [] r p = refl
lessen_by n x (o ∷ os) r p = go (eqb o.number n) refl (lessen_by n x os r.1 p.1)
  where
    here : o.number ≡ n → (b : Bool) → leb o.quantity x ≡ b → cond b os (less o x ∷ os)
        ≡ cond (ltb 0 (o.quantity - x)) (less o x ∷ less_by (only n x) os) (less_by (only n x) os)
    here e b h =
        rw (less_none (only n x) os
        (each_map (λ k. o.number < k.number) (λ k. only n x k.number ≡ 0) os (λ k l. rw (ne_eqb n k.number (omega arith))) r.0) p.1) (by b h)
      where
        by : (b : Bool) → leb o.quantity x ≡ b → cond b os (less o x ∷ os) ≡ cond (ltb 0 (o.quantity - x)) (less o x ∷ os) os
        by true h =
            let l = leb-true o.quantity x h in
            let q : o.quantity - x ≡ 0 = omega arith in
            rw q refl
        by false h = let l = leb-false o.quantity x h in rw (lt-ltb 0 (o.quantity - x) (omega arith)) refl

    go : (b : Bool) → eqb o.number n ≡ b → lessen n x os ≡ less_by (only n x) os
        → cond b (cond (leb o.quantity x) os (less o x ∷ os)) (o ∷ lessen n x os) ≡ less_by (only n x) (o ∷ os)
    go true e ih =
        let q : o.number ≡ n = eqb-true o.number n e in
        rw (eq-eqb n o.number (sym q)) (here q (leb o.quantity x) refl)
    go false e ih =
        let k = eqb-false o.number n e in
        let q : o.quantity - 0 ≡ o.quantity = omega arith in
        rw (ne_eqb n o.number (λ h. k (sym h)), q, lt-ltb 0 o.quantity p.0) (ap (λ (l : List Order). o ∷ l) ih)

-- what fills take under a number
abbrev pub filled_of : List Fill → ℕ → ℕ
filled_of fs n = amounts (keep (λ f. eqb f.order.number n) fs)

-- fills one after the other
pub after_by : (fs : List Fill) (os : List Order) → Numbered os → Open os → after_fills fs os ≡ less_by (filled_of fs) os
unfolding after_fills
after_by [] os r p = sym (less_none (filled_of []) os (each_map (λ o. 0 < o.quantity) (λ o. 0 ≡ 0) os (λ o _. refl) p) p)
after_by (f ∷ fs) os r p =
    let n = f.order.number in
    let x = f.amount in
    after_by fs (lessen n x os) (lessen-numbered n x os r) (lessen_each n x (λ o. 0 < o.quantity) os (λ o _ l. omega arith) p)
    ∙ ap (less_by (filled_of fs)) (lessen_by n x os r p) ∙ less_twice (only n x) (filled_of fs) os
    ∙ less_same (λ k. only n x k + filled_of fs k) (filled_of (f ∷ fs)) (λ k. first (eqb n k) k) os
  where
    first : (b : Bool) (k : ℕ) → cond b f.amount 0 + filled_of fs k
        ≡ amounts (cond b (f ∷ keep (λ h. eqb h.order.number k) fs) (keep (λ h. eqb h.order.number k) fs))
    first true k = refl
    first false k = omega arith

-- the orders of a number that one of them has
own_quantity : (os : List Order) (o : Order) → Numbered os → Has o os → quantities (keep (λ x. eqb x.number o.number) os) ≡ o.quantity
own_quantity [] o r m = absurd m
own_quantity (y ∷ os) o r (inl q) =
    let z = keep_none (λ x. eqb x.number y.number) os (each_map (λ x. y.number < x.number) (λ x. eqb x.number y.number ≡ false) os
    (λ x l. ne_eqb x.number y.number (omega arith)) r.0) in
    subst (λ (w : Order). quantities (keep (λ x. eqb x.number w.number) (y ∷ os)) ≡ w.quantity) (sym q)
    (rw (eq-eqb y.number y.number refl) (omega (arith, z)))
own_quantity (y ∷ os) o r (inr m) =
    let l : y.number < o.number = has_each (λ x. y.number < x.number) os o r.0 m in
    rw (ne_eqb y.number o.number (omega arith)) (own_quantity os o r.1 m)

-- fills that are due take no more of an order than it has
pub due_within : (fs : List Fill) (os : List Order) → Numbered os → Due fs os → Each (λ o. filled_of fs o.number ≤ o.quantity) os
due_within fs os r d =
    each_has (λ o. filled_of fs o.number ≤ o.quantity) os
    (λ o m. omega (arith, after_open (λ x. eqb x.number o.number) (λ x q. refl) fs os r d, own_quantity os o r m))

-- a period cleared: its pairs take what its fills take
module _ (period : ℕ) (os : List Order) (rises : rising (numbers os) ≡ true) where
  pairs_fill : (n : ℕ) → filled_of (bid_fills_of period os ++ ask_fills_of period os) n ≡ paired_of n (pairs_of period os)
  pairs_fill n =
      rw (
        fills_append (λ f. eqb f.order.number n) (bid_fills_of period os) (ask_fills_of period os),
        pairs_of_bid_lem period os (λ o. eqb o.number n),
        pairs_of_ask period os (λ o. eqb o.number n),
      )
      refl

  pub cleared-left : Open os → (clear_period period os).orders ≡ left_by (pairs_of period os) os
  unfolding left_by less_by
  cleared-left p =
      cleared_orders period os ∙ after_by (bid_fills_of period os ++ ask_fills_of period os) os (rising-numbered os rises) p
      ∙ less_same (filled_of (bid_fills_of period os ++ ask_fills_of period os)) (λ n. paired_of n (pairs_of period os)) pairs_fill os

  pub cleared_within : WithinOrders os (pairs_of period os)
  cleared_within =
      let n = rising-numbered os rises in
      each_map (λ o. filled_of (bid_fills_of period os ++ ask_fills_of period os) o.number ≤ o.quantity)
      (λ o. paired_of o.number (pairs_of period os) ≤ o.quantity) os (λ o h. rw (pairs_fill o.number) at h)
      (due_within (bid_fills_of period os ++ ask_fills_of period os) os n (clear_due period os n))
