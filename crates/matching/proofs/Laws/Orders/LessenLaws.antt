-- Laws of one order lessened.
use Prim.Native.Nat.{ℕ, ◌+◌, ◌-◌, ◌<◌, ◌≤◌}
use mathlib.Core.Path.{◌≡◌, refl, sym, ap, subst, ◌∙◌}
use mathlib.Core.Logic.{inl, inr}
use mathlib.Core.Bool.{Bool, true, false, cond}
use mathlib.Core.List.{List, [], ◌∷◌}
use native.Mathlib.Omega.{arith}
use lib.Dec.{eqb, leb, ltb}
use borrow.Author.Tests.{eqb-true, eqb-false, ne_eqb, leb-true, leb-false, ltb-true, lt-ltb}
use Rattle.measures.specs.Lists.{Each, Has, sum_of, keep, every}
use Rattle.measures.proofs.ListLaws.{cond_case, and_true, and_left, and_right}
use Rattle.matching.specs.Orders.{Order, numbers, rising, lessen, less, leaving}
use Rattle.matching.proofs.Laws.Lists.EachLaws.{Pairs, has_each}

-- orders whose numbers rise
abbrev pub Numbered : List Order → Type 0
Numbered os = Pairs (λ a b. a.number < b.number) os

every_each : (n : ℕ) (os : List Order) → every (ltb n) (numbers os) ≡ true → Each (λ o. n < o.number) os
every_each n [] e = tt
every_each n (o ∷ os) e = (
  ltb-true _ _ (and_left (ltb n o.number) (every (ltb n) (numbers os)) e),
  every_each n os
      (and_right (ltb n o.number) (every (ltb n) (numbers os)) e),
)

pub rising-numbered : (os : List Order) → rising (numbers os) ≡ true → Numbered os
unfolding rising
rising-numbered [] e = tt
rising-numbered (o ∷ os) e = (
  every_each o.number os (and_left (every (ltb o.number) (numbers os)) (rising (numbers os)) e),
  rising-numbered os
      (and_right (every (ltb o.number) (numbers os)) (rising (numbers os)) e),
)

each_every : (n : ℕ) (os : List Order) → Each (λ o. n < o.number) os → every (ltb n) (numbers os) ≡ true
each_every n [] e = refl
each_every n (o ∷ os) e = and_true (ltb n o.number) (every (ltb n) (numbers os)) (lt-ltb _ _ e.0) (each_every n os e.1)

pub numbered-rising : (os : List Order) → Numbered os → rising (numbers os) ≡ true
unfolding rising
numbered-rising [] p = refl
numbered-rising (o ∷ os) p = and_true (every (ltb o.number) (numbers os)) (rising (numbers os)) (each_every o.number os p.0)
    (numbered-rising os p.1)

-- a number is one order's
pub same_number : (os : List Order) (a b : Order) → Numbered os → Has a os → Has b os → a.number ≡ b.number → a ≡ b
same_number [] a b p m n e = absurd m
same_number (o ∷ os) a b p (inl q) (inl r) e = q ∙ sym r
same_number (o ∷ os) a b p (inl q) (inr n) e =
    let h : o.number < b.number = has_each (λ x. o.number < x.number) os b p.0 n in
    let k : a.number ≡ o.number = ap (λ (x : Order). x.number) q in
    absurd (omega arith)
same_number (o ∷ os) a b p (inr m) (inl r) e =
    let h : o.number < a.number = has_each (λ x. o.number < x.number) os a p.0 m in
    let k : b.number ≡ o.number = ap (λ (x : Order). x.number) r in
    absurd (omega arith)
same_number (o ∷ os) a b p (inr m) (inr n) e = same_number os a b p.1 m n e

-- x less under the number n
module _ (n x : ℕ) where
  -- what holds of each order, and of each that x is taken off, holds after it
  pub lessen_each : (P : Order → Type 0) (os : List Order) → ((o : Order) → P o → x < o.quantity → P (less o x)) → Each P os → Each P (lessen n x os)
  unfolding lessen
  lessen_each P [] h e = tt
  lessen_each P (o ∷ os) h e =
      cond_case (λ (l : List Order). Each P l) (eqb o.number n) (cond (leb o.quantity x) os (less o x ∷ os)) (o ∷ lessen n x os)
      (λ _. cond_case (λ (l : List Order). Each P l) (leb o.quantity x) os (less o x ∷ os) (λ _. e.1) (λ f. (h o e.0 (leb-false _ _ f), e.1)))
      (λ _. (e.0, lessen_each P os h e.1))

  pub lessen-numbered : (os : List Order) → Numbered os → Numbered (lessen n x os)
  unfolding lessen
  lessen-numbered [] p = tt
  lessen-numbered (o ∷ os) p =
      cond_case Numbered (eqb o.number n) (cond (leb o.quantity x) os (less o x ∷ os)) (o ∷ lessen n x os)
      (λ _. cond_case Numbered (leb o.quantity x) os (less o x ∷ os) (λ _. p.1) (λ _. p))
      (λ _. (lessen_each (λ b. o.number < b.number) os (λ b h _. h) p.0, lessen-numbered os p.1))

  -- an order of another number stays
  pub lessen_has : (os : List Order) (o : Order) → (o.number ≡ n → ⊥) → Has o os → Has o (lessen n x os)
  unfolding lessen
  lessen_has [] o ne m = absurd m
  lessen_has (y ∷ os) o ne (inl q) =
      let k : y.number ≡ o.number = ap (λ (z : Order). z.number) (sym q) in
      let f : eqb y.number n ≡ false = ne_eqb y.number n (λ e. ne (sym k ∙ e)) in
      rw f (inl q)
  lessen_has (y ∷ os) o ne (inr m) =
      cond_case (λ (l : List Order). Has o l) (eqb y.number n) (cond (leb y.quantity x) os (less y x ∷ os)) (y ∷ lessen n x os)
      (λ _. cond_case (λ (l : List Order). Has o l) (leb y.quantity x) os (less y x ∷ os) (λ _. m) (λ _. inr m))
      (λ _. inr (lessen_has os o ne m))

  -- a test that does not look at quantities, and fails at the number, keeps what it kept
  module _ (g : Order → Bool) (still : (o : Order) (q : ℕ) → g (leaving o q) ≡ g o) where
    pub lessen-keep : (os : List Order) → Each (λ o. o.number ≡ n → g o ≡ false) os → keep g (lessen n x os) ≡ keep g os
    unfolding lessen
    lessen-keep [] e = refl
    lessen-keep (o ∷ os) e =
        cond_case (λ (l : List Order). keep g l ≡ keep g (o ∷ os)) (eqb o.number n) (cond (leb o.quantity x) os (less o x ∷ os)) (o ∷ lessen n x os)
        (λ f.
        let z : g o ≡ false = e.0 (eqb-true _ _ f) in
        cond_case (λ (l : List Order). keep g l ≡ keep g (o ∷ os)) (leb o.quantity x) os (less o x ∷ os)
        (λ _. rw z)
        (λ _. rw (still o (o.quantity - x), z)))
        (λ _. ap (λ (l : List Order). cond (g o) (o ∷ l) l) (lessen-keep os e.1))

-- what an order has open under a test
abbrev pub open_under : (Order → Bool) → Order → ℕ
open_under g o = cond (g o) o.quantity 0

-- what is open under a test that does not look at quantities falls by what is taken
module _ (g : Order → Bool) (still : (o : Order) (q : ℕ) → g (leaving o q) ≡ g o) where
  first-less : (o : Order) (x s : ℕ) (b : Bool) → x < o.quantity → cond b (o.quantity - x) 0 + s + cond b x 0 ≡ cond b o.quantity 0 + s
  first-less o x s true h = omega arith
  first-less o x s false h = omega arith

  pub lessen_open : (x : ℕ) (os : List Order) (o : Order) → Numbered os → Has o os → x ≤ o.quantity
      → sum_of (open_under g) (lessen o.number x os) + cond (g o) x 0 ≡ sum_of (open_under g) os
  unfolding lessen
  lessen_open x [] o p m le = absurd m
  lessen_open x (y ∷ os) o p (inl q) le =
      subst (λ (z : Order). sum_of (open_under g) (lessen z.number x (y ∷ os)) + cond (g z) x 0 ≡ sum_of (open_under g) (y ∷ os)) (sym q)
      (cond_case (λ (l : List Order). sum_of (open_under g) l + cond (g y) x 0 ≡ open_under g y + sum_of (open_under g) os) (eqb y.number y.number)
      (cond (leb y.quantity x) os (less y x ∷ os)) (y ∷ lessen y.number x os)
      (λ _.
      cond_case (λ (l : List Order). sum_of (open_under g) l + cond (g y) x 0 ≡ open_under g y + sum_of (open_under g) os) (leb y.quantity x) os (less y x
      ∷ os)
      (λ f.
      let a = leb-true y.quantity x f in
      let b : o.quantity ≡ y.quantity = ap (λ (z : Order). z.quantity) q in
      let c : x ≡ y.quantity = omega arith in
      rw c (omega arith))
      (λ f. rw (still y (y.quantity - x)) (first-less y x (sum_of (open_under g) os) (g y) (leb-false _ _ f))))
      (λ f. absurd (eqb-false y.number y.number f refl)))
  lessen_open x (y ∷ os) o p (inr m) le =
      let h : y.number < o.number = has_each (λ b. y.number < b.number) os o p.0 m in
      let ih = lessen_open x os o p.1 m le in
      let f : eqb y.number o.number ≡ false = ne_eqb y.number o.number (omega arith) in
      rw f (omega arith)
