-- Laws of taking fills off orders: by number in the definition, by place in the memory, where an emptied order is unmarked.
use Prim.Native.Nat.{ℕ, zero, suc, ◌+◌, ◌*◌, ◌-◌, ◌<◌, ◌≤◌}
use mathlib.Core.Path.{◌≡◌, refl, sym, ap, ap₂, ◌∙◌}
use mathlib.Core.Bool.{Bool, true, false, cond}
use mathlib.Core.List.{List, [], ◌∷◌, ◌++◌, append_assoc, append-nil}
use native.Mathlib.Omega.{arith}
use native.Mathlib.Nat.{not-suc-le-zero}
use native.Mathlib.Numerals.{add-one}
use lib.Dec.{leb, ltb}
use borrow.Author.Tests.{eq-eqb, ne_eqb, ltb-true, le-leb, lt-leb}
use lib.ListN.{length, get_or, take, drop, set, length-take, drop_of_length-le, replicate}
use lib.Seq.{drop-cons, map-set_same, take-set-lt, get_or-take, length-take-le, take-suc-set, drop-set-lt, set-get_or}
use Rattle.measures.specs.Lists.{every}
use Rattle.measures.proofs.ListLaws.{cond-true, cond-false, and_left, and_right, and_true}
use Rattle.matching.specs.Orders.{Order, leaving, less, lessen, rising, numbers}
use Rattle.matching.specs.Memory.{order_at, orders_in, no_order}
use Rattle.matching.specs.Clearing.{filled, after_fills}
use Rattle.matching.specs.Inner.Places.{orders_at, standing, fills_at, Filling, Taken}
use Rattle.matching.proofs.Laws.Orders.OrderLaws.{orders_length, orders_at_lem, orders_take}
use Rattle.matching.proofs.Laws.Orders.FitLaws.{numbers_at}

-- a number below all others names none of them
lessen_absent : (n x : ℕ) (os : List Order) → every (ltb n) (numbers os) ≡ true → lessen n x os ≡ os
unfolding lessen
lessen_absent n x [] h = refl
lessen_absent n x (o ∷ os) h =
    let l : n < o.number = ltb-true n o.number (and_left (ltb n o.number) (every (ltb n) (numbers os)) h) in
    cond-false _ _ _ (ne_eqb o.number n (omega arith)) (ap (λ (r : List Order). o
    ∷ r) (lessen_absent n x os (and_right (ltb n o.number) (every (ltb n) (numbers os)) h)))

-- what holds of all numbers holds of those that stand
standing-every : (f : ℕ → Bool) (ss : List Bool) (os : List Order) → every f (numbers os) ≡ true → every f (numbers (standing ss os)) ≡ true
unfolding standing
standing-every f [] os h = refl
standing-every f (s ∷ ss) [] h = refl
standing-every f (s ∷ ss) (o ∷ os) h = go s (standing-every f ss os (and_right (f o.number) (every f (numbers os)) h))
  where
    go : (b : Bool) → every f (numbers (standing ss os)) ≡ true → every f (numbers (cond b (o ∷ standing ss os) (standing ss os))) ≡ true
    go true ih = and_true (f o.number) (every f (numbers (standing ss os))) (and_left (f o.number) (every f (numbers os)) h) ih
    go false ih = ih

cons-cond : (b : Bool) (o : Order) (l r : List Order) → o ∷ cond b l r ≡ cond b (o ∷ l) (o ∷ r)
cons-cond true o l r = refl
cons-cond false o l r = refl

same_cond : (b : Bool) (l : List Order) → l ≡ cond b l l
same_cond true l = refl
same_cond false l = refl

every-map_at : (f : ℕ → Bool) (os : List Order) (p : ℕ) → every f (numbers os) ≡ true → p < length os → f (get_or os p no_order).number ≡ true
every-map_at f [] p e h = absurd (not-suc-le-zero h)
every-map_at f (o ∷ os) zero e h = and_left (f o.number) (every f (numbers os)) e
every-map_at f (o ∷ os) (suc p) e h = every-map_at f os p (and_right (f o.number) (every f (numbers os)) e) (omega arith)

-- a number in a rising list is above the first
above-first : (o : Order) (os : List Order) (p : ℕ) → rising (numbers (o ∷ os)) ≡ true → p < length os → o.number < (get_or os p no_order).number
unfolding rising
above-first o os p h l =
    ltb-true o.number (get_or os p no_order).number (every-map_at (ltb o.number) os p
    (and_left (every (ltb o.number) (numbers os)) (rising (numbers os)) h) l)

-- x is taken off the order at place p: off what stands, by its number
pub lessen_at : (ss : List Bool) (os : List Order) (p x : ℕ) → length os ≤ length ss → rising (numbers os) ≡ true → p < length os
    → lessen (get_or os p no_order).number x (standing ss os) ≡ cond (leb (get_or os p no_order).quantity x) (standing (set ss p false) os)
    (standing ss (set os p (less (get_or os p no_order) x)))
unfolding lessen standing rising
lessen_at [] [] p x hl hr hp = absurd (not-suc-le-zero hp)
lessen_at [] (o ∷ os) p x hl hr hp = absurd (not-suc-le-zero hl)
lessen_at (s ∷ ss) [] p x hl hr hp = absurd (not-suc-le-zero hp)
lessen_at (s ∷ ss) (o ∷ os) zero x hl hr hp =
    go s (lessen_absent o.number x (standing ss os) (standing-every (ltb o.number) ss os (and_left (every (ltb o.number) (numbers os)) (rising (numbers os)) hr)))
  where
    go : (b : Bool) → lessen o.number x (standing ss os) ≡ standing ss os
        → lessen o.number x (cond b (o ∷ standing ss os) (standing ss os))
        ≡ cond (leb o.quantity x) (standing ss os) (cond b (less o x ∷ standing ss os) (standing ss os))
    go true h = cond-true _ _ _ (eq-eqb o.number o.number refl) refl
    go false h = h ∙ same_cond (leb o.quantity x) (standing ss os)
lessen_at (s ∷ ss) (o ∷ os) (suc p) x hl hr hp =
    go s (lessen_at ss os p x (omega arith) (and_right (every (ltb o.number) (numbers os)) (rising (numbers os)) hr) (omega arith))
    (above-first o os p hr (omega arith))
  where
    go : (b : Bool)
        → lessen (get_or os p no_order).number x (standing ss os)
        ≡ cond (leb (get_or os p no_order).quantity x) (standing (set ss p false) os) (standing ss (set os p (less (get_or os p no_order) x)))
        → o.number < (get_or os p no_order).number
        → lessen (get_or os p no_order).number x (cond b (o ∷ standing ss os) (standing ss os))
        ≡ cond (leb (get_or os p no_order).quantity x)
        (cond b (o ∷ standing (set ss p false) os) (standing (set ss p false) os))
        (cond b (o ∷ standing ss (set os p (less (get_or os p no_order) x))) (standing ss (set os p (less (get_or os p no_order) x))))
    go true ih l =
        cond-false _ _ _ (ne_eqb o.number (get_or os p no_order).number (omega arith))
        (ap (λ (r : List Order). o ∷ r) ih ∙ cons-cond (leb (get_or os p no_order).quantity x) o _ _)
    go false ih l = ih

-- numbers stay
pub numbers-less : (os : List Order) (p x : ℕ) → numbers (set os p (less (get_or os p no_order) x)) ≡ numbers os
numbers-less os p x = map-set_same (λ (o : Order). o.number) os p (less (get_or os p no_order) x) no_order refl

-- fills go off by number alone
pub fills_by_number : (l k : List Order) (xs : List ℕ) (os : List Order) → numbers l ≡ numbers k → after_fills (filled l xs) os ≡ after_fills (filled k xs) os
unfolding after_fills filled
fills_by_number [] [] xs os e = refl
fills_by_number [] (b ∷ k) xs os e = let z : ◌≡◌ {A = ℕ} 0 (suc (length (numbers k))) = ap length e in absurd (omega arith)
fills_by_number (a ∷ l) [] xs os e = let z : ◌≡◌ {A = ℕ} (suc (length (numbers l))) 0 = ap length e in absurd (omega arith)
fills_by_number (a ∷ l) (b ∷ k) [] os e = refl
fills_by_number (a ∷ l) (b ∷ k) (x ∷ xs) os e =
    let h : a.number ≡ b.number = ap (λ (r : List ℕ). get_or r 0 0) e in
    let t : numbers l ≡ numbers k = ap (λ (r : List ℕ). drop 1 r) e in
    rw h (fills_by_number l k xs (lessen b.number x os) t)

-- one fill taken off in memory: all of the order, or a part of it
module _ (m : List ℕ) (ss : List Bool) (n p x : ℕ) (marks : n ≤ length ss) (hp : p < n) (rises : rising (numbers (orders_in m n)) ≡ true) where
  at_p : get_or (orders_in m n) p no_order ≡ order_at m p
  at_p = orders_at_lem m n p hp

  ln : length (orders_in m n) ≡ n
  ln = orders_length m n

  lt : length (take n ss) ≡ n
  lt = length-take-le n ss marks

  by_place : lessen (order_at m p).number x (standing (take n ss) (orders_in m n))
      ≡ cond (leb (order_at m p).quantity x) (standing (set (take n ss) p false) (orders_in m n))
      (standing (take n ss) (set (orders_in m n) p (less (order_at m p) x)))
  by_place =
      ap (λ (o : Order). lessen o.number x (standing (take n ss) (orders_in m n))) (sym at_p)
      ∙ lessen_at (take n ss) (orders_in m n) p x (omega (arith, ln, lt)) rises (omega (arith, ln))
      ∙ ap (λ (o : Order). cond (leb o.quantity x) (standing (set (take n ss) p false) (orders_in m n))
      (standing (take n ss) (set (orders_in m n) p (less o x)))) at_p

  pub taken_whole : (q : ℕ) → q ≡ (order_at m p).quantity → q ≤ x
      → Taken m ss n (lessen (order_at m p).number x (standing (take n ss) (orders_in m n))) m (set ss p false)
  taken_whole q e h =
      record {
        orders = ap (λ (s : List Bool). standing s (orders_in m n)) (take-set-lt n ss p false hp)
            ∙ sym (by_place ∙ cond-true _ _ _ (le-leb (order_at m p).quantity x (omega arith)) refl);
        numbers = refl;
        past = refl;
      }

  pub taken-part : (q r : ℕ) (m' : List ℕ) → q ≡ (order_at m p).quantity → x < q → r ≡ q - x → orders_in m' n ≡ set (orders_in m n) p (leaving (order_at m p) r)
      → drop (6 * n) m' ≡ drop (6 * n) m
      → Taken m ss n (lessen (order_at m p).number x (standing (take n ss) (orders_in m n))) m' ss
  taken-part q r m' e h er w past =
      let v : orders_in m' n ≡ set (orders_in m n) p (less (order_at m p) x) = w
      ∙ ap (λ (y : ℕ). set (orders_in m n) p (leaving (order_at m p) y)) (er ∙ ap (λ (y : ℕ). y - x) e) in
      record {
        orders = ap (standing (take n ss)) v ∙ sym (by_place ∙ cond-false _ _ _ (lt-leb (order_at m p).quantity x (omega arith)) refl);
        numbers = ap numbers v ∙ ap (λ (o : Order). numbers (set (orders_in m n) p (less o x))) (sym at_p) ∙ numbers-less (orders_in m n) p x;
        past = past;
      }

-- no place or no amount is no fill
pub no_places : (m P X : List ℕ) → length P ≡ 0 → fills_at m P X ≡ []
unfolding fills_at filled
no_places m [] X e = refl
no_places m (p ∷ P) X e = absurd (omega arith)

pub no_amounts : (m P X : List ℕ) → length X ≡ 0 → fills_at m P X ≡ []
unfolding fills_at filled
no_amounts m [] X e = refl
no_amounts m (p ∷ P) [] e = refl
no_amounts m (p ∷ P) (x ∷ X) e = absurd (omega arith)

-- fills taken off one by one: those to come, at the places P and of the amounts X, off what stands
pub record Taking (m₀ : List ℕ) (ss₀ : List Bool) (ps xs : List ℕ) (n : ℕ) (m : List ℕ) (ss : List Bool) (P X : List ℕ) : Type 0 where
  pub below : every (λ p. ltb p n) P ≡ true
  pub numbers : numbers (orders_in m n) ≡ numbers (orders_in m₀ n)
  pub past : drop (6 * n) m ≡ drop (6 * n) m₀
  pub rest : after_fills (fills_at m₀ P X) (standing (take n ss) (orders_in m n)) ≡ after_fills (fills_at m₀ ps xs) (standing (take n ss₀) (orders_in m₀ n))

module _ (m₀ : List ℕ) (ss₀ : List Bool) (ps xs : List ℕ) (n : ℕ) (m : List ℕ) (ss : List Bool) where
  -- the next place is below n
  pub taking_below : (p : ℕ) (P X : List ℕ) → Taking m₀ ss₀ ps xs n m ss (p ∷ P) X → p < n
  taking_below p P X g = ltb-true p n (and_left (ltb p n) (every (λ q. ltb q n) P) g.below)

  pub taking-more : (p x : ℕ) (P X m' : List ℕ) (ss' : List Bool) → Taking m₀ ss₀ ps xs n m ss (p ∷ P) (x ∷ X)
      → Taken m ss n (lessen (order_at m p).number x (standing (take n ss) (orders_in m n))) m' ss'
      → Taking m₀ ss₀ ps xs n m' ss' P X
  unfolding after_fills fills_at filled
  taking-more p x P X m' ss' g t =
      let hp = taking_below p P (x ∷ X) g in
      let same : (order_at m p).number ≡ (order_at m₀ p).number = sym (numbers_at m n p hp) ∙ ap (λ (l : List ℕ). get_or l p 0) g.numbers
      ∙ numbers_at m₀ n p hp in
      let step : standing (take n ss') (orders_in m' n) ≡ lessen (order_at m₀ p).number x (standing (take n ss) (orders_in m n)) =
      t.orders ∙ ap (λ (k : ℕ). lessen k x (standing (take n ss) (orders_in m n))) same in
      record {
        below = and_right (ltb p n) (every (λ q. ltb q n) P) g.below;
        numbers = t.numbers ∙ g.numbers;
        past = t.past ∙ g.past;
        rest = ap (after_fills (filled (orders_at m₀ P) X)) step ∙ g.rest;
      }

  pub taking_end : (P X : List ℕ) → fills_at m₀ P X ≡ [] → Taking m₀ ss₀ ps xs n m ss P X
      → Taken m₀ ss₀ n (after_fills (fills_at m₀ ps xs) (standing (take n ss₀) (orders_in m₀ n))) m ss
  unfolding after_fills
  taking_end P X e g = record { orders = rw e at g.rest; numbers = g.numbers; past = g.past }

-- closing the gaps: those that moved up, and those that stand among the rest
pub record Closing (m₀ : List ℕ) (ss : List Bool) (n : ℕ) (m : List ℕ) (to k : ℕ) : Type 0 where
  pub at : k ≤ n
  pub low : to ≤ k
  pub past : drop (6 * n) m ≡ drop (6 * n) m₀
  pub rest : take to (orders_in m n) ++ standing (drop k (take n ss)) (drop k (orders_in m n)) ≡ standing (take n ss) (orders_in m₀ n)

stands_next : (ss : List Bool) (os : List Order) (k : ℕ) → k < length ss → k < length os → standing (drop k ss) (drop k os)
    ≡ cond (get_or ss k false) (get_or os k no_order ∷ standing (drop (suc k) ss) (drop (suc k) os)) (standing (drop (suc k) ss) (drop (suc k) os))
unfolding standing
stands_next ss os k h l = rw (drop-cons ss k false h, drop-cons os k no_order l)

module _ (m₀ : List ℕ) (ss : List Bool) (n : ℕ) (m : List ℕ) (to k : ℕ) (hs : n ≤ length ss) (hk : k < n) (g : Closing m₀ ss n m to k) where
  abbrev S : List Bool
  S = take n ss

  abbrev X : List Order
  X = orders_in m n

  l_s : k < length S
  l_s = simp length-take (omega arith)

  l_x : length X ≡ n
  l_x = orders_length m n

  mark : get_or S k false ≡ get_or ss k false
  mark = get_or-take n ss k false hk

  pub closing_skip : get_or ss k false ≡ false → Closing m₀ ss n m to (k + 1)
  closing_skip e =
      let low = g.low in
      let next : standing (drop k S) (drop k X) ≡ standing (drop (suc k) S) (drop (suc k) X) = stands_next S X k l_s (omega (arith, l_x))
      ∙ cond-false _ _ _ (mark ∙ e) refl in
      record { at = omega arith; low = omega arith; past = g.past; rest = rw (add-one k, ← next) g.rest }

  pub closing_move : (m' : List ℕ) → get_or ss k false ≡ true → orders_in m' n ≡ set (orders_in m n) to (order_at m k) → drop (6 * n) m'
      ≡ drop (6 * n) m → Closing m₀ ss n m' (to + 1) (k + 1)
  closing_move m' e w past =
      let low = g.low in
      let o : get_or X k no_order ≡ order_at m k = orders_at_lem m n k hk in
      let tx : to < length X = omega (arith, l_x) in
      let d : drop (suc k) (set X to (order_at m k)) ≡ drop (suc k) X = drop-set-lt (suc k) X to (order_at m k) (omega arith) in
      let next : standing (drop k S) (drop k X) ≡ order_at m k ∷ standing (drop (suc k) S) (drop (suc k) X) =
      stands_next S X k l_s (omega (arith, l_x)) ∙ cond-true _ _ _ (mark ∙ e) (ap (λ (y : Order). y
      ∷ standing (drop (suc k) S) (drop (suc k) X)) o) in
      record {
        at = omega arith;
        low = omega arith;
        past = past ∙ g.past;
        rest = rw (add-one k, add-one to, w, take-suc-set X to (order_at m k) tx, d) (append_assoc (take to X) (order_at m k
            ∷ []) (standing (drop (suc k) S) (drop (suc k) X)) ∙ ap (λ (l : List Order). take to X ++ l) (sym next) ∙ g.rest);
      }

standing_none : (ss : List Bool) → standing ss [] ≡ []
unfolding standing
standing_none [] = refl
standing_none (s ∷ ss) = refl

-- an order with no gap before it stays
pub closing_stay : (m₀ : List ℕ) (ss : List Bool) (n : ℕ) (m : List ℕ) (to k : ℕ) → n ≤ length ss → k < n → Closing m₀ ss n m to k → get_or ss k false ≡ true → to ≡ k
    → Closing m₀ ss n m (to + 1) (k + 1)
closing_stay m₀ ss n m to k hs hk g s e =
    let w : set (orders_in m n) to (order_at m k) ≡ orders_in m n = rw (e, ← orders_at_lem m n k hk) (set-get_or (orders_in m n) k no_order) in
    closing_move m₀ ss n m to k hs hk g m s (sym w) refl

pub closing_end : (m₀ : List ℕ) (ss : List Bool) (n : ℕ) (m : List ℕ) (to k : ℕ) → n ≤ k → Closing m₀ ss n m to k → orders_in m to ≡ standing (take n ss) (orders_in m₀ n)
closing_end m₀ ss n m to k h g =
    let at = g.at in
    let low = g.low in
    let e : drop k (orders_in m n) ≡ [] = drop_of_length-le (orders_in m n) {i = k} (omega (arith, orders_length m n)) in
    orders_take m n to (omega arith) ∙ sym (append-nil (take to (orders_in m n)))
    ∙ ap (λ (l : List Order). take to (orders_in m n) ++ l) (sym (ap (standing (drop k (take n ss))) e ∙ standing_none (drop k (take n ss)))) ∙ g.rest

-- where each is marked all stand
standing-all : (n w : ℕ) (os : List Order) → length os ≡ n → n ≤ w → standing (take n (replicate w true)) os ≡ os
unfolding standing
standing-all zero w [] e h = refl
standing-all zero w (o ∷ os) e h = absurd (omega arith)
standing-all (suc n) zero os e h = absurd (not-suc-le-zero h)
standing-all (suc n) (suc w) [] e h = refl
standing-all (suc n) (suc w) (o ∷ os) e h = ap (λ (l : List Order). o ∷ l) (standing-all n w os (omega arith) (omega arith))

-- orders at places keep their numbers
numbers_there : (m m' ps : List ℕ) (n : ℕ) → numbers (orders_in m' n) ≡ numbers (orders_in m n) → every (λ p. ltb p n) ps ≡ true → numbers (orders_at m' ps)
    ≡ numbers (orders_at m ps)
numbers_there m m' [] n e b = refl
numbers_there m m' (p ∷ ps) n e b =
    let l : p < n = ltb-true p n (and_left (ltb p n) (every (λ q. ltb q n) ps) b) in
    let h : (order_at m' p).number ≡ (order_at m p).number = sym (numbers_at m' n p l) ∙ ap (λ (r : List ℕ). get_or r p 0) e ∙ numbers_at m n p l in
    ap₂ (λ (x : ℕ) (xs : List ℕ). x ∷ xs) h (numbers_there m m' ps n e (and_right (ltb p n) (every (λ q. ltb q n) ps) b))

-- the bids' fills taken off orders that all stand, then the asks', and the gaps closed
pub rests_left : (m m₁ : List ℕ) (ss₁ : List Bool) (m₂ : List ℕ) (ss₂ : List Bool) (bids bought asks sold : List ℕ) (n : ℕ) → n ≤ 256 → Filling asks sold n
    → Taken m (replicate 256 true) n (after_fills (fills_at m bids bought) (standing (take n (replicate 256 true)) (orders_in m n))) m₁ ss₁
    → Taken m₁ ss₁ n (after_fills (fills_at m₁ asks sold) (standing (take n ss₁) (orders_in m₁ n))) m₂ ss₂
    → standing (take n ss₂) (orders_in m₂ n) ≡ after_fills (fills_at m asks sold) (after_fills (fills_at m bids bought) (orders_in m n))
unfolding fills_at
rests_left m m₁ ss₁ m₂ ss₂ bids bought asks sold n h f t u =
    u.orders
    ∙ ap (after_fills (fills_at m₁ asks sold))
    (t.orders ∙ ap (after_fills (fills_at m bids bought)) (standing-all n 256 (orders_in m n) (orders_length m n) h))
    ∙ fills_by_number (orders_at m₁ asks) (orders_at m asks) sold (after_fills (fills_at m bids bought) (orders_in m n))
    (numbers_there m m₁ asks n t.numbers f.below)

-- one side without fills
pub no_filling : (n : ℕ) → Filling [] [] n
no_filling n = record { few = omega arith; along = refl; below = refl; small = omega arith }

pub no_rests : (m : List ℕ) (os : List Order) → after_fills (fills_at m [] []) os ≡ os
unfolding fills_at after_fills filled
no_rests m os = refl
