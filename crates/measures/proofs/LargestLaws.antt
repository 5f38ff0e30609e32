-- The k first places of the order "larger number, or equal number and lower place", found by a cut: a number t with at most k
-- numbers above it and at least k from it on. Which cut is found does not matter.
use Prim.Native.Nat.{ℕ, zero, suc, ◌+◌, ◌-◌, ◌%◌, ◌≤◌, ◌<◌, min}
use mathlib.Core.Path.{◌≡◌, refl, sym, ap, ◌∙◌}
use mathlib.Core.Bool.{Bool, true, false, ◌&&◌, ◌||◌}
use mathlib.Core.List.{List, [], ◌∷◌}
use lib.ListN.{length}
use Rattle.std.specs.List.{fold}
use native.Mathlib.Omega.{arith}
use native.Mathlib.Nat.{not-suc-le-zero, add-zero}
use native.Mathlib.Numerals.{add-one}
use native.Mathlib.Decide.{ℕ_discrete, dec_lt}
use lib.Dec.{leb, ltb, eqb}
use borrow.Author.Tests.{lt-ltb, le-ltb, le-leb, lt-leb, eq-eqb, ne_eqb, ltb-true, eqb-true, leb-false}
use Rattle.measures.specs.Ranges.{most_energy}
use Rattle.measures.specs.Lists.{sum, one, count}
use Rattle.measures.specs.Sharing.{before}
use Rattle.measures.specs.Inner.Cuts.{half, rest, reach, ties, folded, higher_below, lower_from, Cut, Edged, Between}
use Rattle.measures.proofs.ListLaws.{
  sum_none,
  sum_more,
  sum_ext,
  sum_mono,
  sum_less,
  sum_add,
  sum_prefix,
  and_right_false,
  and_true_right,
  both_ways,
}

pub one_le : (b : Bool) → one b ≤ 1
one_le true = omega arith
one_le false = omega arith

-- one place more
pub reach_none : (w : ℕ → ℕ) (x : ℕ) → reach w 0 x ≡ 0
unfolding reach
reach_none w x = sum_none _

pub reach-more : (w : ℕ → ℕ) (n x : ℕ) → reach w (n + 1) x ≡ reach w n x + one (leb x (w n))
unfolding reach
reach-more w n x = sum_more n (λ i. one (leb x (w i)))

pub reach_hit : (w : ℕ → ℕ) (n x : ℕ) → x ≤ w n → reach w (n + 1) x ≡ reach w n x + 1
reach_hit w n x h = reach-more w n x ∙ simp (le-leb x (w n) h)

pub reach_miss : (w : ℕ → ℕ) (n x : ℕ) → w n < x → reach w (n + 1) x ≡ reach w n x
reach_miss w n x h = reach-more w n x ∙ simp (lt-leb x (w n) h, add-zero)

pub ties_none : (w : ℕ → ℕ) (x : ℕ) → ties w 0 x ≡ 0
unfolding ties
ties_none w x = sum_none _

pub ties-more : (w : ℕ → ℕ) (n x : ℕ) → ties w (n + 1) x ≡ ties w n x + one (eqb (w n) x)
unfolding ties
ties-more w n x = sum_more n (λ i. one (eqb (w i) x))

pub ties_hit : (w : ℕ → ℕ) (n x : ℕ) → w n ≡ x → ties w (n + 1) x ≡ ties w n x + 1
ties_hit w n x h = ties-more w n x ∙ simp (eq-eqb (w n) x h)

pub ties_miss : (w : ℕ → ℕ) (n x : ℕ) → (w n ≡ x → ⊥) → ties w (n + 1) x ≡ ties w n x
ties_miss w n x h = ties-more w n x ∙ simp (ne_eqb (w n) x h, add-zero)

pub ties_mono : (w : ℕ → ℕ) (x i n : ℕ) → i ≤ n → ties w i x ≤ ties w n x
unfolding ties
ties_mono w x i n h = sum_prefix n i (λ a. one (eqb (w a) x)) h

-- a place before which fewer ties stand than among the first n is one of these
pub ties-left : (w : ℕ → ℕ) (x i n wanted : ℕ) → ties w i x < wanted → wanted ≤ ties w n x → i < n
ties-left w x i n wanted l h = go (dec_lt i n)
  where
    go : Dec (i < n) → i < n
    go (yes k) = k
    go (no k) = absurd (omega (arith, ties_mono w x n i (omega arith)))

-- more numbers reach a lower bound
pub reach_mono : (w : ℕ → ℕ) (n x y : ℕ) → x ≤ y → reach w n y ≤ reach w n x
unfolding reach
reach_mono w n x y h = sum_mono n (λ i. one (leb y (w i))) (λ i. one (leb x (w i))) (λ i l. at (w i) (dec_lt (w i) y))
  where
    at : (a : ℕ) → Dec (a < y) → one (leb y a) ≤ one (leb x a)
    at a (yes k) = simp (lt-leb y a k) (omega arith)
    at a (no k) = simp (le-leb y a (omega arith), le-leb x a (omega arith)) (omega arith)

-- all numbers are 0 or more
pub reach-all : (w : ℕ → ℕ) (n : ℕ) → reach w n 0 ≡ n
reach-all w zero = reach_none w 0
reach-all w (suc n) = ap (λ (k : ℕ). reach w k 0) (sym (add-one n)) ∙ reach_hit w n 0 (omega arith) ∙ rw (reach-all w n) (add-one n)

pub reach_le : (w : ℕ → ℕ) (n x : ℕ) → reach w n x ≤ n
reach_le w n x = omega (arith, reach-all w n, reach_mono w n 0 x (omega arith))

-- no number passes a bound of all
pub reach_past : (w : ℕ → ℕ) (n x : ℕ) → ((i : ℕ) → i < n → w i < x) → reach w n x ≡ 0
reach_past w zero x h = reach_none w x
reach_past w (suc n) x h =
    ap (λ (k : ℕ). reach w k x) (sym (add-one n)) ∙ reach_miss w n x (h n (omega arith)) ∙ reach_past w n x (λ i l. h i (omega arith))

-- those from x on are those above x and those that are x
pub reach-ties : (w : ℕ → ℕ) (n x : ℕ) → reach w n x ≡ reach w n (x + 1) + ties w n x
unfolding reach ties
reach-ties w n x =
    sum_ext n (λ i. one (leb x (w i))) (λ i. one (leb (x + 1) (w i)) + one (eqb (w i) x)) (λ i l. at (w i) (dec_lt x (w i)) (ℕ_discrete (w i) x))
    ∙ sum_add n (λ i. one (leb (x + 1) (w i))) (λ i. one (eqb (w i) x))
  where
    at : (a : ℕ) → Dec (x < a) → Dec (a ≡ x) → one (leb x a) ≡ one (leb (x + 1) a) + one (eqb a x)
    at a (yes k) d = simp (le-leb x a (omega arith), le-leb (x + 1) a (omega arith), ne_eqb a x (omega arith))
    at a (no k) (yes e) = simp (le-leb x a (omega arith), lt-leb (x + 1) a (omega arith), eq-eqb a x e)
    at a (no k) (no ne) = simp (lt-leb x a (omega arith), lt-leb (x + 1) a (omega arith), ne_eqb a x ne)

-- a sum over those of the first n that lie below j
sum_below : (n j : ℕ) (f : ℕ → Bool) → j ≤ n → count n (λ i. f i && ltb i j) ≡ count j f
unfolding sum
sum_below zero j f h =
    let e : j ≡ 0 = omega arith in
    rw e refl
sum_below (suc n) j f h = go (λ l. sum_below n j f l) (dec_lt n j)
  where
    go : (j ≤ n → count n (λ i. f i && ltb i j) ≡ count j f) → Dec (n < j) → count n (λ i. f i && ltb i j) + one (f n && ltb n j) ≡ count j f
    go ih (no l) = rw (ih (omega arith), le-ltb n j (omega arith), and_right_false (f n) false refl) (add-zero (count j f))
    go ih (yes l) =
        let e : j ≡ suc n = omega arith in
        rw (e, sum_ext n (λ i. one (f i && ltb i (suc n))) (λ i. one (f i)) (λ i k. inside i (omega arith)), inside n (omega arith)) refl
      where
        inside : (i : ℕ) → i < suc n → one (f i && ltb i (suc n)) ≡ one (f i)
        inside i k = rw (lt-ltb i (suc n) k) (ap one (and_true_right (f i)))

-- places before j, one by one
before_self : (w : ℕ → ℕ) (j : ℕ) → before w j j ≡ false
before_self w j = simp (le-ltb (w j) (w j) (omega arith), le-ltb j j (omega arith), eq-eqb (w j) (w j) refl)

module _ (t i j a b : ℕ) where
  at_above : t < b → Dec (t < a) → one (ltb b a || (eqb a b && ltb i j)) ≤ one (leb (t + 1) a)
  at_above h (yes k) = simp (le-leb (t + 1) a (omega arith)) (one_le (ltb b a || (eqb a b && ltb i j)))
  at_above h (no k) = simp (le-ltb b a (omega arith), ne_eqb a b (omega arith)) (omega arith)

  at_below : b < t → Dec (a < t) → one (leb t a) ≤ one (ltb b a || (eqb a b && ltb i j))
  at_below h (yes k) = simp (lt-leb t a k) (omega arith)
  at_below h (no k) = simp (le-leb t a (omega arith), lt-ltb b a (omega arith)) (omega arith)

  at_tie : Dec (t < a) → one (ltb t a || (eqb a t && ltb i j)) ≡ one (leb (t + 1) a) + one (eqb a t && ltb i j)
  at_tie (yes k) = simp (lt-ltb t a k, le-leb (t + 1) a (omega arith), ne_eqb a t (omega arith))
  at_tie (no k) = simp (le-ltb t a (omega arith), lt-leb (t + 1) a (omega arith)) (omega arith)

-- the three kinds of places, of numbers that a cut parts
module _ (w : ℕ → ℕ) (n k t : ℕ) (u : Cut w n k t) (j : ℕ) (inside : j < n) where
  pub place_above : t < w j → count n (λ i. before w i j) < k
  unfolding reach
  place_above h =
      let l : count n (λ i. before w i j) < reach w n (t + 1) =
      sum_less n (λ i. one (before w i j)) (λ i. one (leb (t + 1) (w i))) j inside
      (λ i li. at_above t i j (w i) (w j) h (dec_lt t (w i)))
      (simp (before_self w j, le-leb (t + 1) (w j) (omega arith)) (omega arith)) in
      omega (arith, u.above)

  pub place_below : w j < t → k ≤ count n (λ i. before w i j)
  unfolding reach
  place_below h =
      let l : reach w n t ≤ count n (λ i. before w i j) =
      sum_mono n (λ i. one (leb t (w i))) (λ i. one (before w i j)) (λ i li. at_below t i j (w i) (w j) h (dec_lt (w i) t)) in
      omega (arith, u.from)

  pub place_tie : w j ≡ t → count n (λ i. before w i j) ≡ reach w n (t + 1) + ties w j t
  unfolding reach ties
  place_tie e =
      sum_ext n (λ i. one (before w i j)) (λ i. one (leb (t + 1) (w i)) + one (eqb (w i) t && ltb i j))
      (λ i li. rw e (at_tie t i j (w i) (w j) (dec_lt t (w i))))
      ∙ sum_add n (λ i. one (leb (t + 1) (w i))) (λ i. one (eqb (w i) t && ltb i j))
      ∙ ap (λ (x : ℕ). reach w n (t + 1) + x) (sum_below n j (λ i. eqb (w i) t) (omega arith))

  -- whether a place is one of the k first, by the cut
  pub first_above : t < w j → one (ltb (count n (λ i. before w i j)) k) ≡ 1
  first_above h = simp (lt-ltb (count n (λ i. before w i j)) k (place_above h))

  pub first_below : w j < t → one (ltb (count n (λ i. before w i j)) k) ≡ 0
  first_below h = simp (le-ltb (count n (λ i. before w i j)) k (place_below h))

  pub first_tie : w j ≡ t → ties w j t < k - reach w n (t + 1) → one (ltb (count n (λ i. before w i j)) k) ≡ 1
  first_tie e h = simp (lt-ltb (count n (λ i. before w i j)) k (omega (arith, place_tie e)))

  pub late_tie : w j ≡ t → k - reach w n (t + 1) ≤ ties w j t → one (ltb (count n (λ i. before w i j)) k) ≡ 0
  late_tie e h = simp (le-ltb (count n (λ i. before w i j)) k (omega (arith, place_tie e)))

-- so those places are: up to the place e behind the ties that are chosen, all from t on; from e on, all above t
module _ (w : ℕ → ℕ) (n k t e : ℕ) (u : Cut w n k t) (some : ties w e t ≡ k - reach w n (t + 1)) (j : ℕ) (inside : j < n) where
  pub chosen_early : j < e → one (ltb (count n (λ i. before w i j)) k) ≡ one (leb t (w j))
  chosen_early h = go (dec_lt t (w j)) (ℕ_discrete (w j) t)
    where
      go : Dec (t < w j) → Dec (w j ≡ t) → one (ltb (count n (λ i. before w i j)) k) ≡ one (leb t (w j))
      go (yes l) q = first_above w n k t u j inside l ∙ simp (le-leb t (w j) (omega arith))
      go (no l) (yes q) =
          first_tie w n k t u j inside q (omega (arith, ties_hit w j t q, ties_mono w t (j + 1) e (omega arith)))
          ∙ simp (le-leb t (w j) (omega arith))
      go (no l) (no q) =
          let b : w j < t = omega arith in
          first_below w n k t u j inside b ∙ simp (lt-leb t (w j) b)

  pub chosen_late : e ≤ j → one (ltb (count n (λ i. before w i j)) k) ≡ one (leb (t + 1) (w j))
  chosen_late h = go (dec_lt t (w j)) (ℕ_discrete (w j) t)
    where
      go : Dec (t < w j) → Dec (w j ≡ t) → one (ltb (count n (λ i. before w i j)) k) ≡ one (leb (t + 1) (w j))
      go (yes l) q = first_above w n k t u j inside l ∙ simp (le-leb (t + 1) (w j) (omega arith))
      go (no l) (yes q) = late_tie w n k t u j inside q (omega (arith, ties_mono w t e j h)) ∙ simp (lt-leb (t + 1) (w j) (omega arith))
      go (no l) (no q) = first_below w n k t u j inside (omega arith) ∙ simp (lt-leb (t + 1) (w j) (omega arith))

-- the first k places of n are k
module _ (w : ℕ → ℕ) (n k t : ℕ) (u : Cut w n k t) where
  -- 1 for each of them
  first : ℕ → ℕ
  first j = one (ltb (count n (λ i. before w i j)) k)

  firsts_more : (m : ℕ) → m < n → sum m first ≡ reach w m (t + 1) + min (k - reach w n (t + 1)) (ties w m t)
      → Dec (t < w m) → Dec (w m ≡ t) → Dec (ties w m t < k - reach w n (t + 1))
      → sum (m + 1) first ≡ reach w (m + 1) (t + 1) + min (k - reach w n (t + 1)) (ties w (m + 1) t)
  unfolding first
  firsts_more m h ih (yes a) b c =
      omega (arith, sum_more m first, first_above w n k t u m h a, reach_hit w m (t + 1) (omega arith), ties_miss w m t (omega arith))
  firsts_more m h ih (no a) (yes b) (yes c) =
      omega (arith, sum_more m first, first_tie w n k t u m h b c, reach_miss w m (t + 1) (omega arith), ties_hit w m t b)
  firsts_more m h ih (no a) (yes b) (no c) =
      omega (arith, sum_more m first, late_tie w n k t u m h b (omega arith), reach_miss w m (t + 1) (omega arith), ties_hit w m t b)
  firsts_more m h ih (no a) (no b) c =
      omega (arith, sum_more m first, first_below w n k t u m h (omega arith), reach_miss w m (t + 1) (omega arith), ties_miss w m t b)

  firsts_to : (m : ℕ) → m ≤ n → sum m first ≡ reach w m (t + 1) + min (k - reach w n (t + 1)) (ties w m t)
  firsts_to zero h = rw (sum_none first, reach_none w (t + 1), ties_none w t) (omega arith)
  firsts_to (suc m) h =
      let h' = firsts_to m (omega arith) in
      rw (add-one m) at (firsts_more m (omega arith) h' (dec_lt t (w m)) (ℕ_discrete (w m) t) (dec_lt (ties w m t) (k - reach w n (t + 1))))

  pub firsts : count n (λ j. ltb (count n (λ i. before w i j)) k) ≡ k
  unfolding first
  firsts = omega (arith, firsts_to n (omega arith), reach-ties w n t, u.above, u.from)

-- there is a cut for each k up to n
pub record HasCut (w : ℕ → ℕ) (n k : ℕ) : Type 0 where
  pub at : ℕ
  pub cut : Cut w n k at

cut_below : (w : ℕ → ℕ) (n k x : ℕ) → k ≤ n → reach w n x ≤ k → HasCut w n k
cut_below w n k zero h l = record {
  at = 0;
  cut = record { above = omega (arith, reach_mono w n 0 (0 + 1) (omega arith)); from = omega (arith, reach-all w n) };
}
cut_below w n k (suc x) h l = go (λ l'. cut_below w n k x h l') (dec_lt k (reach w n x))
  where
    go : (reach w n x ≤ k → HasCut w n k) → Dec (k < reach w n x) → HasCut w n k
    go ih (yes m) = record { at = x; cut = record { above = rw add-one l; from = omega arith } }
    go ih (no m) = ih (omega arith)

pub has_cut : (w : ℕ → ℕ) (n k x : ℕ) → k ≤ n → ((i : ℕ) → i < n → w i < x) → HasCut w n k
has_cut w n k x h b = cut_below w n k x h (omega (arith, reach_past w n x b))

-- a place whose number is 0 is none of the k first where k numbers are larger
pub zero_place : (w : ℕ → ℕ) (n k j : ℕ) → k ≤ reach w n 1 → w j ≡ 0 → k ≤ count n (λ i. before w i j)
unfolding reach
zero_place w n k j h e =
    let l : reach w n 1 ≤ count n (λ i. before w i j) =
    sum_mono n (λ i. one (leb 1 (w i))) (λ i. one (before w i j)) (λ i li. at_below 1 i j (w i) (w j) (omega arith) (dec_lt (w i) 1)) in
    omega arith

-- bounds with nothing between them
pub level : (w : ℕ → ℕ) (n x y : ℕ) → x ≤ y → ((i : ℕ) → i < n → x ≤ w i → y ≤ w i) → reach w n y ≡ reach w n x
unfolding reach
level w n x y l h = sum_ext n (λ i. one (leb y (w i))) (λ i. one (leb x (w i))) (λ i li. at i li (dec_lt (w i) x))
  where
    at : (i : ℕ) → i < n → Dec (w i < x) → one (leb y (w i)) ≡ one (leb x (w i))
    at i li (yes k) = simp (lt-leb y (w i) (omega arith), lt-leb x (w i) k)
    at i li (no k) = let z = h i li (omega arith) in simp (le-leb y (w i) z, le-leb x (w i) (omega arith))

-- numbers taken one after the other: what each turn keeps, and what holds of each number and the outcome
module _ (g : ℕ → ℕ → ℕ) (w : ℕ → ℕ) (b : ℕ) where
  pub folded_none : folded g w b 0 ≡ b
  unfolding folded
  folded_none = refl

  pub folded_more : (n : ℕ) → folded g w b (n + 1) ≡ g (folded g w b n) (w n)
  unfolding folded
  folded_more n = rw add-one

  folded_keeps : (P : ℕ → Type 0) → P b → ((y x : ℕ) → P y → P (g y x)) → (n : ℕ) → P (folded g w b n)
  unfolding folded
  folded_keeps P h k zero = h
  folded_keeps P h k (suc n) = k (folded g w b n) (w n) (folded_keeps P h k n)

  folded_has : (C : ℕ → Type 0) (L : ℕ → ℕ → Type 0) → ((y x : ℕ) → C x → L x (g y x)) → ((z y x : ℕ) → L z y → L z (g y x)) → (n i : ℕ)
      → i < n → C (w i) → L (w i) (folded g w b n)
  unfolding folded
  folded_has C L here on zero i l c = absurd (not-suc-le-zero l)
  folded_has C L here on (suc n) i l c = go (λ l'. folded_has C L here on n i l' c) (dec_lt i n)
    where
      go : (i < n → L (w i) (folded g w b n)) → Dec (i < n) → L (w i) (g (folded g w b n) (w n))
      go ih (yes l') = on (w i) (folded g w b n) (w n) (ih l')
      go ih (no l') =
          let e : i ≡ n = omega arith in
          let c' : C (w n) = rw e at c in
          rw e (here (folded g w b n) (w n) c')

-- the largest of those below m, and the smallest of those from m on
module _ (m y x : ℕ) where
  higher_cases : Dec (x < m) → (y ≤ higher_below m y x) × (y < m → higher_below m y x < m) × (x < m → x ≤ higher_below m y x)
  higher_cases (yes l) = simp (lt-ltb x m l) (omega arith, λ h. omega arith, λ h. omega arith)
  higher_cases (no l) = simp (le-ltb x m (omega arith)) (omega arith, λ h. h, λ h. absurd (l h))

  lower_cases : Dec (x < m) → (lower_from m y x ≤ y) × (m ≤ y → m ≤ lower_from m y x) × (m ≤ x → lower_from m y x ≤ x)
  lower_cases (yes l) = simp (lt-ltb x m l) (omega arith, λ h. h, λ h. absurd (omega arith))
  lower_cases (no l) = simp (le-ltb x m (omega arith)) (omega arith, λ h. omega arith, λ h. omega arith)

module _ (w : ℕ → ℕ) (n m low : ℕ) where
  pub highest_from : low ≤ folded (higher_below m) w low n
  highest_from =
      folded_keeps (higher_below m) w low (λ y. low ≤ y) (omega arith) (λ y x h. omega (arith, (higher_cases m y x (dec_lt x m)).0)) n

  pub highest_below : low < m → folded (higher_below m) w low n < m
  highest_below h = folded_keeps (higher_below m) w low (λ y. y < m) h (λ y x k. (higher_cases m y x (dec_lt x m)).1 k) n

  highest_has : (i : ℕ) → i < n → w i < m → w i ≤ folded (higher_below m) w low n
  highest_has =
      folded_has (higher_below m) w low (λ x. x < m) (λ x y. x ≤ y) (λ y x h. (higher_cases m y x (dec_lt x m)).2 h)
      (λ z y x h. omega (arith, (higher_cases m y x (dec_lt x m)).0)) n

  pub level_below : low < m → reach w n (folded (higher_below m) w low n + 1) ≡ reach w n m
  level_below h =
      let r = folded (higher_below m) w low n in
      sym (level w n (r + 1) m (omega (arith, highest_below h)) (λ i li k. go i li k (dec_lt (w i) m)))
    where
      go : (i : ℕ) → i < n → folded (higher_below m) w low n + 1 ≤ w i → Dec (w i < m) → m ≤ w i
      go i li k (yes l) = absurd (omega (arith, highest_has i li l))
      go i li k (no l) = omega arith

module _ (w : ℕ → ℕ) (n m high : ℕ) where
  pub lowest_to : folded (lower_from m) w high n ≤ high
  lowest_to = folded_keeps (lower_from m) w high (λ y. y ≤ high) (omega arith) (λ y x h. omega (arith, (lower_cases m y x (dec_lt x m)).0)) n

  pub lowest_from : m ≤ high → m ≤ folded (lower_from m) w high n
  lowest_from h = folded_keeps (lower_from m) w high (λ y. m ≤ y) h (λ y x k. (lower_cases m y x (dec_lt x m)).1 k) n

  lowest_has : (i : ℕ) → i < n → m ≤ w i → folded (lower_from m) w high n ≤ w i
  lowest_has =
      folded_has (lower_from m) w high (λ x. m ≤ x) (λ x y. y ≤ x) (λ y x h. (lower_cases m y x (dec_lt x m)).2 h)
      (λ z y x h. omega (arith, (lower_cases m y x (dec_lt x m)).0)) n

  pub level_from : m ≤ high → reach w n (folded (lower_from m) w high n) ≡ reach w n m
  level_from h = level w n m (folded (lower_from m) w high n) (lowest_from h) lowest_has

module _ (w : ℕ → ℕ) (n k low high above from : ℕ) (b : Between w n k low high above from) where
  -- a count at m raises the lower bound
  pub between_raised : (m x count : ℕ) → reach w n x ≡ reach w n m → count ≡ reach w n m → k < count → Between w n k x high above count
  between_raised m x count e f h = record {
    order = go (dec_lt x high);
    range = b.range;
    top = b.top;
    few = b.few;
    bottom = f ∙ sym e;
    many = omega arith;
  }
    where
      go : Dec (x < high) → x < high
      go (yes o) = o
      go (no o) = absurd (omega (arith, b.top, b.few, reach_mono w n high x (omega arith)))

  -- or lowers the upper one
  pub between_lowered : (m x count : ℕ) → low < x → x ≤ high → reach w n x ≡ reach w n m → count ≡ reach w n m → count ≤ k
      → Between w n k low x count from
  between_lowered m x count o l e f h = record {
    order = o;
    range = omega (arith, b.range);
    top = f ∙ sym e;
    few = h;
    bottom = b.bottom;
    many = b.many;
  }

  -- and beyond m to the next number, where a fold has found it
  pub between_lifted : (m x count : ℕ) → m < high → count ≡ reach w n m → k < count → x ≡ folded (lower_from m) w high n
      → Between w n k x high above count × (m ≤ x) × (x ≤ high)
  between_lifted m x count h f c e =
      let l : m ≤ high = omega arith in
      rw e (between_raised m (folded (lower_from m) w high n) count (level_from w n m high l) f c, lowest_from w n m high l, lowest_to w n m high)

  pub between_sunk : (m x count : ℕ) → low < m → m < high → count ≡ reach w n m → count ≤ k → x ≡ folded (higher_below m) w low n
      → Between w n k low (x + 1) count from × (x < m)
  between_sunk m x count l h f c e =
      let r = folded (higher_below m) w low n in
      let o : low < r + 1 = omega (arith, highest_from w n m low) in
      let t : r + 1 ≤ high = omega (arith, highest_below w n m low l) in
      rw e (between_lowered m (r + 1) count o t (level_below w n m low l) f c, highest_below w n m low l)

  -- the ends
  pub between_close : high - low < 2 → Edged w n k low above
  between_close h =
      let e : high ≡ low + 1 = omega (arith, b.order) in
      record {
        cut = record { above = rw (← e) (omega (arith, b.top, b.few)); from = omega (arith, b.bottom, b.many) };
        count = rw (← e) b.top;
      }

  pub between-full : k ≤ above → Edged w n k (high - 1) above
  between-full h =
      let e : high - 1 + 1 ≡ high = omega (arith, b.order) in
      record {
        cut = record {
          above = rw e (omega (arith, b.top, b.few));
          from = omega (arith, b.top, b.few, reach_mono w n (high - 1) high (omega arith));
        };
        count = rw e b.top;
      }

-- a search that is over, with fewer than are looked for above its bounds
pub closed_on : (above k width : ℕ) → (ltb above k && leb 2 width) ≡ false → above < k → width < 2
closed_on above k width e h = leb-false 2 width (rw (lt-ltb above k h) at e)

pub between_start : (w : ℕ → ℕ) (n k high : ℕ) → 0 < high → high ≤ most_energy → k ≤ n → reach w n high ≡ 0 → Between w n k 0 high 0 n
between_start w n k high o r l e = record { order = o; range = r; top = sym e; few = omega arith; bottom = sym (reach-all w n); many = l }

-- there are ties enough for what is still wanted at the edge
pub edge_ties : (w : ℕ → ℕ) (n k t above : ℕ) → Edged w n k t above → k - above ≤ ties w n t
edge_ties w n k t above e = omega (arith, e.count, e.cut.from, reach-ties w n t)

-- where nothing is looked for
pub edge_none : (w : ℕ → ℕ) (n k high : ℕ) → k ≡ 0 → 0 < high → reach w n high ≡ 0 → Edged w n k (high - 1) 0
edge_none w n k high z o e =
    let q : high - 1 + 1 ≡ high = omega arith in
    record { cut = record { above = rw q (omega (arith, e)); from = omega arith }; count = rw q (sym e) }

-- the order is one: what comes before i comes before what i comes before, and of two places one comes before the other
module _ (w : ℕ → ℕ) (i j : ℕ) where
  before_is : before w i j ≡ true → (w j ≤ w i) × (w i ≡ w j → i < j)
  before_is e = go (ltb (w j) (w i)) (eqb (w i) (w j)) (ltb i j) refl refl refl e
    where
      go : (p q s : Bool) → ltb (w j) (w i) ≡ p → eqb (w i) (w j) ≡ q → ltb i j ≡ s → (p || (q && s)) ≡ true → (w j ≤ w i) × (w i ≡ w j → i < j)
      go true q s hp hq hs t = let l = ltb-true (w j) (w i) hp in (omega arith, λ f. absurd (omega arith))
      go false true true hp hq hs t = let f = eqb-true (w i) (w j) hq in (omega arith, λ g. ltb-true i j hs)
      go false true false hp hq hs t = both_ways (sym t)
      go false false s hp hq hs t = both_ways (sym t)

  before_by : w j ≤ w i → (w i ≡ w j → i < j) → before w i j ≡ true
  before_by l h = go (dec_lt (w j) (w i))
    where
      go : Dec (w j < w i) → before w i j ≡ true
      go (yes k) = simp (lt-ltb (w j) (w i) k)
      go (no k) =
          let e : w i ≡ w j = omega arith in
          let o = h e in
          simp (le-ltb (w j) (w i) (omega arith), eq-eqb (w i) (w j) e, lt-ltb i j o)

before_trans : (w : ℕ → ℕ) (a i j : ℕ) → before w a i ≡ true → before w i j ≡ true → before w a j ≡ true
before_trans w a i j p q =
    let x = before_is w a i p in
    let y = before_is w i j q in
    before_by w a j (omega arith) (λ e. let u = x.1 (omega arith) in let v = y.1 (omega arith) in omega arith)

-- so no more places come before i than before j
pub fewer_ahead : (w : ℕ → ℕ) (n i j : ℕ) → before w i j ≡ true → count n (λ a. before w a i) ≤ count n (λ a. before w a j)
fewer_ahead w n i j p = sum_mono n (λ a. one (before w a i)) (λ a. one (before w a j)) (λ a h. at a (before w a i) refl)
  where
    at : (a : ℕ) (b : Bool) → before w a i ≡ b → one (before w a i) ≤ one (before w a j)
    at a true e = simp (before_trans w a i j e p) (one_le (before w a i))
    at a false e = simp e (omega arith)

-- numbers taken in one walk along a list
pub folded_front : (g : ℕ → ℕ → ℕ) (w : ℕ → ℕ) (b n : ℕ) → folded g w b (suc n) ≡ folded g (λ i. w (suc i)) (g b (w 0)) n
unfolding folded
folded_front g w b zero = refl
folded_front g w b (suc n) = ap (λ (y : ℕ). g y (w (suc n))) (folded_front g w b n)

pub folded_along : (g : ℕ → ℕ → ℕ) (b : ℕ) (m : List ℕ) → fold (λ y p. g y (p % half)) b m ≡ folded g (rest m) b (length m)
folded_along g b [] = sym (folded_none g (rest []) b)
folded_along g b (p ∷ m) = folded_along g (g b (p % half)) m ∙ sym (folded_front g (rest (p ∷ m)) b (length m))
