-- Laws of what is kept of a list: the elements of a number, all, all but one; and of a list whose numbers rise.
use Rattle.std.proofs.Common.{◌≡◌, ℕ, zero, suc, ◌+◌, ◌<◌, Bool, true, false, not, eqb, ltb, List, [], ◌∷◌, ◌++◌, map, length, get_or, take, drop, refl}
use Rattle.std.proofs.Common.{None, sym, ap, ◌∙◌, not-suc-le-zero, add-one, arith, eq-eqb, ne_eqb, lt-ltb}
use native.Mathlib.Decide.{dec_lt}
use lib.ListN.{length-map, get_or-map}
use Rattle.measures.specs.Lists.{keep}
use Rattle.measures.proofs.ListLaws.{cond-true, cond-false}
use Rattle.matching.specs.Orders.{rising}
use Rattle.book.specs.Inner.Search.{First, Found}
use Rattle.matching.proofs.Laws.Orders.FitLaws.{rising_at}

-- the first that is kept, or that none is
module _ {A : Type 0} (f : A → Bool) (d : A) where
  keep-first : (l : List A) (j : ℕ) → j < length l → f (get_or l j d) ≡ true → ((i : ℕ) → i < j → f (get_or l i d) ≡ false)
      → (get_or (keep f l) 0 d ≡ get_or l j d) × (0 < length (keep f l))
  keep-first [] j h e n = absurd (omega arith)
  keep-first (x ∷ xs) zero h e n = rw e (refl, omega arith)
  keep-first (x ∷ xs) (suc j) h e n = rw (n 0 (omega arith)) (keep-first xs j (omega arith) e (λ i k. n (suc i) (omega arith)))

  keep_none : (l : List A) → ((i : ℕ) → i < length l → f (get_or l i d) ≡ false) → keep f l ≡ []
  keep_none [] n = refl
  keep_none (x ∷ xs) n = rw (n 0 (omega arith)) (keep_none xs (λ i k. n (suc i) (omega arith)))

-- the elements of a number, where the numbers stand in memory: f gives them by place
module _ {A : Type 0} (num : A → ℕ) (d : A) (l : List A) (f : ℕ → ℕ) (many : ℕ) (long : length l ≡ many)
    (same : (i : ℕ) → i < many → num (get_or l i d) ≡ f i) (n : ℕ) where
  abbrev kept : List A
  kept = keep (λ (o : A). eqb (num o) n) l

  pub first_kept : (r : ℕ) → First f many n r → (get_or kept 0 d ≡ get_or l r d) × (ltb 0 (length kept) ≡ true)
  first_kept r h =
      let t = h.there in
      let k = keep-first (λ (o : A). eqb (num o) n) d l r (omega arith) (eq-eqb _ _ (same r t ∙ h.here))
      (λ i l. ne_eqb _ _ (λ e. h.before i l (sym (same i (omega arith)) ∙ e))) in
      (k.0, lt-ltb _ _ k.1)

  pub none_kept : Found f many n None → ltb 0 (length kept) ≡ false
  none_kept h =
      rw (keep_none (λ (o : A). eqb (num o) n) d l (λ i l. ne_eqb _ _ (λ e. h i (omega arith) (sym (same i (omega arith)) ∙ e)))) refl

-- all kept, and all but one
module _ {A : Type 0} (f : A → Bool) where
  pub keep_whole : (l : List A) (d : A) → ((i : ℕ) → i < length l → f (get_or l i d) ≡ true) → keep f l ≡ l
  keep_whole [] d h = refl
  keep_whole (x ∷ xs) d h = cond-true (f x) (x ∷ keep f xs) (keep f xs) (h 0 (omega arith)) (ap (λ (t : List A). x
      ∷ t) (keep_whole xs d (λ i l. h (suc i) (omega arith))))

  pub keep_but : (l : List A) (d : A) (k : ℕ) → k < length l → f (get_or l k d) ≡ false → ((i : ℕ) → i < length l → (i ≡ k → ⊥) → f (get_or l i d) ≡ true)
      → keep f l ≡ take k l ++ drop (suc k) l
  keep_but [] d k u e h = absurd (not-suc-le-zero u)
  keep_but (x ∷ xs) d zero u e h = cond-false (f x) (x ∷ keep f xs) (keep f xs) e
      (keep_whole xs d (λ i l. h (suc i) (omega arith) (λ z. absurd (omega arith))))
  keep_but (x ∷ xs) d (suc k) u e h =
      cond-true (f x) (x ∷ keep f xs) (keep f xs) (h 0 (omega arith) (λ z. absurd (omega arith)))
      (ap (λ (t : List A). x ∷ t) (keep_but xs d k (omega arith) e (λ i l n. h (suc i) (omega arith) (λ z. n (omega arith)))))

-- elements with numbers that rise: a number is at one place
module _ {A : Type 0} (num : A → ℕ) (l : List A) (d : A) (z : num d ≡ 0) (rises : rising (map num l) ≡ true) where
  num_at : (i : ℕ) → get_or (map num l) i 0 ≡ num (get_or l i d)
  num_at i = ap (λ (x : ℕ). get_or (map num l) i x) (sym z) ∙ get_or-map num l i d

  apart : (i k : ℕ) → i < length l → k < length l → (i ≡ k → ⊥) → num (get_or l i d) ≡ num (get_or l k d) → ⊥
  apart i k hi hk ne e = go (dec_lt i k)
    where
      go : Dec (i < k) → ⊥
      go (yes u) = let t = rising_at (map num l) rises i k u (omega (arith, length-map l num)) in omega (arith, num_at i, num_at k)
      go (no u) = let t = rising_at (map num l) rises k i (omega arith) (omega (arith, length-map l num)) in omega (arith, num_at i, num_at k)

  module _ (n k : ℕ) (hk : k < length l) (e : num (get_or l k d) ≡ n) where
    pub number_apart : (i : ℕ) → i < length l → (i ≡ k → ⊥) → eqb (num (get_or l i d)) n ≡ false
    number_apart i u ne = ne_eqb _ _ (λ g. apart i k u hk ne (g ∙ sym e))

    pub number_gone : keep (λ (o : A). not (eqb (num o) n)) l ≡ take k l ++ drop (k + 1) l
    number_gone =
        keep_but (λ (o : A). not (eqb (num o) n)) l d k hk (ap not (eq-eqb _ _ e)) (λ i u ne. ap not (number_apart i u ne))
        ∙ rw (add-one k) refl
