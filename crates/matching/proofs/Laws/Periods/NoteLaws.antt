-- Prices noted by period, by cases.
use Prim.Native.Nat.{ℕ, ◌+◌, ◌≤◌, ◌<◌, min}
use mathlib.Core.Path.{◌≡◌, refl, ap, ◌∙◌}
use mathlib.Core.Bool.{Bool, true, false, cond, not, ◌&&◌}
use mathlib.Core.List.{List}
use native.Mathlib.Omega.{arith}
use native.Mathlib.Decide.{ℕ_discrete}
use borrow.Author.Tests.{eq-eqb, ne_eqb, lt-ltb, le-ltb, lt-leb, le-leb}
use lib.ListN.{length, get_or, set, length-set}
use lib.Seq.{set_out}
use lib.Dec.{eqb, leb, ltb}
use Rattle.matching.specs.Memory.{most_word}
use Rattle.matching.specs.Prices.{high_with, low_with}

-- an order's price entered, by cases
module _ (d p price : ℕ) (l : List ℕ) where
  pub high-most : d ≡ 1 → get_or l p 0 ≤ price → high_with d p price l ≡ set l p (min (price + 1) most_word)
  unfolding high_with
  high-most e h = rw (eq-eqb d 1 e, le-leb (get_or l p 0) price h)

  pub high_new : d ≡ 1 → get_or l p 0 ≤ price → price < most_word → high_with d p price l ≡ set l p (price + 1)
  high_new e h s = high-most e h ∙ ap (set l p) (omega arith)

  pub high-not : (d ≡ 1 → price < get_or l p 0) → high_with d p price l ≡ l
  unfolding high_with
  high-not f = go (ℕ_discrete d 1)
    where
      go : Dec (d ≡ 1) → cond (eqb d 1 && leb (get_or l p 0) price) (set l p (min (price + 1) most_word)) l ≡ l
      go (yes e) = rw (eq-eqb d 1 e, lt-leb (get_or l p 0) price (f e))
      go (no n) = rw (ne_eqb d 1 n)

  pub low_new : (d ≡ 1 → ⊥) → price < get_or l p 0 → low_with d p price l ≡ set l p price
  unfolding low_with
  low_new n h = rw (ne_eqb d 1 n, lt-ltb price (get_or l p 0) h)

  pub low-not : ((d ≡ 1 → ⊥) → get_or l p 0 ≤ price) → low_with d p price l ≡ l
  unfolding low_with
  low-not f = go (ℕ_discrete d 1)
    where
      go : Dec (d ≡ 1) → cond (not (eqb d 1) && ltb price (get_or l p 0)) (set l p price) l ≡ l
      go (yes e) = rw (eq-eqb d 1 e)
      go (no n) = rw (ne_eqb d 1 n, le-ltb price (get_or l p 0) (f n))

  -- a period past the list
  pub high_past : length l ≤ p → high_with d p price l ≡ l
  unfolding high_with
  high_past h = go (eqb d 1 && leb (get_or l p 0) price)
    where
      go : (b : Bool) → cond b (set l p (min (price + 1) most_word)) l ≡ l
      go true = set_out l p (min (price + 1) most_word) h
      go false = refl

  pub low_past : length l ≤ p → low_with d p price l ≡ l
  unfolding low_with
  low_past h = go (not (eqb d 1) && ltb price (get_or l p 0))
    where
      go : (b : Bool) → cond b (set l p price) l ≡ l
      go true = set_out l p price h
      go false = refl

  -- no list changes its length
  pub high-length : length (high_with d p price l) ≡ length l
  unfolding high_with
  high-length = go (eqb d 1 && leb (get_or l p 0) price)
    where
      go : (b : Bool) → length (cond b (set l p (min (price + 1) most_word)) l) ≡ length l
      go true = length-set l p (min (price + 1) most_word)
      go false = refl

  pub low-length : length (low_with d p price l) ≡ length l
  unfolding low_with
  low-length = go (not (eqb d 1) && ltb price (get_or l p 0))
    where
      go : (b : Bool) → length (cond b (set l p price) l) ≡ length l
      go true = length-set l p price
      go false = refl
