-- Runs of words that are written one after the other.
use Rattle.std.proofs.Common.{◌≡◌, ℕ, ◌+◌, ◌-◌, ◌<◌, List, length, set, refl, ◌∙◌, arith, length-set, get_or-set_other, get_or-set_same}
use native.Mathlib.Decide.{ℕ_discrete, dec_lt}
use Rattle.book.specs.Inner.Runs.{Emptied, UnitEmptied}
use Rattle.book.specs.Layout.{block_words, day_place, word}

-- x is m with four words written, at rising places
pub record FourSet (m x : List ℕ) (a b c d p q r s : ℕ) : Type 0 where
  pub long : length x ≡ length m
  pub first : word x a ≡ p
  pub second : word x b ≡ q
  pub third : word x c ≡ r
  pub fourth : word x d ≡ s
  pub other : (i : ℕ) → (i ≡ a → ⊥) → (i ≡ b → ⊥) → (i ≡ c → ⊥) → (i ≡ d → ⊥) → word x i ≡ word m i

pub four_set : (m : List ℕ) (a b c d p q r s : ℕ) → a < b → b < c → c < d → d < length m
    → FourSet m (set (set (set (set m a p) b q) c r) d s) a b c d p q r s
four_set m a b c d p q r s ab bc cd fits =
    let l1 = set m a p in
    let l2 = set l1 b q in
    let l3 = set l2 c r in
    record {
      long = simp length-set;
      first =
          get_or-set_other l3 d a s 0 (omega arith) ∙ get_or-set_other l2 c a r 0 (omega arith) ∙ get_or-set_other l1 b a q 0 (omega arith)
          ∙ get_or-set_same m a p 0 (omega arith);
      second = get_or-set_other l3 d b s 0 (omega arith) ∙ get_or-set_other l2 c b r 0 (omega arith) ∙ get_or-set_same l1 b q 0 (simp length-set (omega arith));
      third = get_or-set_other l3 d c s 0 (omega arith) ∙ get_or-set_same l2 c r 0 (simp length-set (omega arith));
      fourth = get_or-set_same l3 d s 0 (simp length-set (omega arith));
      other = λ i na nb nc nd. get_or-set_other l3 d i s 0 nd ∙ get_or-set_other l2 c i r 0 nc ∙ get_or-set_other l1 b i q 0 nb ∙ get_or-set_other m a i p 0 na;
    }

-- one day more of a unit is 0
pub unit_emptied_none : (m : List ℕ) (k : ℕ) → UnitEmptied m m k 0
unit_emptied_none m k = record { long = refl; zeros = λ d c l h. absurd (omega arith); kept = λ i n. refl }

pub unit_emptied_more : (m x y : List ℕ) (k d : ℕ) → k < 64 → UnitEmptied m x k d → Emptied x (day_place d k) (day_place d k + block_words) y
    → UnitEmptied m y k (d + 1)
unit_emptied_more m x y k d hk g h =
    record {
      long = h.long ∙ g.long;
      zeros = λ q c l u. zeros q c l u (ℕ_discrete q d);
      kept = λ i n. kept i n (dec_lt i (day_place d k)) (dec_lt i (day_place d
          k + block_words));
    }
  where
    zeros : (q c : ℕ) → q < d + 1 → c < block_words → Dec (q ≡ d) → word y (day_place q k + c) ≡ 0
    zeros q c l u (yes e) = rw e (h.zeros (day_place d k + c) (omega arith) (omega arith))
    zeros q c l u (no e) = h.before (day_place q k + c) (omega arith) ∙ g.zeros q c (omega arith) u

    kept : (i : ℕ) → ((q c : ℕ) → q < d + 1 → c < block_words → i ≡ day_place q k + c → ⊥) → Dec (i < day_place d k) → Dec (i < day_place d k + block_words)
        → word y i ≡ word m i
    kept i n (yes l) u = h.before i l ∙ g.kept i (λ q c a b e. n q c (omega arith) b e)
    kept i n (no l) (yes u) = absurd (n d (i - day_place d k) (omega arith) (omega arith) (omega arith))
    kept i n (no l) (no u) = h.behind i (omega arith) ∙ g.kept i (λ q c a b e. n q c (omega arith) b e)
