-- Figures of two units or periods, or two of one, stand at two places.
use Rattle.std.proofs.Common.{◌≡◌, ℕ, ◌+◌, ◌*◌, ◌/◌, ◌%◌, ◌<◌, ◌≤◌, arith}
use native.Mathlib.Decide.{dec_lt}
use Rattle.book.specs.Layout.{day_words, block_words, day_place, figure_place}

-- f and g count the figures: 0 held, 1 raised, 2 lowered, 3 mark, 4 volume
pub record SamePlace (j q f k p g : ℕ) : Type 0 where
  pub unit : j ≡ k
  pub period : q ≡ p
  pub figure : f ≡ g

-- a day, a unit of it, a figure of that and an hour make one place
parts : (a j f s b k g t : ℕ) → j < 64 → k < 64 → f < 5 → g < 5 → s < 24 → t < 24 → day_words * a + block_words * j + s + 24 * f
    ≡ day_words * b + block_words * k + t + 24 * g
    → (a ≡ b) × (j ≡ k) × (f ≡ g) × (s ≡ t)
parts a j f s b k g t hj hk hf hg hs ht e = days (dec_lt a b) (dec_lt b a)
  where
    figures : a ≡ b → j ≡ k → Dec (f < g) → Dec (g < f) → (a ≡ b) × (j ≡ k) × (f ≡ g) × (s ≡ t)
    figures ea ej (yes l) d = absurd (omega arith)
    figures ea ej (no l) (yes d) = absurd (omega arith)
    figures ea ej (no l) (no d) = (ea, ej, omega arith, omega arith)

    units : a ≡ b → Dec (j < k) → Dec (k < j) → (a ≡ b) × (j ≡ k) × (f ≡ g) × (s ≡ t)
    units ea (yes l) d = absurd (omega arith)
    units ea (no l) (yes d) = absurd (omega arith)
    units ea (no l) (no d) = figures ea (omega arith) (dec_lt f g) (dec_lt g f)

    days : Dec (a < b) → Dec (b < a) → (a ≡ b) × (j ≡ k) × (f ≡ g) × (s ≡ t)
    days (yes l) d = absurd (omega arith)
    days (no l) (yes d) = absurd (omega arith)
    days (no l) (no d) = units (omega arith) (dec_lt j k) (dec_lt k j)

pub same_place : (j q f k p g : ℕ) → j < 64 → k < 64 → f < 5 → g < 5 → figure_place j q + 24 * f ≡ figure_place k p + 24 * g → SamePlace j q f k p g
same_place j q f k p g hj hk hf hg e =
    let t = parts (q / 24) j f (q % 24) (p / 24) k g (p % 24) hj hk hf hg (omega arith) (omega arith) (omega arith) in
    record { unit = t.1; period = let a = t.0 in let b = t.3 in omega arith; figure = t.2 }

-- blocks of two units have no place in common
pub block_apart : (a k d n i : ℕ) → k < 64 → n < 64 → (k ≡ n → ⊥) → day_place a k ≤ i → i < day_place a k + block_words → day_place d n ≤ i
    → i < day_place d n + block_words → ⊥
block_apart a k d n i hk hn ne l u l' u' = days (dec_lt a d) (dec_lt d a)
  where
    units : a ≡ d → Dec (k < n) → ⊥
    units e (yes h) = omega arith
    units e (no h) = omega arith

    days : Dec (a < d) → Dec (d < a) → ⊥
    days (yes h) g = omega arith
    days (no h) (yes g) = omega arith
    days (no h) (no g) = units (omega arith) (dec_lt k n)
