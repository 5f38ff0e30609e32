-- Sharing an amount d over amounts r1..rn with total R: paper 01, "Sharing an amount", with the parts of paper 02, job 14. Callers cite
-- the laws of `parts` (proofs/SharingLaws.antt) and not its text.
use Rattle.std.specs.Prelude.{ℕ, ◌+◌, ◌-◌, ◌*◌, ◌/◌, ◌%◌, ◌≤◌, ◌<◌, ◌≡◌, Bool, cond, ◌&&◌, ◌||◌, List, [], ◌∷◌, ◌++◌, length, get_or, drop, eqb, ltb}
use Rattle.measures.specs.Ranges.{most_energy}
use Rattle.measures.specs.Lists.{sum, one, count, table}

-- "total R": the sum of the amounts
abbrev pub total : List ℕ → ℕ
total [] = 0
total (r ∷ rs) = r + total rs

-- "each part is d times rj over R, rounded down"
abbrev pub rounded : ℕ → List ℕ → ℕ → ℕ
rounded d rs j = d * get_or rs j 0 / total rs

-- the fraction that rounding takes off place j, in R-ths of a kWh
abbrev pub fraction : ℕ → List ℕ → ℕ → ℕ
fraction d rs j = d * get_or rs j 0 % total rs

-- "the kWh left over"
abbrev pub left_over : ℕ → List ℕ → ℕ
left_over d rs = d - sum (length rs) (rounded d rs)

-- "the largest fractions, equal fractions by lowest place": whether place i comes before place j
abbrev pub before : (ℕ → ℕ) → ℕ → ℕ → Bool
before f i j = ltb (f j) (f i) || (eqb (f i) (f j) && ltb i j)

-- how many places come before place j
unfoldable pub ahead : ℕ → List ℕ → ℕ → ℕ
ahead d rs j = count (length rs) (λ i. before (fraction d rs) i j)

-- "the kWh left over go one each to" the first places in that order
unfoldable pub part : ℕ → List ℕ → ℕ → ℕ
part d rs j = rounded d rs j + one (ltb (ahead d rs j) (left_over d rs))

-- the part of each place, places rising
unfoldable pub parts : ℕ → List ℕ → List ℕ
parts d rs = table (length rs) (part d rs)

-- "parts still sum to d, none exceeds its rj where d ≤ R, and each lies within 1 kWh of the exact share", d times rj over R: R times the
-- part is less than R from d times rj
pub record Fair (d : ℕ) (rs : List ℕ) : Type 0 where
  pub sum : total (parts d rs) ≡ d
  pub within : (j : ℕ) → j < length rs → d ≤ total rs → get_or (parts d rs) j 0 ≤ get_or rs j 0
  pub not_below : (j : ℕ) → j < length rs → d * get_or rs j 0 < total rs * get_or (parts d rs) j 0 + total rs
  pub not_above : (j : ℕ) → j < length rs → total rs * get_or (parts d rs) j 0 < d * get_or rs j 0 + total rs

-- "each is left less its part" (paper 02, job 2)
unfoldable pub less_each : List ℕ → List ℕ → List ℕ
less_each [] ps = []
less_each (r ∷ rs) [] = r ∷ rs
less_each (r ∷ rs) (p ∷ ps) = (r - p) ∷ less_each rs ps

-- an answer, and what the lent memory then holds
pub record Outcome : Type 0 where
  pub answer : ℕ
  pub memory : List ℕ

-- a refusal changes nothing
abbrev pub refused : ℕ → List ℕ → Outcome
refused n m = record { answer = n; memory = m }

-- "Called directly, sharing gives 7 if fewer parts than amounts are lent, then 9 if d is 0 or over R, or R over
-- 4,000,000,000; memory past the n parts is kept"
unfoldable pub sharing : ℕ → List ℕ → List ℕ → Outcome
sharing d rs m =
    cond (ltb (length m) (length rs)) (refused 7 m)
    (cond (eqb d 0) (refused 9 m)
    (cond (ltb most_energy (total rs)) (refused 9 m)
    (cond (ltb (total rs) d) (refused 9 m)
    (record { answer = 0; memory = parts d rs ++ drop (length rs) m }))))

-- r is the answer and m the memory of an outcome
pub record Is (o : Outcome) (r : ℕ) (m : List ℕ) : Type 0 where
  pub answer : r ≡ o.answer
  pub memory : m ≡ o.memory
