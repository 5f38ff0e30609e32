-- What the functions that work out the fit of a unit in memory promise one another: amounts added by period, and the
-- tests of a period.
use Rattle.std.specs.Prelude.{◌≡◌, ℕ, ◌+◌, ◌<◌, ◌≤◌, Bool, true, false, cond, not, ◌&&◌, leb, List, [], ◌∷◌, length, ◌==◌, ◌≢◌, nat_le, nat_lt, slice_index}
use Rattle.measures.specs.Lists.{holds, sum, all}
use Rattle.limits.specs.Units.{periods}
use Rattle.limits.specs.Limits.{hour_of, hour_limit, term_limit, volume_limit}
use Rattle.book.specs.declared.pass.Sums.{Sums}
use Rattle.book.specs.Refusals.{check, first_refusal}
use Rattle.book.specs.Layout.{
  DAYS,
  unit_place,
  CAPACITY,
  ASSET,
  offer_place,
  order_place,
  UNIT,
  DIRECTION,
  PERIOD,
  QUANTITY,
  figure_place,
  RAISED,
  LOWERED,
  MARK,
  VOLUME,
  word,
  amount_at,
}

-- that each amount is at most a bound
abbrev pub Below : ℕ → List ℕ → Type 0
Below n l = (i : ℕ) → slice_index l i ≤ n

-- x is l with f of each of the first n periods added, and no amount grew by more than g
pub record Added (n : ℕ) (l x : List ℕ) (f : ℕ → ℕ) (g : ℕ) : Type 0 where
  pub long : length x ≡ length l
  pub each : (p : ℕ) → p < n → slice_index x p ≡ slice_index l p + f p
  pub grown : (p : ℕ) → slice_index x p ≤ slice_index l p + g

-- what the order at place k has open of unit u in a direction and a period
unfoldable pub order_share : List ℕ → ℕ → ℕ → ℕ → ℕ → ℕ
order_share m u direction k p =
    cond
    (word m (order_place k + UNIT) == u && word m (order_place k + PERIOD) == p && word m (order_place k + DIRECTION) == direction)
    (word m (order_place k + QUANTITY))
    0

-- what the offer at place j has open of unit u in a period
unfoldable pub offer_share : List ℕ → ℕ → ℕ → ℕ → ℕ
offer_share m u j p = cond (word m (offer_place j + UNIT) == u) (amount_at m j p) 0

-- the tests and sums of the unit at place k in period p, where x raises and y lowers, open and new together
unfoldable pub mark_holds : List ℕ → ℕ → ℕ → Bool
mark_holds m k p = nat_le (word m (figure_place k p + MARK)) 3

unfoldable pub hour_holds : List ℕ → ℕ → ℕ → ℕ → ℕ → Bool
hour_holds m k p x y =
    leb
    (word m (figure_place k p) + (word m (figure_place k p + RAISED) + x))
    (hour_limit (word m (unit_place k)) (word m (unit_place k + CAPACITY)) (hour_of p))
    && nat_le (word m (figure_place k p + LOWERED) + y) (word m (figure_place k p))

unfoldable pub term_part : List ℕ → ℕ → ℕ → ℕ → ℕ
term_part m k p x = word m (figure_place k p) + (word m (figure_place k p + RAISED) + x)

unfoldable pub volume_part : List ℕ → ℕ → ℕ → ℕ → ℕ → ℕ
volume_part m k p x y = word m (figure_place k p + VOLUME) + (x + y)

unfoldable pub term_at : List ℕ → ℕ → ℕ
term_at m k = term_limit (word m (unit_place k)) (word m (unit_place k + CAPACITY)) (word m (unit_place k + ASSET)) (word m DAYS)

unfoldable pub volume_at : List ℕ → ℕ → ℕ
volume_at m k = volume_limit (word m (unit_place k)) (term_at m k)

-- whether the unit at place k fits over all periods, where x raises and y lowers by period
unfoldable pub unit_holds : List ℕ → ℕ → (ℕ → ℕ) → (ℕ → ℕ) → Bool
unit_holds m k x y =
    holds
    (all (periods (word m DAYS)) (mark_holds m k)
    ∷ all (periods (word m DAYS)) (λ p. hour_holds m k p (x p) (y p))
    ∷ nat_le (sum (periods (word m DAYS)) (λ p. term_part m k p (x p))) (term_at m k)
    ∷ nat_le (sum (periods (word m DAYS)) (λ p. volume_part m k p (x p) (y p))) (volume_at m k)
    ∷ [])

-- the largest word that is no fault: 2^40 - 1
abbrev pub most_low : ℕ
most_low = 1_099_511_627_775

-- r is what a pass comes to beside the limits of the unit at place k: by its word of faults, and by its sums
abbrev pub SumsCame : List ℕ → ℕ → Sums → ℕ → Type 0
SumsCame m k s r =
    r ≡ first_refusal (check 19 (nat_lt most_low s.bad) ∷ check 20 (nat_lt (term_at m k) s.whole) ∷ check 21 (nat_lt (volume_at m k) s.volume) ∷ [])

-- r is what n periods with these tests, sums and limits come to
pub record Came (n : ℕ) (marks hours : ℕ → Bool) (term volume : ℕ → ℕ) (term_most volume_most r : ℕ) : Type 0 where
  pub clean : all n marks ≡ true
      → r
      ≡ first_refusal
      (check 19 (not (all n hours))
      ∷ check 20 (not (nat_le (sum n term) term_most))
      ∷ check 21 (not (nat_le (sum n volume) volume_most))
      ∷ [])
  pub dirty : all n marks ≡ false → r ≢ 0

-- the same of the unit at place k, where x raises and y lowers by period
abbrev pub UnitCame : List ℕ → ℕ → (ℕ → ℕ) → (ℕ → ℕ) → ℕ → Type 0
UnitCame m k x y r =
    Came (periods (word m DAYS))
    (mark_holds m k)
    (λ p. hour_holds m k p (x p) (y p))
    (λ p. term_part m k p (x p))
    (λ p. volume_part m k p (x p) (y p))
    (term_at m k)
    (volume_at m k)
    r
