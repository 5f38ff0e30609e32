-- Paper 01, "Limits": the hour, term and volume limit of a unit, and the limits called directly.
use Rattle.std.specs.Prelude.{ℕ, ◌*◌, ◌/◌, ◌%◌, min, cond, ◌&&◌, List, [], ◌∷◌}
use Rattle.measures.specs.Ranges.{between}
use Rattle.limits.specs.Units.{days_in, period_in, kind_in, solar, retailer, generator, capacity_in, asset_in}

-- "its hour of day is p mod 24"
abbrev pub hour_of : ℕ → ℕ
hour_of period = period % 24

-- "Hour limit: the capacity; for kind 1 it is the capacity in hours 6 to 19 and 0 in the others."
unfoldable pub hour_limit : ℕ → ℕ → ℕ → ℕ
hour_limit kind capacity hour = cond (solar kind) (cond (between 6 19 hour) capacity 0) capacity

-- "Term limit: capacity times 24 times days. Kind 1: capacity times 10 times days. Kind 4: the smaller of that first
-- product and the asset energy."
unfoldable pub term_limit : ℕ → ℕ → ℕ → ℕ → ℕ
term_limit kind capacity asset days =
    cond (solar kind) (capacity * 10 * days)
    (cond (retailer kind) (min (capacity * 24 * days) asset) (capacity * 24 * days))

-- "Volume limit: generators 6/5 of the term limit, rounded down; loads the term limit."
unfoldable pub volume_limit : ℕ → ℕ → ℕ
volume_limit kind term = cond (generator kind) (term * 6 / 5) term

-- an answer: its number and the three limits, zeros beside a refusal
pub record Answer : Type 0 where
  pub number : ℕ
  pub values : List ℕ

abbrev pub refused : ℕ → Answer
refused n = record { number = n; values = 0 ∷ 0 ∷ 0 ∷ [] }

abbrev pub given : ℕ → ℕ → ℕ → Answer
given hour term volume = record { number = 0; values = hour ∷ term ∷ volume ∷ [] }

-- the three limits of a unit in a period
abbrev pub limits_in : ℕ → ℕ → ℕ → ℕ → ℕ → Answer
limits_in days kind capacity asset period =
    given
    (hour_limit kind capacity (hour_of period))
    (term_limit kind capacity asset days)
    (volume_limit kind (term_limit kind capacity asset days))

-- "The limits, called directly, take days, kind, capacity, asset energy and period, and give 0 with the hour, term and
-- volume limit, or 2, 3, 4 or 10 and three zeros where one is out of range."
unfoldable pub limits_at : ℕ → ℕ → ℕ → ℕ → ℕ → Answer
limits_at days kind capacity asset period =
    cond (days_in days)
    (cond (kind_in kind)
    (cond (capacity_in capacity && asset_in asset)
    (cond (period_in days period) (limits_in days kind capacity asset period) (refused 10))
    (refused 4))
    (refused 3))
    (refused 2)
