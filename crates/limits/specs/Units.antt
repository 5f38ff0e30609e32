-- Units, their kinds and ranges (paper 01, "Units of measure and the book").
use Rattle.std.specs.Prelude.{ℕ, ◌*◌, Bool, eqb, leb, ltb}
use Rattle.measures.specs.Ranges.{between, most_energy}

-- "A book covers a term of 1 to 31 days."
abbrev pub most_days : ℕ
most_days = 31

abbrev pub days_in : ℕ → Bool
days_in days = between 1 most_days days

-- "Period p runs from 0 to 24 times days, less 1"
abbrev pub periods : ℕ → ℕ
periods days = 24 * days

abbrev pub period_in : ℕ → ℕ → Bool
period_in days period = ltb period (periods days)

-- "Kinds: 1 solar generator, 2 other generator, 3 wholesale user, 4 retailer."
abbrev pub kind_in : ℕ → Bool
kind_in kind = between 1 4 kind

abbrev pub solar : ℕ → Bool
solar kind = eqb kind 1

abbrev pub retailer : ℕ → Bool
retailer kind = eqb kind 4

-- "Kinds 1 and 2 are generators, 3 and 4 loads."
abbrev pub generator : ℕ → Bool
generator kind = between 1 2 kind

-- "Capacity is 1 to 5,000,000 kW."
abbrev pub most_capacity : ℕ
most_capacity = 5_000_000

abbrev pub capacity_in : ℕ → Bool
capacity_in capacity = between 1 most_capacity capacity

-- "Asset energy is 0 to 4,000,000,000 kWh; kinds 1 to 3 carry it unused."
abbrev pub asset_in : ℕ → Bool
asset_in asset = leb asset most_energy
