-- Ranges of the two measures (paper 01, "Units of measure and the book").
use Rattle.std.specs.Prelude.{ℕ, Bool, ◌&&◌, leb}

-- whether x lies from a to b
abbrev pub between : ℕ → ℕ → ℕ → Bool
between a b x = leb a x && leb x b

-- "Asset energy is 0 to 4,000,000,000 kWh"; the same bound holds for a quantity and for a total
abbrev pub most_energy : ℕ
most_energy = 4_000_000_000

-- "0 ≤ floor ≤ ceiling ≤ 10,000,000", in thousandths of a yuan per MWh
abbrev pub most_price : ℕ
most_price = 10_000_000

-- the largest number of 64 bits, at which a sum stays
abbrev pub most_number : ℕ
most_number = 18_446_744_073_709_551_615
