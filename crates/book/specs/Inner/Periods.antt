-- What clearing all periods leaves of a book's memory.
use Rattle.std.specs.Prelude.{◌≡◌, ℕ, ◌<◌, ◌≤◌, List, length, ◌≢◌}
use Rattle.matching.specs.Memory.{written}
use Rattle.matching.specs.Clearing.{Cleared, clear_from}
use Rattle.limits.specs.Units.{periods}
use Rattle.book.specs.Book.{Book, rolling_phase, with_orders, in_phase}
use Rattle.book.specs.Trades.{rows_booked}
use Rattle.book.specs.Layout.{ORDERS, orders_start, amounts_start, word, decode, Aside}

-- what clearing all periods of a book gives
abbrev pub cleared_all : Book → Cleared
cleared_all b = clear_from 0 (periods b.rules.days) b.orders

-- the orders of the book in m were cleared
pub record Swept (m rows : List ℕ) (count : ℕ) (m' rows' : List ℕ) : Type 0 where
  pub book : decode m' ≡ with_orders (decode m) (cleared_all (decode m)).orders
  pub counted : count ≡ length (cleared_all (decode m)).rows
  pub handed : rows' ≡ written rows (cleared_all (decode m)).rows
  pub low : (i : ℕ) → i < orders_start → (i ≢ ORDERS) → word m' i ≡ word m i
  pub high : (i : ℕ) → amounts_start ≤ i → word m' i ≡ word m i
  pub orders : word m' ORDERS ≤ 256
  pub few : count ≤ 256
  pub aside : Aside m m'
  pub long : length m' ≡ length m

-- and their rows booked: "the rolling phase begins"
pub record AllCleared (m rows : List ℕ) (count : ℕ) (m' rows' : List ℕ) : Type 0 where
  pub book : decode m' ≡ in_phase (rows_booked (cleared_all (decode m)).rows (with_orders (decode m) (cleared_all (decode m)).orders)) rolling_phase
  pub counted : count ≡ length (cleared_all (decode m)).rows
  pub handed : rows' ≡ written rows (cleared_all (decode m)).rows
  pub aside : Aside m m'
