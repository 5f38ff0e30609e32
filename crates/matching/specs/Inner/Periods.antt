-- Clearing period by period: what it asks, and what one period and all periods leave. For the contracts of inner functions.
use Rattle.std.specs.Prelude.{ℕ, ◌+◌, ◌*◌, ◌≤◌, ◌<◌, ◌≡◌, Bool, true, ◌||◌, List, ◌++◌, length, get_or, drop, leb, ltb}
use Rattle.measures.specs.Ranges.{most_energy}
use Rattle.matching.specs.Orders.{Order, Row, rising, numbers, quantities}
use Rattle.matching.specs.Memory.{order_words, row_words, most_word, orders_in, written}
use Rattle.matching.specs.Clearing.{clear_period, clear_from}

-- n orders that can be cleared, with room behind `count` rows for as many rows as orders
pub record Clearable (m rows : List ℕ) (n count : ℕ) : Type 0 where
  pub few : n ≤ 256
  pub inside : order_words * n ≤ length m
  pub lent : row_words * count + row_words * n ≤ length rows
  pub rises : rising (numbers (orders_in m n)) ≡ true
  pub small : quantities (orders_in m n) ≤ most_energy

-- by period, `high` is above an order that buys, unless it is the largest number, and `low` not above one that sells
pub record PricedBy (high low : List ℕ) (o : Order) : Type 0 where
  pub bid : o.period < 744 → o.direction ≡ 1 → get_or high o.period 0 < most_word → o.price < get_or high o.period 0
  pub ask : o.period < 744 → o.direction ≡ 0 → get_or low o.period 0 ≤ o.price

-- whether prices of a period may meet
unfoldable pub prices_meet : List ℕ → List ℕ → ℕ → Bool
prices_meet high low p = leb most_word (get_or high p 0) || ltb (get_or low p 0) (get_or high p 0)

-- a period of the n orders was cleared, and its rows stand behind the `count` rows; n' orders are left
pub record Stepped (m rows : List ℕ) (n period count count' n' : ℕ) (m' rows' : List ℕ) : Type 0 where
  pub orders : orders_in m' n' ≡ (clear_period period (orders_in m n)).orders
  pub counted : count' ≡ count + length (clear_period period (orders_in m n)).rows
  pub handed : (d : List ℕ) (rs : List Row) → length rs ≡ count → rows ≡ written d rs → rows' ≡ written d (rs ++ (clear_period period (orders_in m n)).rows)
  pub past : drop (order_words * n) m' ≡ drop (order_words * n) m

-- all periods below `end` were cleared
pub record PassedAll (m rows : List ℕ) (n end count n' : ℕ) (m' rows' : List ℕ) : Type 0 where
  pub orders : orders_in m' n' ≡ (clear_from 0 end (orders_in m n)).orders
  pub counted : count ≡ length (clear_from 0 end (orders_in m n)).rows
  pub handed : rows' ≡ written rows (clear_from 0 end (orders_in m n)).rows
  pub past : drop (order_words * n) m' ≡ drop (order_words * n) m
