-- What the functions of an order on a book in memory promise one another.
use Rattle.std.specs.Prelude.{◌≡◌, ℕ, ◌+◌, ◌*◌, ◌<◌, ◌≤◌, cond, not, ◌&&◌, List, [], ◌∷◌, length, ◌==◌, ◌≢◌}
use Rattle.measures.specs.Ranges.{most_energy}
use Rattle.matching.specs.Orders.{Order as OpenOrder}
use Rattle.matching.specs.Memory.{orders_in, written}
use Rattle.matching.specs.Rolling.{meet}
use Rattle.book.specs.Book.{Book}
use Rattle.book.specs.Layout.{DAYS, UNITS, ORDERS, orders_start, order_place, UNIT, DIRECTION, PERIOD, amounts_start, word, orders_part, decode, Aside}
use Rattle.book.specs.Refusals.{
  Check,
  first_refusal,
  unknown_unit,
  few_rows,
  bad_price,
  bad_quantity,
  bad_period,
  bad_direction,
  other_direction,
  two_open,
  orders_full,
  numbers_used,
  hour_misfit,
  term_misfit,
  volume_misfit,
}
use Rattle.book.specs.Order.{order_declares, new_order, ordered_in_rolling}

-- the checks of an order in three parts
unfoldable pub name_checks : Book → ℕ → ℕ → ℕ → ℕ → ℕ → ℕ → List Check
name_checks b u d p price q lent =
    unknown_unit b u ∷ few_rows lent ∷ bad_price b price ∷ bad_quantity q ∷ bad_period b p ∷ bad_direction d ∷ []

unfoldable pub day_checks : Book → ℕ → ℕ → ℕ → ℕ → ℕ → List Check
day_checks b u d p price q = other_direction b u d p ∷ two_open b u p ∷ orders_full b (new_order b u d p price q) ∷ numbers_used b ∷ []

unfoldable pub order_fit_checks : Book → ℕ → ℕ → ℕ → ℕ → List Check
order_fit_checks b u d p q =
    hour_misfit b u (order_declares b u d p q) ∷ term_misfit b u (order_declares b u d p q) ∷ volume_misfit b u (order_declares b u d p q) ∷ []

-- an enrolled unit, a direction, a period of the term and a quantity in range
pub record Named (m : List ℕ) (u d p q : ℕ) : Type 0 where
  pub from : 1 ≤ u
  pub upto : u ≤ word m UNITS
  pub direction : d ≤ 1
  pub period : p < 24 * word m DAYS
  pub quantity : q ≤ most_energy

-- r is the first of the first part of the checks; 0 only if the order is named so
pub record NameChecked (m : List ℕ) (u d p price q lent r : ℕ) : Type 0 where
  pub answer : r ≡ first_refusal (name_checks (decode m) u d p price q lent)
  pub named : r ≡ 0 → Named m u d p q

-- 1 where the order at place k is the unit's and of the period, and 1 where it goes the other way too
unfoldable pub of_unit_at : List ℕ → ℕ → ℕ → ℕ → ℕ
of_unit_at m u p k = cond (word m (order_place k + UNIT) == u && word m (order_place k + PERIOD) == p) 1 0

unfoldable pub against_at : List ℕ → ℕ → ℕ → ℕ → ℕ → ℕ
against_at m u d p k =
    cond ((word m (order_place k + UNIT) == u && word m (order_place k + PERIOD) == p) && not (word m (order_place k + DIRECTION) == d)) 1 0

-- x is m with these open orders
pub record OrdersPut (m x : List ℕ) (os : List OpenOrder) : Type 0 where
  pub long : length x ≡ length m
  pub low : (i : ℕ) → i < orders_start → (i ≢ ORDERS) → word x i ≡ word m i
  pub high : (i : ℕ) → amounts_start ≤ i → word x i ≡ word m i
  pub orders : orders_in (orders_part x) (word x ORDERS) ≡ os

-- x is m after an order met those that stand open: what is left of it, the rows and their count
pub record Rolled (m x rows rows' : List ℕ) (o : OpenOrder) (q n : ℕ) : Type 0 where
  pub orders : OrdersPut m x (meet o (orders_in (orders_part m) (word m ORDERS))).orders
  pub handed : rows' ≡ written rows (meet o (orders_in (orders_part m) (word m ORDERS))).rows
  pub left : q ≡ (meet o (orders_in (orders_part m) (word m ORDERS))).left
  pub count : n ≡ length (meet o (orders_in (orders_part m) (word m ORDERS))).rows

-- m' and rows' are the memory and the lent rows after an order in the rolling phase, n its count of rows
pub record RolledOn (m rows : List ℕ) (u d p price q n : ℕ) (m' rows' : List ℕ) : Type 0 where
  pub book : decode m' ≡ (ordered_in_rolling (decode m) (new_order (decode m) u d p price q)).book
  pub handed : rows' ≡ written rows (meet (new_order (decode m) u d p price q) (decode m).orders).rows
  pub count : n ≡ length (meet (new_order (decode m) u d p price q) (decode m).orders).rows
  pub aside : Aside m m'
