-- What the functions on lent orders and rows answer, and what they leave.
use Rattle.std.specs.Prelude.{Option, Some, None, ℕ, ◌+◌, ◌-◌, ◌*◌, ◌≡◌, Bool, true, false, cond, ◌&&◌, List, [], ◌∷◌, ◌++◌, length, drop, set, take, leb}
use Rattle.measures.specs.Ranges.{most_energy}
use Rattle.matching.specs.declared.orders.Matched.{Matched}
use Rattle.matching.specs.declared.orders.Cleared.{Cleared}
use Rattle.matching.specs.Orders.{Order, Row, rising, numbers, quantities}
use Rattle.matching.specs.Memory.{order_words, row_words, orders_in, all_there, place_in, room_for, written}
use Rattle.matching.specs.Rolling.{meet}
use Rattle.matching.specs.Clearing.{clear_period, clear_from}

-- n orders, at most 256, all in the memory, whose numbers rise
unfoldable pub numbers_rise : List ℕ → ℕ → Bool
numbers_rise m n = all_there m n && rising (numbers (orders_in m n))

-- at place k of n orders something was done, b says whether it is a place of theirs, and n' orders os are left; m is the
-- memory at entry, m' at exit
pub record Placed (m : List ℕ) (n k n' : ℕ) (os : List Order) (b : Bool) (m' : List ℕ) : Type 0 where
  pub there : b ≡ place_in m n k
  pub orders : place_in m n k ≡ true → orders_in m' n' ≡ os
  pub stay : place_in m n k ≡ false → m' ≡ m
  pub past : drop (order_words * n) m' ≡ drop (order_words * n) m

-- an order takes place k
abbrev pub Written : List ℕ → ℕ → ℕ → Order → Bool → List ℕ → Type 0
Written m n k o b m' = Placed m n k n (set (orders_in m n) k o) b m'

-- the order at place k goes
abbrev pub Removed : List ℕ → ℕ → ℕ → Bool → List ℕ → Type 0
Removed m n k b m' = Placed m n k (n - 1) (take k (orders_in m n) ++ drop (k + 1) (orders_in m n)) b m'

-- row k was written behind the k rows that stand there, and b says whether there was room
pub record RowPut (m : List ℕ) (k : ℕ) (r : Row) (b : Bool) (m' : List ℕ) : Type 0 where
  pub there : b ≡ room_for m k
  pub row : room_for m k ≡ true → (d : List ℕ) (rs : List Row) → length rs ≡ k → m ≡ written d rs → m' ≡ written d (rs ++ (r ∷ []))
  pub stay : room_for m k ≡ false → m' ≡ m

-- orders that can be matched and cleared: at most 256, all in the memory, with rising numbers, and with no more open
-- together than the largest energy; and a row lent for each
unfoldable pub fit : List ℕ → ℕ → List ℕ → Bool
fit m n rows =
    all_there m n && leb (row_words * n) (length rows)
    && rising (numbers (orders_in m n)) && leb (quantities (orders_in m n)) most_energy

-- an answer: whether the orders fit, what is left of the incoming order, the count of rows, and how many orders stand
pub record Answer : Type 0 where
  pub fits : Bool
  pub left : ℕ
  pub count : ℕ
  pub standing : ℕ

abbrev pub answer_of : Option Matched → Answer
answer_of None = record { fits = false; left = 0; count = 0; standing = 0 }
answer_of (Some a) = record { fits = true; left = a.left.0; count = a.count; standing = a.standing }

-- the same of a clear, into which no order comes, so nothing is left of one
abbrev pub clear_answer : Option Cleared → Answer
clear_answer None = record { fits = false; left = 0; count = 0; standing = 0 }
clear_answer (Some a) = record { fits = true; left = 0; count = a.count; standing = a.standing }

-- m and rows are the memory at entry, m' and rows' at exit, n the orders that stood, b whether they are fit for it, a the
-- answer, and rs, os and q the rows, the orders and what is left by the rule
pub record Matches (m rows : List ℕ) (n : ℕ) (b : Bool) (rs : List Row) (os : List Order) (q : ℕ) (a : Answer) (m' rows' : List ℕ) : Type 0 where
  pub fits : a.fits ≡ b
  -- orders that do not fit stay, and so do the rows
  pub stay : b ≡ false → (m' ≡ m) × (rows' ≡ rows)
  pub left : b ≡ true → a.left ≡ q
  pub count : b ≡ true → a.count ≡ length rs
  pub orders : b ≡ true → orders_in m' a.standing ≡ os
  pub handed : b ≡ true → rows' ≡ written rows rs
  pub past : drop (order_words * n) m' ≡ drop (order_words * n) m

-- an incoming order met the n orders
abbrev pub Meets : List ℕ → List ℕ → ℕ → Order → Option Matched → List ℕ → List ℕ → Type 0
Meets m rows n i a m' rows' =
    Matches m rows n (fit m n rows) (meet i (orders_in m n)).rows (meet i (orders_in m n)).orders (meet i (orders_in m n)).left (answer_of a) m' rows'

-- what would be left of an incoming order if it met the n orders; all of it where none stands there
unfoldable pub left_over : List ℕ → ℕ → Order → ℕ
left_over m n i = cond (place_in m n 0) (meet i (orders_in m n)).left i.quantity

-- a period of the n orders was cleared
abbrev pub Clears : List ℕ → List ℕ → ℕ → ℕ → Option Cleared → List ℕ → List ℕ → Type 0
Clears m rows n period a m' rows' =
    Matches m rows n (fit m n rows) (clear_period period (orders_in m n)).rows (clear_period period (orders_in m n)).orders 0 (clear_answer a) m' rows'

-- orders whose periods below `end` can be cleared one after the other: fit, with two rows lent for each, and at most 744
-- periods
unfoldable pub fit_below : List ℕ → ℕ → ℕ → List ℕ → Bool
fit_below m n end rows = fit m n rows && leb (2 * row_words * n) (length rows) && leb end 744

-- the periods below `end` of the n orders were cleared
abbrev pub ClearsAll : List ℕ → List ℕ → ℕ → ℕ → Option Cleared → List ℕ → List ℕ → Type 0
ClearsAll m rows n end a m' rows' =
    Matches m rows n (fit_below m n end rows) (clear_from 0 end (orders_in m n)).rows (clear_from 0 end (orders_in m n)).orders 0 (clear_answer a) m' rows'
