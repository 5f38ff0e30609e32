-- How lent memory holds orders and rows: six words each, one behind the other.
use Rattle.std.specs.Prelude.{ℕ, ◌+◌, ◌*◌, Bool, ◌&&◌, List, [], ◌∷◌, ◌++◌, length, get_or, drop, leb, ltb}
use Rattle.measures.specs.Lists.{table}
use Rattle.measures.specs.Ranges.{most_number}
use Rattle.matching.specs.declared.orders.Direction.{Direction}
use Rattle.matching.specs.declared.orders.Direction.TheVariants.{Sell, Buy}
use Rattle.matching.specs.declared.orders.Way.{Way}
use Rattle.matching.specs.declared.orders.Way.TheVariants.{Bilateral, Listing, Clear, Rolling}
use Rattle.matching.specs.declared.orders.Order.{Order as OrderValue}
use Rattle.matching.specs.declared.orders.Row.{Row as RowValue}
use Rattle.matching.specs.Orders.{Order, Row}

-- the largest number of 64 bits
abbrev pub most_word : ℕ
most_word = most_number

-- the number of a direction: 0 sell, 1 buy
abbrev pub direction_number : Direction → ℕ
direction_number Sell = 0
direction_number Buy = 1

-- "way (1 bilateral, 2 listing, 3 clear, 4 rolling)"
abbrev pub way_number : Way → ℕ
way_number Bilateral = 1
way_number Listing = 2
way_number Clear = 3
way_number Rolling = 4

-- a value of the code's struct, as an order and as a row of these definitions
abbrev pub as_order : OrderValue → Order
as_order v =
    record { number = v.number; unit = v.unit; direction = v.direction; period = v.period; price = v.price.0; quantity = v.quantity.0 }

abbrev pub as_row : RowValue → Row
as_row v =
    record { way = v.way; period = v.period; seller = v.seller; buyer = v.buyer; quantity = v.quantity.0; price = v.price.0 }

-- how many words an order and a row have
abbrev pub order_words : ℕ
order_words = 6

abbrev pub row_words : ℕ
row_words = 6

-- where its words stand in an order, behind the number
abbrev pub unit_word : ℕ
unit_word = 1

abbrev pub direction_word : ℕ
direction_word = 2

abbrev pub period_word : ℕ
period_word = 3

abbrev pub price_word : ℕ
price_word = 4

abbrev pub quantity_word : ℕ
quantity_word = 5

-- the order at place k
abbrev pub order_at : List ℕ → ℕ → Order
order_at m k =
    record {
      number = get_or m (order_words * k) 0;
      unit = get_or m (order_words * k + unit_word) 0;
      direction = get_or m (order_words * k + direction_word) 0;
      period = get_or m (order_words * k + period_word) 0;
      price = get_or m (order_words * k + price_word) 0;
      quantity = get_or m (order_words * k + quantity_word) 0;
    }

-- the first n orders
unfoldable pub orders_in : List ℕ → ℕ → List Order
orders_in m n = table n (order_at m)

-- whether n orders, at most 256, all stand in the memory
abbrev pub all_there : List ℕ → ℕ → Bool
all_there m n = leb n 256 && leb (order_words * n) (length m)

-- whether k is a place of n orders, at most 256, that all stand in the memory
unfoldable pub place_in : List ℕ → ℕ → ℕ → Bool
place_in m n k = all_there m n && ltb k n

abbrev pub no_order : Order
no_order = record { number = 0; unit = 0; direction = 0; period = 0; price = 0; quantity = 0 }

-- where its words stand in a row, behind the way
abbrev pub row_period_word : ℕ
row_period_word = 1

abbrev pub seller_word : ℕ
seller_word = 2

abbrev pub buyer_word : ℕ
buyer_word = 3

abbrev pub row_quantity_word : ℕ
row_quantity_word = 4

abbrev pub row_price_word : ℕ
row_price_word = 5

-- the row at place k, and the first n rows
abbrev pub row_at : List ℕ → ℕ → Row
row_at m k =
    record {
      way = get_or m (row_words * k) 0;
      period = get_or m (row_words * k + row_period_word) 0;
      seller = get_or m (row_words * k + seller_word) 0;
      buyer = get_or m (row_words * k + buyer_word) 0;
      quantity = get_or m (row_words * k + row_quantity_word) 0;
      price = get_or m (row_words * k + row_price_word) 0;
    }

unfoldable pub rows_in : List ℕ → ℕ → List Row
rows_in m n = table n (row_at m)

-- whether the memory has room for the row at place k
unfoldable pub room_for : List ℕ → ℕ → Bool
room_for m k = leb (row_words * k + row_words) (length m)

-- a row as six words
abbrev pub flat_row : Row → List ℕ
flat_row r = r.way ∷ r.period ∷ r.seller ∷ r.buyer ∷ r.quantity ∷ r.price ∷ []

unfoldable pub flat : List Row → List ℕ
flat [] = []
flat (r ∷ rs) = flat_row r ++ flat rs

-- "Memory past the counted rows keeps its contents."
unfoldable pub written : List ℕ → List Row → List ℕ
written m rs = flat rs ++ drop (row_words * length rs) m
