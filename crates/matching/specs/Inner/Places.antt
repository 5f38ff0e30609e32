-- How clearing works on places: an order is named by where it stands in the memory. For the contracts of inner functions.
use Rattle.std.specs.Prelude.{ℕ, ◌+◌, ◌-◌, ◌*◌, ◌≤◌, ◌<◌, min, max, ◌≡◌, Bool, true, cond, ◌&&◌, List, [], ◌∷◌, ◌++◌, map, length, take, drop, eqb, ltb}
use Rattle.measures.specs.Lists.{every, keep}
use Rattle.measures.specs.Ranges.{most_energy}
use Rattle.measures.specs.Sharing.{total}
use Rattle.matching.specs.declared.orders.Direction.TheVariants.{Sell, Buy}
use Rattle.matching.specs.declared.fills.Which.{Which}
use Rattle.matching.specs.declared.fills.Which.TheVariants.{Better, Margin}
use Rattle.matching.specs.Orders.{Order, Row, buys, bid_ahead, ask_ahead, insert, laid, numbers, quantities}
use Rattle.matching.specs.Memory.{order_words, order_at, orders_in}
use Rattle.matching.specs.Clearing.{Fill, filled, cleared_volume, marginal}

-- the orders at places
abbrev pub orders_at : List ℕ → List ℕ → List Order
orders_at m ps = map (order_at m) ps

-- how orders of a direction stand
unfoldable pub ahead_on : ℕ → Order → Order → Bool
ahead_on direction = cond (buys direction) bid_ahead ask_ahead

-- whether an order is of a direction and a period
abbrev pub belongs : ℕ → ℕ → Order → Bool
belongs direction period o = eqb o.direction direction && eqb o.period period

-- the places ps, all below n, are those of the orders l
pub record Stand (m ps : List ℕ) (n : ℕ) (l : List Order) : Type 0 where
  pub few : length ps ≤ n
  pub below : every (λ p. ltb p n) ps ≡ true
  pub orders : orders_at m ps ≡ l

-- an order put into laid orders, where it belongs to them
abbrev pub put_in : (Order → Order → Bool) → Bool → Order → List Order → List Order
put_in ahead b o l = cond b (insert ahead o l) l

-- the places of a period's bids and of its asks, laid
pub record Sides (m bids asks : List ℕ) (n : ℕ) : Type 0 where
  pub period : ℕ
  pub bids_stand : Stand m bids n (laid (ahead_on 1) (keep (belongs 1 period) (orders_in m n)))
  pub asks_stand : Stand m asks n (laid (ahead_on 0) (keep (belongs 0 period) (orders_in m n)))
  pub small : quantities (orders_in m n) ≤ most_energy

-- the cleared volume, and the prices of the bid and the ask that hold its last kWh
pub record AreMargins (bl al : List Order) (volume bid ask : ℕ) : Type 0 where
  pub cleared : volume ≡ cleared_volume bl al
  pub of_bids : 0 < volume → bid ≡ marginal volume bl
  pub of_asks : 0 < volume → ask ≡ marginal volume al

-- a list with k put in at j
abbrev pub put_at : ℕ → ℕ → List ℕ → List ℕ
put_at j k l = take j l ++ (k ∷ drop j l)

-- an order's price against the margin: better for purchases, better for sales, or at it
abbrev pub chosen : Which → ℕ → Order → Bool
chosen (Better Buy) margin o = ltb margin o.price
chosen (Better Sell) margin o = ltb o.price margin
chosen Margin margin o = eqb o.price margin

-- those of the places that are chosen, and what the orders at places have open
unfoldable pub picked : List ℕ → Which → ℕ → List ℕ → List ℕ
picked m which margin ps = keep (λ p. chosen which margin (order_at m p)) ps

abbrev pub open_at : List ℕ → List ℕ → List ℕ
open_at m ps = map (λ p. (order_at m p).quantity) ps

-- the places ks stand behind the first `from` of to, and what is open at them behind the first of am
pub record Picked (m ks to am : List ℕ) (first r : ℕ) (to' am' : List ℕ) : Type 0 where
  pub count : r ≡ first + length ks
  pub places : take r to' ≡ take first to ++ ks
  pub amounts : take r am' ≡ take first am ++ open_at m ks

-- a volume between what is better than the margin and what is better or at it
pub record AtMargin (volume : ℕ) (better margin : List Order) : Type 0 where
  pub over : quantities better < volume
  pub within : volume ≤ quantities better + quantities margin
  pub small : quantities better + quantities margin ≤ most_energy

-- the row of a bid's fill, from a up to x, and an ask's, from e up to y: none where they share nothing
unfoldable pub overlap_row : ℕ → ℕ → ℕ → ℕ → ℕ → ℕ → ℕ → ℕ → List Row
overlap_row period price seller buyer a x e y =
    cond (eqb (min x y - max a e) 0) []
    (record { way = 3; period = period; seller = seller; buyer = buyer; quantity = min x y - max a e; price = price } ∷ [])

-- the orders that are marked
unfoldable pub standing : List Bool → List Order → List Order
standing [] os = []
standing (s ∷ ss) [] = []
standing (s ∷ ss) (o ∷ os) =
    let rest = standing ss os in
    cond s (o ∷ rest) rest

-- the fills of the orders at the places ps, of the amounts xs
unfoldable pub fills_at : List ℕ → List ℕ → List ℕ → List Fill
fills_at m ps xs = filled (orders_at m ps) xs

-- fills by place, at places below n
pub record Filling (ps xs : List ℕ) (n : ℕ) : Type 0 where
  pub few : length ps ≤ n
  pub along : length xs ≡ length ps
  pub below : every (λ p. ltb p n) ps ≡ true
  pub small : total xs ≤ most_energy

-- fills taken off orders in memory, whose marks ss are then ss'
pub record Taken (m : List ℕ) (ss : List Bool) (n : ℕ) (os : List Order) (m' : List ℕ) (ss' : List Bool) : Type 0 where
  pub orders : standing (take n ss') (orders_in m' n) ≡ os
  pub numbers : numbers (orders_in m' n) ≡ numbers (orders_in m n)
  pub past : drop (order_words * n) m' ≡ drop (order_words * n) m
