-- "Market staff want this of 01's clear: every other price, with any bids at or above it and any asks at or below it
-- matched in any amounts up to their quantities, trades at most the quantity that the rows of that period sum to. After it
-- no bid and ask of a period are left over at prices that cross, and each row's price is at most the bid and at least the
-- ask that it fills." (paper 02, job 10)
use Rattle.std.specs.Prelude.{ℕ, ◌+◌, ◌<◌, ◌≤◌, ◌≡◌, List, map, eqb, ltb}
use Rattle.measures.specs.Lists.{Each, Has, Along, sum_of, keep}
use Rattle.matching.specs.Orders.{Order, Row, less}
use Rattle.matching.specs.Clearing.{clear_period}

-- a bid and an ask, matched in an amount
pub record Pair : Type 0 where
  pub bid : Order
  pub ask : Order
  pub amount : ℕ

-- what pairs trade together, and what they trade of the order of number n
abbrev pub paired : List Pair → ℕ
paired xs = sum_of (λ x. x.amount) xs

abbrev pub paired_of : ℕ → List Pair → ℕ
paired_of n xs = paired (keep (λ x. eqb x.bid.number n) xs) + paired (keep (λ x. eqb x.ask.number n) xs)

-- "any bids at or above it and any asks at or below it": an order among os, of a period, at the price p
pub record BidAt (os : List Order) (period p : ℕ) (o : Order) : Type 0 where
  pub stands : Has o os
  pub buys : o.direction ≡ 1
  pub there : o.period ≡ period
  pub above : p ≤ o.price

pub record AskAt (os : List Order) (period p : ℕ) (o : Order) : Type 0 where
  pub stands : Has o os
  pub sells : o.direction ≡ 0
  pub there : o.period ≡ period
  pub below : o.price ≤ p

-- "in any amounts up to their quantities": each order's amounts together are at most its quantity
abbrev pub WithinOrders : List Order → List Pair → Type 0
WithinOrders os xs = Each (λ o. paired_of o.number xs ≤ o.quantity) os

-- a matching at the price p: any list of such pairs
pub record Matching (os : List Order) (period p : ℕ) (xs : List Pair) : Type 0 where
  pub bids : Each (λ x. BidAt os period p x.bid) xs
  pub asks : Each (λ x. AskAt os period p x.ask) xs
  pub within : WithinOrders os xs

-- "trades at most the quantity that the rows of that period sum to": in every period, at every price, every matching
abbrev pub NothingMore : List Order → List Row → Type 0
NothingMore os rs =
    (period p : ℕ) (xs : List Pair) → Matching os period p xs → paired xs ≤ sum_of (λ r. r.quantity) (keep (λ r. eqb r.period period) rs)

-- "no bid and ask of a period are left over at prices that cross"
abbrev pub NothingCrosses : List Order → Type 0
NothingCrosses os =
    (bid ask : Order) → Has bid os → Has ask os → bid.direction ≡ 1 → ask.direction ≡ 0 → bid.period ≡ ask.period → bid.price < ask.price

-- "each row's price is at most the bid and at least the ask that it fills": the row r fills the pair x
pub record FilledBy (os : List Order) (x : Pair) (r : Row) : Type 0 where
  pub bid : BidAt os r.period r.price x.bid
  pub ask : AskAt os r.period r.price x.ask
  pub buyer : r.buyer ≡ x.bid.unit
  pub seller : r.seller ≡ x.ask.unit
  pub quantity : r.quantity ≡ x.amount

-- what pairs leave of orders: each less what they trade of it; "An emptied order is gone."
unfoldable pub left_by : List Pair → List Order → List Order
left_by xs os = keep (λ o. ltb 0 o.quantity) (map (λ o. less o (paired_of o.number xs)) os)

-- the rows rs fill pairs of the orders os, row by row, and leave os': what an order has lost tells which rows fill it
pub record Filled (os : List Order) (rs : List Row) (os' : List Order) : Type 0 where
  pub pairs : List Pair
  pub fills : Along (FilledBy os) pairs rs
  pub within : WithinOrders os pairs
  pub left : os' ≡ left_by pairs os

-- "every other price": the rows of a period have one
abbrev pub OnePrice : List Row → Type 0
OnePrice rs = Each (λ r. Each (λ t. r.period ≡ t.period → r.price ≡ t.price) rs) rs

-- what the staff want of a clear of the orders os that hands out the rows rs, of all periods, and leaves the orders os'
pub record FullyCleared (os : List Order) (rs : List Row) (os' : List Order) : Type 0 where
  pub nothing_more : NothingMore os rs
  pub nothing_crosses : NothingCrosses os'
  pub filled : Filled os rs os'
  pub one_price : OnePrice rs

-- and of any orders at all, their numbers and quantities whatever they are: no matching of a period passes its rows
abbrev pub AnyOrders : Type 0
AnyOrders =
    (os : List Order) (period p : ℕ) (xs : List Pair) → Matching os period p xs → paired xs ≤ sum_of (λ r. r.quantity) (clear_period period os).rows
