-- Clearing one period, and all (paper 01, "The eight calls", Clear).
use Rattle.std.specs.Prelude.{ℕ, zero, suc, ◌+◌, ◌-◌, ◌/◌, min, max, cond, List, [], ◌∷◌, ◌++◌, map, eqb, leb, ltb}
use Rattle.measures.specs.Lists.{keep}
use Rattle.measures.specs.Sharing.{parts}
use Rattle.matching.specs.Orders.{Order, Row, quantities, lessen, bids, asks}

-- "the smaller of bids at p or above and asks at p or below"
unfoldable pub traded_at : List Order → List Order → ℕ → ℕ
traded_at bl al p =
    min
    (quantities (keep (λ o. leb p o.price) bl))
    (quantities (keep (λ o. leb o.price p) al))

-- the largest of f over a list
unfoldable pub largest : (Order → ℕ) → List Order → ℕ
largest f [] = 0
largest f (o ∷ os) = max (f o) (largest f os)

-- "Volume V is the largest, over all prices p": over the orders' own prices; that no other price gives more is the law
-- `no-price_trades_more`
unfoldable pub cleared_volume : List Order → List Order → ℕ
cleared_volume bl al = largest (λ o. traded_at bl al o.price) (bl ++ al)

-- "The marginal bid b and ask s are those that hold the V-th kWh": the price of that order in a laid list
unfoldable pub marginal : ℕ → List Order → ℕ
marginal v [] = 0
marginal v (o ∷ os) =
    let behind = marginal (v - o.quantity) os in
    cond (leb v o.quantity) o.price behind

-- "Price is floor((b + s + 1) / 2)."
abbrev pub clearing_price : ℕ → ℕ → ℕ
clearing_price b s = (b + s + 1) / 2

-- an order, and what of it is filled
pub record Fill : Type 0 where
  pub order : Order
  pub amount : ℕ

-- each order with its part
unfoldable pub filled : List Order → List ℕ → List Fill
filled [] ps = []
filled (o ∷ os) [] = []
filled (o ∷ os) (p ∷ ps) = record { order = o; amount = p } ∷ filled os ps

-- "Better orders fill; those at the margin share what is left to their side." `better` are the laid orders of prices
-- better than the margin's, `margin` those at it
unfoldable pub fills_of : ℕ → List Order → List Order → List Fill
fills_of v better margin =
    filled better (map (λ o. o.quantity) better)
    ++ filled margin (parts (v - quantities better) (map (λ o. o.quantity) margin))

abbrev pub bid_fills : ℕ → ℕ → List Order → List Fill
bid_fills v b bl = fills_of v (keep (λ o. ltb b o.price) bl) (keep (λ o. eqb o.price b) bl)

abbrev pub ask_fills : ℕ → ℕ → List Order → List Fill
ask_fills v s al = fills_of v (keep (λ o. ltb o.price s) al) (keep (λ o. eqb o.price s) al)

-- a fill laid end to end with those before it: from kWh `from` up to `upto`
pub record Span : Type 0 where
  pub unit : ℕ
  pub from : ℕ
  pub upto : ℕ

-- "Lay both sides' fills end to end in that order"
unfoldable pub end_to_end : ℕ → List Fill → List Span
end_to_end at [] = []
end_to_end at (f ∷ fs) = record { unit = f.order.unit; from = at; upto = at + f.amount } ∷ end_to_end (at + f.amount) fs

-- the kWh that two spans share
abbrev pub overlap : Span → Span → ℕ
overlap x y = min x.upto y.upto - max x.from y.from

-- "each overlap is a row": of one bid's span with the asks' spans
unfoldable pub rows_of_bid : ℕ → ℕ → Span → List Span → List Row
rows_of_bid period price x [] = []
rows_of_bid period price x (y ∷ ys) =
    let rest = rows_of_bid period price x ys in
    cond (eqb (overlap x y) 0) rest
    (record { way = 3; period = period; seller = y.unit; buyer = x.unit; quantity = overlap x y; price = price } ∷ rest)

unfoldable pub overlap_rows : ℕ → ℕ → List Span → List Span → List Row
overlap_rows period price [] ys = []
overlap_rows period price (x ∷ xs) ys = rows_of_bid period price x ys ++ overlap_rows period price xs ys

-- the orders with each fill taken off; "Rests keep their numbers"
unfoldable pub after_fills : List Fill → List Order → List Order
after_fills [] os = os
after_fills (f ∷ fs) os = after_fills fs (lessen f.order.number f.amount os)

-- what clearing a period gives: the rows, and the orders
pub record Cleared : Type 0 where
  pub rows : List Row
  pub orders : List Order

-- "V = 0 gives none."
unfoldable pub clear_period : ℕ → List Order → Cleared
clear_period period os =
    let bl = bids period os in
    let al = asks period os in
    let v = cleared_volume bl al in
    let b = marginal v bl in
    let s = marginal v al in
    let fb = bid_fills v b bl in
    let fa = ask_fills v s al in
    cond (eqb v 0) (record { rows = []; orders = os })
    (record {
      rows = overlap_rows period (clearing_price b s) (end_to_end 0 fb) (end_to_end 0 fa);
      orders = after_fills fa (after_fills fb os);
    })

-- "each period, rising": the periods from p on, n of them: their rows one after the other, and the orders left
unfoldable pub clear_from : ℕ → ℕ → List Order → Cleared
clear_from p zero os = record { rows = []; orders = os }
clear_from p (suc n) os =
    let c = clear_period p os in
    let rest = clear_from (suc p) n c.orders in
    record { rows = c.rows ++ rest.rows; orders = rest.orders }
