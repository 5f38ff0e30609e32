-- Rolling matching (paper 01, "The eight calls", Order).
use Rattle.std.specs.Prelude.{ℕ, ◌-◌, min, Bool, cond, ◌&&◌, List, [], ◌∷◌, map, eqb, leb}
use Rattle.measures.specs.Lists.{keep, sum_of}
use Rattle.matching.specs.Orders.{Order, Row, buys, sells, lessen, bid_ahead, ask_ahead, laid}

-- "it meets opposite orders of its period", "as long as buy price ≥ sell price"
unfoldable pub candidate : Order → Order → Bool
candidate i o =
    eqb o.period i.period
    && cond (buys i.direction)
    (sells o.direction && leb o.price i.price)
    (sells i.direction && (buys o.direction && leb i.price o.price))

-- "best price first, then lowest number"
abbrev pub ahead_for : Order → Order → Order → Bool
ahead_for i = cond (buys i.direction) ask_ahead bid_ahead

unfoldable pub counterparts : Order → List Order → List Order
counterparts i os = laid (ahead_for i) (keep (candidate i) os)

-- a waiting order, and what of it an incoming order takes
pub record Match : Type 0 where
  pub order : Order
  pub quantity : ℕ

-- "and some of it is left; each match is the smaller quantity". "Matching ends the moment the incoming amount is spent."
unfoldable pub matches : ℕ → List Order → List Match
matches q [] = []
matches q (o ∷ os) =
    let x = min q o.quantity in
    let more = matches (q - x) os in
    cond (eqb q 0) [] (record { order = o; quantity = x } ∷ more)

-- "at the waiting order's price"
unfoldable pub match_row : Order → Match → Row
match_row i m =
    cond (buys i.direction)
    (record { way = 4; period = i.period; seller = m.order.unit; buyer = i.unit; quantity = m.quantity; price = m.order.price })
    (record { way = 4; period = i.period; seller = i.unit; buyer = m.order.unit; quantity = m.quantity; price = m.order.price })

-- the waiting orders with what was taken off each
unfoldable pub after_matches : List Match → List Order → List Order
after_matches [] os = os
after_matches (m ∷ ms) os = after_matches ms (lessen m.order.number m.quantity os)

-- what matching an incoming order gives: the rows, what is left of it, and the waiting orders
pub record Met : Type 0 where
  pub rows : List Row
  pub left : ℕ
  pub orders : List Order

unfoldable pub meet : Order → List Order → Met
meet i os =
    let ms = matches i.quantity (counterparts i os) in
    record {
      rows = map (match_row i) ms;
      left = i.quantity - sum_of (λ m. m.quantity) ms;
      orders = after_matches ms os;
    }
