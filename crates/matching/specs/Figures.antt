-- Figures 2, 3 and 4 of paper 01: orders of one period, and the rows.
use Rattle.std.specs.Prelude.{ℕ, ◌≡◌, List, [], ◌∷◌}
use Rattle.matching.specs.Orders.{Order, Row, bids, asks}
use Rattle.matching.specs.Rolling.{meet}
use Rattle.matching.specs.Clearing.{cleared_volume, clearing_price, clear_period}

-- an order of period 0: its number, unit, direction, price and quantity
abbrev pub an_order : ℕ → ℕ → ℕ → ℕ → ℕ → Order
an_order n u d p q = record { number = n; unit = u; direction = d; period = 0; price = p; quantity = q }

-- a row of period 0: its way, seller, buyer, quantity and price
abbrev pub a_row : ℕ → ℕ → ℕ → ℕ → ℕ → Row
a_row w s b q p = record { way = w; period = 0; seller = s; buyer = b; quantity = q; price = p }

-- "Bids 500 for 10 and 480 for 10; asks 450 for 10 and 470 for 4"
abbrev pub orders2 : List Order
orders2 = an_order 1 1 1 500 10 ∷ an_order 2 2 1 480 10 ∷ an_order 3 3 0 450 10 ∷ an_order 4 4 0 470 4 ∷ []

-- ": V 14, price 475; overlaps 10 and 4."
abbrev pub Figure2 : Type 0
Figure2 =
    (cleared_volume (bids 0 orders2) (asks 0 orders2) ≡ 14)
    × ((clear_period 0 orders2).rows ≡ a_row 3 3 1 10 475 ∷ a_row 3 4 2 4 475 ∷ [])

-- "Marginal bid 481, ask 470"
abbrev pub orders3 : List Order
orders3 = an_order 1 1 1 481 10 ∷ an_order 2 2 0 470 10 ∷ []

-- ": 476."
abbrev pub Figure3 : Type 0
Figure3 = (clearing_price 481 470 ≡ 476) × ((clear_period 0 orders3).rows ≡ a_row 3 2 1 10 476 ∷ [])

-- "Asks no. 1 460 for 5, no. 2 455 for 5; buy 460 for 7: 5 at 455, 2 at 460."
abbrev pub Figure4 : Type 0
Figure4 =
    meet (an_order 3 3 1 460 7) (an_order 1 1 0 460 5 ∷ an_order 2 2 0 455 5 ∷ [])
    ≡ record { rows = a_row 4 2 3 5 455 ∷ a_row 4 1 3 2 460 ∷ []; left = 0; orders = an_order 1 1 0 460 3 ∷ [] }
