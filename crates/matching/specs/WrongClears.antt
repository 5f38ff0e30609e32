-- Wrong clears that job 10's statement tells from 01's: the rows that each hands out and the orders that it leaves. Beside
-- the part that it breaks stand those that it keeps: without that part it would pass.
use Rattle.std.specs.Prelude.{List, [], ◌∷◌}
use Rattle.matching.specs.Orders.{Order, Row}
use Rattle.matching.specs.Matchings.{NothingMore, NothingCrosses, Filled, OnePrice, FullyCleared}
use Rattle.matching.specs.Figures.{an_order, a_row, orders2}

-- figure 2 as 01 clears it: 6 of the lower bid are left
abbrev pub rows2 : List Row
rows2 = a_row 3 3 1 10 475 ∷ a_row 3 4 2 4 475 ∷ []

abbrev pub left2 : List Order
left2 = an_order 2 2 1 480 6 ∷ []

abbrev pub AsRuled : Type 0
AsRuled = FullyCleared orders2 rows2 left2

-- half the volume
abbrev pub half_rows : List Row
half_rows = a_row 3 3 1 7 475 ∷ []

abbrev pub half_left : List Order
half_left = an_order 1 1 1 500 3 ∷ an_order 2 2 1 480 10 ∷ an_order 3 3 0 450 3 ∷ an_order 4 4 0 470 4 ∷ []

abbrev pub HalfTheVolume : Type 0
HalfTheVolume = Filled orders2 half_rows half_left × OnePrice half_rows × (NothingMore orders2 half_rows → ⊥)

-- a price above a bid
abbrev pub dear_rows : List Row
dear_rows = a_row 3 3 1 10 481 ∷ a_row 3 4 2 4 481 ∷ []

abbrev pub PriceOutside : Type 0
PriceOutside = NothingMore orders2 dear_rows × NothingCrosses left2 × OnePrice dear_rows × (Filled orders2 dear_rows left2 → ⊥)

-- what is left of a bid is lost
abbrev pub RestLost : Type 0
RestLost = NothingMore orders2 rows2 × NothingCrosses [] × OnePrice rows2 × (Filled orders2 rows2 [] → ⊥)

-- bids 500 and 460, asks 450 and 490, 5 each: 5 trade at any price from 450 to 490
abbrev pub two_apart : List Order
two_apart = an_order 1 1 1 500 5 ∷ an_order 2 2 1 460 5 ∷ an_order 3 3 0 450 5 ∷ an_order 4 4 0 490 5 ∷ []

-- the lower bid is filled, and the higher one left beside an ask that it crosses
abbrev pub low_rows : List Row
low_rows = a_row 3 3 2 5 455 ∷ []

abbrev pub low_left : List Order
low_left = an_order 1 1 1 500 5 ∷ an_order 4 4 0 490 5 ∷ []

abbrev pub CrossingPairLeft : Type 0
CrossingPairLeft = NothingMore two_apart low_rows × Filled two_apart low_rows low_left × OnePrice low_rows × (NothingCrosses low_left → ⊥)

-- all of it traded, at two prices
abbrev pub two_rows : List Row
two_rows = a_row 3 3 2 5 455 ∷ a_row 3 4 1 5 495 ∷ []

abbrev pub TwoPrices : Type 0
TwoPrices = NothingMore two_apart two_rows × NothingCrosses [] × Filled two_apart two_rows [] × (OnePrice two_rows → ⊥)

-- unit 1 bids 500 and 440, and an ask of 450 is filled by the lower bid, which the price is above
abbrev pub one_unit : List Order
one_unit = an_order 1 1 1 500 10 ∷ an_order 2 1 1 440 10 ∷ an_order 3 3 0 450 10 ∷ []

abbrev pub unit_rows : List Row
unit_rows = a_row 3 3 1 10 475 ∷ []

abbrev pub unit_left : List Order
unit_left = an_order 1 1 1 500 10 ∷ []

abbrev pub OtherOrderOfTheUnit : Type 0
OtherOrderOfTheUnit = NothingMore one_unit unit_rows × NothingCrosses unit_left × OnePrice unit_rows × (Filled one_unit unit_rows unit_left → ⊥)
