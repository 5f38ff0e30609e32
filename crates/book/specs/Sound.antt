-- When a book is sound (paper 01, "Limits", last paragraph).
use Rattle.std.specs.Prelude.{ℕ, ◌+◌, Bool, not, ◌&&◌, ◌||◌, leb, List, [], ◌∷◌, map, length, ◌==◌, nat_le, nat_lt}
use Rattle.measures.specs.Ranges.{between, most_energy, most_price}
use Rattle.measures.specs.Lists.{holds, every, all}
use Rattle.measures.specs.Sharing.{total}
use Rattle.limits.specs.Units.{days_in, periods, period_in, kind_in, generator, capacity_in, asset_in}
use Rattle.matching.specs.Orders.{Order as OpenOrder, buys, sells, rising, numbers}
use Rattle.book.specs.Book.{Figures, EnrolledUnit, OpenOffer, Book, rolling_phase, most_units, most_offers, most_orders, most_numbers, known, unit_of}
use Rattle.book.specs.Fit.{unit_fits}

-- "0 ≤ floor ≤ ceiling ≤ 10,000,000"
abbrev pub prices_in : ℕ → ℕ → Bool
prices_in floor ceiling = nat_le floor ceiling && nat_le ceiling most_price

-- a quantity or a total: neither 0 nor over 4,000,000,000
abbrev pub energy_in : ℕ → Bool
energy_in q = between 1 most_energy q

-- "every figure lies in its range": the book's own, a unit's, an offer's, an order's
unfoldable pub head_in : Book → Bool
head_in b =
    holds
    (days_in b.rules.days
    ∷ prices_in b.rules.floor b.rules.ceiling
    ∷ nat_le b.phase rolling_phase
    ∷ nat_le b.given most_numbers
    ∷ nat_le (length b.units) most_units
    ∷ nat_le (length b.offers) most_offers
    ∷ nat_le (length b.orders) most_orders
    ∷ [])

unfoldable pub unit_in : ℕ → EnrolledUnit → Bool
unit_in days u =
    holds
    (kind_in u.kind
    ∷ capacity_in u.capacity
    ∷ asset_in u.asset
    ∷ (length u.figures == periods days)
    ∷ every (λ (f : Figures). leb f.mark 3) u.figures
    ∷ [])

-- "each open declaration names enrolled units of the side its call wants": an order any unit, a listing any unit, a
-- bilateral offer a generator and a load
abbrev pub bilateral_sides : Book → ℕ → ℕ → Bool
bilateral_sides b unit partner = generator (unit_of b unit).kind && not (generator (unit_of b partner).kind)

abbrev pub offer_sides : Book → OpenOffer → Bool
offer_sides b o = o.partner == 0 || (known b o.partner && bilateral_sides b o.unit o.partner)

unfoldable pub offer_in : Book → OpenOffer → Bool
offer_in b o =
    holds
    (between 1 b.given o.number
    ∷ known b o.unit
    ∷ offer_sides b o
    ∷ between b.rules.floor b.rules.ceiling o.price
    ∷ nat_le o.taken 1
    ∷ (length o.amounts == periods b.rules.days)
    ∷ energy_in (total o.amounts)
    ∷ [])

unfoldable pub order_in : Book → OpenOrder → Bool
order_in b o =
    holds
    (between 1 b.given o.number
    ∷ known b o.unit
    ∷ nat_le o.direction 1
    ∷ period_in b.rules.days o.period
    ∷ between b.rules.floor b.rules.ceiling o.price
    ∷ energy_in o.quantity
    ∷ [])

-- "open numbers differ": each list's rise, and no offer has an order's
unfoldable pub numbers_differ : Book → Bool
numbers_differ b =
    holds
    (rising (map (λ (o : OpenOffer). o.number) b.offers)
    ∷ rising (numbers b.orders)
    ∷ every (λ (f : OpenOffer). every (λ (o : OpenOrder). not (f.number == o.number)) b.orders) b.offers
    ∷ [])

-- "no unit has open orders both ways in a period"
abbrev pub one_direction : OpenOrder → OpenOrder → Bool
one_direction a o = not (a.unit == o.unit && a.period == o.period) || a.direction == o.direction

-- "no open buy and sell of one period cross"
abbrev pub apart : OpenOrder → OpenOrder → Bool
apart buy sale = not (buys buy.direction && sells sale.direction && buy.period == sale.period) || nat_lt buy.price sale.price

-- whether f holds of each two orders
unfoldable pub each_two : (OpenOrder → OpenOrder → Bool) → List OpenOrder → Bool
each_two f os = every (λ (a : OpenOrder). every (f a) os) os

-- "A book is sound if every figure lies in its range, all units fit so, each open declaration names enrolled units of the
-- side its call wants, each open figure is the sum of its open declarations, open numbers differ and were given today, no
-- unit has open orders both ways in a period, and no open buy and sell of one period cross in the rolling phase."
-- (No open figure is kept: each is summed where it is wanted.)
unfoldable pub sound : Book → Bool
sound b =
    holds
    (head_in b
    ∷ every (unit_in b.rules.days) b.units
    ∷ every (offer_in b) b.offers
    ∷ every (order_in b) b.orders
    ∷ numbers_differ b
    ∷ each_two one_direction b.orders
    ∷ (not (b.phase == rolling_phase) || each_two apart b.orders)
    ∷ all (length b.units) (λ k. unit_fits b (k + 1))
    ∷ [])
