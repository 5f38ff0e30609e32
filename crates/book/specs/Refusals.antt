-- The table "Refusals by place of check" (paper 01): each condition by its number, in the table's order.
use Rattle.std.specs.Prelude.{ℕ, Bool, cond, not, ◌&&◌, ◌||◌, List, [], ◌∷◌, length, ◌==◌, nat_le, nat_lt}
use Rattle.measures.specs.Ranges.{between}
use Rattle.measures.specs.Lists.{keep}
use Rattle.measures.specs.Sharing.{total}
use Rattle.limits.specs.Units.{days_in, periods, period_in, kind_in, generator, capacity_in, asset_in}
use Rattle.matching.specs.Orders.{Order as OpenOrder, Row, sells}
use Rattle.matching.specs.Rolling.{meet}
use Rattle.book.specs.Book.{
  Rules,
  OpenOffer,
  Book,
  call_phase,
  rolling_phase,
  most_units,
  most_offers,
  most_orders,
  most_numbers,
  known,
  unit_of,
  figures_of,
  offer_of,
  offer_open,
  order_of,
  order_open,
}
use Rattle.book.specs.Fit.{Declaration, hours_fit, term_fits, volume_fits}
use Rattle.book.specs.Sound.{sound, prices_in, energy_in, bilateral_sides}

-- what a call gives: the refusal (0: none), the number, the rows and the book
pub record Outcome : Type 0 where
  pub refusal : ℕ
  pub number : ℕ
  pub rows : List Row
  pub book : Book

-- a condition under its number
pub record Check : Type 0 where
  pub number : ℕ
  pub applies : Bool

abbrev pub check : ℕ → Bool → Check
check n c = record { number = n; applies = c }

-- "A call meets its checks in rising number and returns the first", or 0
unfoldable pub first_refusal : List Check → ℕ
first_refusal [] = 0
first_refusal (c ∷ cs) = let rest = first_refusal cs in cond c.applies c.number rest

-- "with 0 as its number and as its row count; book and lent memory then stand as before"
abbrev pub decided : ℕ → Book → Outcome → Outcome
decided refusal b o = cond (refusal == 0) o (record { refusal = refusal; number = 0; rows = []; book = b })

abbrev pub accepted : ℕ → List Row → Book → Outcome
accepted n rs b = record { refusal = 0; number = n; rows = rs; book = b }

-- 1, book: "not a sound book"
abbrev pub unsound : Book → Check
unsound b = check 1 (not (sound b))

-- 2, opening: "days or prices out of range"
abbrev pub bad_opening : Rules → Check
bad_opening r = check 2 (not (days_in r.days && prices_in r.floor r.ceiling))

-- 3, enrol: "kind not 1 to 4"
abbrev pub bad_kind : ℕ → Check
bad_kind kind = check 3 (not (kind_in kind))

-- 4, enrol: "capacity or asset out of range"
abbrev pub bad_size : ℕ → ℕ → Check
bad_size capacity asset = check 4 (not (capacity_in capacity && asset_in asset))

-- 5, enrol: "64 units stand"
abbrev pub units_full : Book → Check
units_full b = check 5 (nat_le most_units (length b.units))

-- 6, names: "unit or non-zero partner unknown"
abbrev pub unknown_unit : Book → ℕ → Check
unknown_unit b u = check 6 (not (known b u))

abbrev pub unknown_partner : Book → ℕ → Check
unknown_partner b partner = check 6 (not (partner == 0) && not (known b partner))

-- 7, rows: "take, order, clear: under 744 rows lent; curve: under 48 numbers"; a row is six numbers
abbrev pub most_rows : ℕ
most_rows = 744

abbrev pub few_rows : ℕ → Check
few_rows lent = check 7 (nat_lt lent 4_464)

abbrev pub few_points : ℕ → Check
few_points lent = check 7 (nat_lt lent 48)

-- 8, price: "outside floor to ceiling"
abbrev pub bad_price : Book → ℕ → Check
bad_price b price = check 8 (not (between b.rules.floor b.rules.ceiling price))

-- 9, energy: "quantity or total 0 or over 4,000,000,000; wrong list length"
abbrev pub bad_quantity : ℕ → Check
bad_quantity q = check 9 (not (energy_in q))

abbrev pub bad_amounts : Book → List ℕ → Check
bad_amounts b amounts = check 9 (not (length amounts == periods b.rules.days && energy_in (total amounts)))

-- 10, period: "no such period or day"
abbrev pub bad_period : Book → ℕ → Check
bad_period b p = check 10 (not (period_in b.rules.days p))

abbrev pub bad_day : Book → ℕ → Check
bad_day b day = check 10 (not (nat_lt day b.rules.days))

-- 11, number: "no open offer of that number (cancel: no open order); withdraw, cancel: or another's"
abbrev pub no_such_offer : Book → ℕ → Check
no_such_offer b n = check 11 (not (offer_open b n))

abbrev pub not_own_offer : Book → ℕ → ℕ → Check
not_own_offer b u n = check 11 (not (offer_open b n && (offer_of b n).unit == u))

abbrev pub not_own_order : Book → ℕ → ℕ → Check
not_own_order b u n = check 11 (not (order_open b n && (order_of b n).unit == u))

-- 12, party: "wrong side or partner, unknown direction, quantity the offer can't give"
abbrev pub wrong_partner : Book → ℕ → ℕ → Check
wrong_partner b unit partner = check 12 (not (partner == 0) && not (bilateral_sides b unit partner))

abbrev pub same_side : Book → ℕ → ℕ → Bool
same_side b u v = cond (generator (unit_of b u).kind) (generator (unit_of b v).kind) (not (generator (unit_of b v).kind))

abbrev pub can_take : Book → OpenOffer → ℕ → ℕ → Bool
can_take b o u q =
    cond (o.partner == 0)
    (not (same_side b o.unit u) && nat_le q (total o.amounts))
    (o.partner == u && q == total o.amounts)

abbrev pub cannot_take : Book → ℕ → ℕ → ℕ → Check
cannot_take b u n q = check 12 (not (can_take b (offer_of b n) u q))

abbrev pub bad_direction : ℕ → Check
bad_direction d = check 12 (not (nat_le d 1))

-- 13, state: "withdraw after a take"
abbrev pub after_take : Book → ℕ → Check
after_take b n = check 13 ((offer_of b n).taken == 1)

-- 14, state: "clear in the rolling phase"
abbrev pub clear_in_rolling : Book → Check
clear_in_rolling b = check 14 (b.phase == rolling_phase)

-- a unit's open orders of a period
abbrev pub orders_of_unit : Book → ℕ → ℕ → List OpenOrder
orders_of_unit b u p = keep (λ o. (o.unit == u) && o.period == p) b.orders

-- whether today's mark has the direction other than d
abbrev pub marked_against : ℕ → ℕ → Bool
marked_against d mark = cond (sells d) (mark == 2) (mark == 1) || mark == 3

-- 15, day: "order: unit has an open order or a trade of way 3 or 4 today, same period, other direction"
abbrev pub other_direction : Book → ℕ → ℕ → ℕ → Check
other_direction b u d p =
    check 15
    (nat_lt 0 (length (keep (λ o. not (o.direction == d)) (orders_of_unit b u p)))
    || marked_against d (figures_of b u p).mark)

-- 16, day: "order in the call phase: unit has two open in that period"
abbrev pub two_open : Book → ℕ → ℕ → Check
two_open b u p = check 16 (b.phase == call_phase && nat_le 2 (length (orders_of_unit b u p)))

-- 17, tables: "8 offers or 256 orders already open"
abbrev pub offers_full : Book → Check
offers_full b = check 17 (nat_le most_offers (length b.offers))

-- "Check 17 stays for an order with a remainder, and in the call phase." (paper 02, job 4)
unfoldable pub needs_place : Book → OpenOrder → Bool
needs_place b o = b.phase == call_phase || nat_lt 0 (meet o b.orders).left

abbrev pub orders_full : Book → OpenOrder → Check
orders_full b o = check 17 (nat_le most_orders (length b.orders) && needs_place b o)

-- 18, tables: "65,535 numbers used"
abbrev pub numbers_used : Book → Check
numbers_used b = check 18 (nat_le most_numbers b.given)

-- 19, 20, 21, limits: "hour (also lowering past held), term, volume doesn't fit"
abbrev pub hour_misfit : Book → ℕ → Declaration → Check
hour_misfit b u d = check 19 (not (hours_fit b u d))

abbrev pub term_misfit : Book → ℕ → Declaration → Check
term_misfit b u d = check 20 (not (term_fits b u d))

abbrev pub volume_misfit : Book → ℕ → Declaration → Check
volume_misfit b u d = check 21 (not (volume_fits b u d))
