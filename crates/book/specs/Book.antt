-- The book (paper 01, "Units of measure and the book"). How memory holds a book is a definition of its own.
use Rattle.std.specs.Prelude.{ℕ, ◌+◌, ◌-◌, Bool, List, [], length, replicate, nat_eq, nat_lt, slice_index_or}
use Rattle.measures.specs.Ranges.{between}
use Rattle.measures.specs.Lists.{keep}
use Rattle.limits.specs.Units.{periods}
use Rattle.matching.specs.Orders.{Order as OpenOrder}
use Rattle.matching.specs.Memory.{no_order}

-- the figures of a unit in a period: held when the trading day began, raised and lowered by trades today, the volume
-- over the term, and today's mark of ways 3 and 4 (0 none, 1 sold, 2 bought, 3 both)
pub record Figures : Type 0 where
  pub held : ℕ
  pub raised : ℕ
  pub lowered : ℕ
  pub volume : ℕ
  pub mark : ℕ

abbrev pub no_figures : Figures
no_figures = record { held = 0; raised = 0; lowered = 0; volume = 0; mark = 0 }

-- a unit, and its figures by period
pub record EnrolledUnit : Type 0 where
  pub kind : ℕ
  pub capacity : ℕ
  pub asset : ℕ
  pub figures : List Figures

abbrev pub no_unit : EnrolledUnit
no_unit = record { kind = 0; capacity = 0; asset = 0; figures = [] }

-- Offer: "a unit, a partner or 0, a price, an amount for each period", under its number; `taken` is 1 once some of it
-- was taken
pub record OpenOffer : Type 0 where
  pub number : ℕ
  pub unit : ℕ
  pub partner : ℕ
  pub price : ℕ
  pub taken : ℕ
  pub amounts : List ℕ

abbrev pub no_offer : OpenOffer
no_offer = record { number = 0; unit = 0; partner = 0; price = 0; taken = 0; amounts = [] }

-- the phases of a trading day
abbrev pub call_phase : ℕ
call_phase = 0

abbrev pub rolling_phase : ℕ
rolling_phase = 1

-- what an opening chooses: "the days, a floor and a ceiling price"
pub record Rules : Type 0 where
  pub days : ℕ
  pub floor : ℕ
  pub ceiling : ℕ

abbrev pub rules_of : ℕ → ℕ → ℕ → Rules
rules_of days floor ceiling = record { days = days; floor = floor; ceiling = ceiling }

-- a book: its rules, the phase, the numbers given today, the units as enrolled, and what stands open, by rising number
pub record Book : Type 0 where
  pub rules : Rules
  pub phase : ℕ
  pub given : ℕ
  pub units : List EnrolledUnit
  pub offers : List OpenOffer
  pub orders : List OpenOrder

-- "at most 64", "At most 8 stand open", "At most 256 stand open", "from 1 to 65,535"
abbrev pub most_units : ℕ
most_units = 64

abbrev pub most_offers : ℕ
most_offers = 8

abbrev pub most_orders : ℕ
most_orders = 256

abbrev pub most_numbers : ℕ
most_numbers = 65_535

-- "Units are numbered from 1 as enrolled"
abbrev pub known : Book → ℕ → Bool
known b u = between 1 (length b.units) u

abbrev pub unit_of : Book → ℕ → EnrolledUnit
unit_of b u = slice_index_or b.units (u - 1) no_unit

abbrev pub figures_of : Book → ℕ → ℕ → Figures
figures_of b u p = slice_index_or (unit_of b u).figures p no_figures

-- "Net: a generator's is sold less bought, a load's bought less sold"
abbrev pub net : Figures → ℕ
net f = f.held + f.raised - f.lowered

-- the open offer of a number
abbrev pub offers_of : Book → ℕ → List OpenOffer
offers_of b n = keep (λ o. nat_eq o.number n) b.offers

abbrev pub offer_of : Book → ℕ → OpenOffer
offer_of b n = slice_index_or (offers_of b n) 0 no_offer

abbrev pub offer_open : Book → ℕ → Bool
offer_open b n = nat_lt 0 (length (offers_of b n))

-- the open order of a number
abbrev pub orders_of : Book → ℕ → List OpenOrder
orders_of b n = keep (λ o. nat_eq o.number n) b.orders

abbrev pub order_of : Book → ℕ → OpenOrder
order_of b n = slice_index_or (orders_of b n) 0 no_order

abbrev pub order_open : Book → ℕ → Bool
order_open b n = nat_lt 0 (length (orders_of b n))

-- a book with other units, offers, orders, phase or numbers
abbrev pub with_units : Book → List EnrolledUnit → Book
with_units b us =
    record {
      rules = b.rules;
      phase = b.phase;
      given = b.given;
      units = us;
      offers = b.offers;
      orders =
          b.orders;
    }

abbrev pub with_offers : Book → List OpenOffer → Book
with_offers b os =
    record { rules = b.rules; phase = b.phase; given = b.given; units = b.units; offers = os; orders = b.orders }

abbrev pub with_orders : Book → List OpenOrder → Book
with_orders b os =
    record { rules = b.rules; phase = b.phase; given = b.given; units = b.units; offers = b.offers; orders = os }

abbrev pub in_phase : Book → ℕ → Book
in_phase b p =
    record { rules = b.rules; phase = p; given = b.given; units = b.units; offers = b.offers; orders = b.orders }

-- "the next number of the day"
abbrev pub next_number : Book → ℕ
next_number b = b.given + 1

abbrev pub numbered : Book → Book
numbered b =
    record {
      rules = b.rules;
      phase = b.phase;
      given = next_number b;
      units = b.units;
      offers = b.offers;
      orders =
          b.orders;
    }

-- the figures of a unit that has not traded
abbrev pub no_trades : ℕ → List Figures
no_trades days = replicate (periods days) no_figures
