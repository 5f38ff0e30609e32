-- Paper 01, "The tally": what calls' arguments and answers sum to. Nothing comes from the book.
use Rattle.std.specs.Prelude.{ℕ, ◌-◌, min, cond, not, ◌&&◌, List, [], ◌∷◌, ◌++◌, get_or, set, eqb, leb}
use Rattle.measures.specs.Lists.{keep, sum_of}
use Rattle.limits.specs.Units.{periods}
use Rattle.matching.specs.Orders.{Order as OpenOrder, Row, buys, less, order_with}
use Rattle.matching.specs.Clearing.{clear_from}
use Rattle.book.specs.Book.{Rules}
use Rattle.book.specs.Calls.{Call, call_enrol, call_offer, call_take, call_withdraw, call_order, call_cancel, call_clear, call_close, Heard}

-- a unit with the fields given at its enrol
pub record Member : Type 0 where
  pub kind : ℕ
  pub capacity : ℕ
  pub asset : ℕ

-- an offer's open amounts under its number
pub record Amounts : Type 0 where
  pub number : ℕ
  pub unit : ℕ
  pub amounts : List ℕ

abbrev pub no_amounts : Amounts
no_amounts = record { number = 0; unit = 0; amounts = [] }

pub record Tally : Type 0 where
  pub rules : Rules
  pub units : List Member
  pub rows : List Row
  pub offers : List Amounts
  pub orders : List OpenOrder

-- "It starts with the opening's days and nothing else.": of the rules, only the days are ever read
abbrev pub opened : Rules → Tally
opened r = record { rules = r; units = []; rows = []; offers = []; orders = [] }

-- "Take: each row lessens the named offer in its period."
abbrev pub less_at : Amounts → Row → Amounts
less_at a r =
    record { number = a.number; unit = a.unit; amounts = set a.amounts r.period (get_or a.amounts r.period 0 - r.quantity) }

unfoldable pub offer_lessened : ℕ → Row → List Amounts → List Amounts
offer_lessened n r [] = []
offer_lessened n r (a ∷ os) = let rest = offer_lessened n r os in cond (eqb a.number n) (less_at a r ∷ rest) (a ∷ rest)

unfoldable pub take_tallied : ℕ → List Row → List Amounts → List Amounts
take_tallied n [] os = os
take_tallied n (r ∷ rs) os = take_tallied n rs (offer_lessened n r os)

-- "Order: each row lessens the other unit's open order of its period and price, lowest number first": the orders stand by
-- rising number, as they were given; what one cannot give, the next gives. "An emptied order is gone."
unfoldable pub order_lessened : ℕ → ℕ → ℕ → ℕ → List OpenOrder → List OpenOrder
order_lessened u p price q [] = []
order_lessened u p price q (o ∷ os) =
    let x = min q o.quantity in
    let rest = order_lessened u p price (q - x) os in
    let same = order_lessened u p price q os in
    cond (eqb o.unit u && eqb o.period p && eqb o.price price)
    (cond (leb o.quantity q) rest (less o x ∷ rest))
    (o ∷ same)

-- the other unit of a row, for an order of this direction
abbrev pub other_unit : ℕ → Row → ℕ
other_unit direction r = cond (buys direction) r.seller r.buyer

unfoldable pub order_tallied : ℕ → List Row → List OpenOrder → List OpenOrder
order_tallied d [] os = os
order_tallied d (r ∷ rs) os = order_tallied d rs (order_lessened (other_unit d r) r.period r.price r.quantity os)

-- "what is left of the quantity is open under its number"
abbrev pub order_left : ℕ → ℕ → ℕ → ℕ → ℕ → ℕ → List Row → List OpenOrder
order_left n u d p price q rs =
    let left = q - sum_of (λ r. r.quantity) rs in
    cond (eqb left 0) [] (order_with n u d p price left ∷ [])

-- one accepted call
unfoldable pub accounted : Tally → Call → Heard → Tally
-- "Enrol: the next unit, with the fields given."
accounted t (call_enrol kind capacity asset) a =
    record {
      rules = t.rules;
      units = t.units ++ (record { kind = kind; capacity = capacity; asset = asset } ∷ []);
      rows = t.rows
          ++ a.rows;
      offers = t.offers;
      orders = t.orders;
    }
-- "Offer: its amounts are open under its number."
accounted t (call_offer unit partner price amounts) a =
    record {
      rules = t.rules;
      units = t.units;
      rows = t.rows ++ a.rows;
      offers = t.offers
          ++ (record { number = a.number; unit = unit; amounts = amounts } ∷ []);
      orders = t.orders;
    }
accounted t (call_take unit number quantity lent) a =
    record { rules = t.rules; units = t.units; rows = t.rows ++ a.rows; offers = take_tallied number a.rows t.offers; orders = t.orders }
-- "Withdraw, cancel: the named number is gone."
accounted t (call_withdraw unit number) a =
    record {
      rules = t.rules;
      units = t.units;
      rows = t.rows
          ++ a.rows;
      offers = keep (λ o. not (eqb o.number number)) t.offers;
      orders = t.orders;
    }
accounted t (call_order unit direction period price quantity lent) a =
    record {
      rules = t.rules;
      units = t.units;
      rows = t.rows ++ a.rows;
      offers = t.offers;
      orders = order_tallied direction a.rows t.orders
          ++ order_left a.number unit direction period price quantity a.rows;
    }
accounted t (call_cancel unit number) a =
    record {
      rules = t.rules;
      units = t.units;
      rows = t.rows
          ++ a.rows;
      offers = t.offers;
      orders = keep (λ o. not (eqb o.number number)) t.orders;
    }
-- "Clear: each open order loses the fill that the rule for clear gives it, worked out from the tally's open orders."
accounted t (call_clear lent) a =
    record {
      rules = t.rules;
      units = t.units;
      rows = t.rows
          ++ a.rows;
      offers = t.offers;
      orders = (clear_from 0 (periods t.rules.days) t.orders).orders;
    }
-- "Close: nothing is open."
accounted t call_close a =
    record { rules = t.rules; units = t.units; rows = t.rows ++ a.rows; offers = []; orders = [] }

-- "Refused: nothing changes."
abbrev pub tallied : Tally → Call → Heard → Tally
tallied t c a = cond (eqb a.refusal 0) (accounted t c a) t
