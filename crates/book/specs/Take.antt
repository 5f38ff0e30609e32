-- "Take: a unit, a number, a quantity. A bilateral offer is taken by its partner, for exactly its total. A listing is
-- taken by a unit of the other side, for 1 up to its remainder, shared over its remaining amounts."
use Rattle.std.specs.Prelude.{ℕ, suc, cond, List, [], ◌∷◌, ◌==◌}
use Rattle.measures.specs.Sharing.{total, parts, less_each}
use Rattle.limits.specs.Units.{generator}
use Rattle.matching.specs.Orders.{Row}
use Rattle.book.specs.Book.{OpenOffer, Book, unit_of, offer_of, with_offers}
use Rattle.book.specs.Trades.{rows_booked}
use Rattle.book.specs.Offer.{raising_amounts}
use Rattle.book.specs.Refusals.{
  Outcome,
  Check,
  first_refusal,
  decided,
  accepted,
  unsound,
  unknown_unit,
  few_rows,
  bad_quantity,
  no_such_offer,
  cannot_take,
  hour_misfit,
  term_misfit,
  volume_misfit,
}

-- what each period gives: of a bilateral offer, taken for its total, each amount whole (law `parts_of_all`)
abbrev pub taken_parts : Book → ℕ → ℕ → List ℕ
taken_parts b n q = parts q (offer_of b n).amounts

-- "The taker's declaration must fit."
abbrev pub take_checks : Book → ℕ → ℕ → ℕ → ℕ → List Check
take_checks b u n q lent =
    unknown_unit b u ∷ few_rows lent ∷ bad_quantity q ∷ no_such_offer b n ∷ cannot_take b u n q
    ∷ hour_misfit b u (raising_amounts (taken_parts b n q)) ∷ term_misfit b u (raising_amounts (taken_parts b n q))
    ∷ volume_misfit b u (raising_amounts (taken_parts b n q)) ∷ []

unfoldable pub take_refusal : Book → ℕ → ℕ → ℕ → ℕ → ℕ
take_refusal b u n q lent = first_refusal (unsound b ∷ take_checks b u n q lent)

-- "One row for each non-zero part, periods rising": from period p on
unfoldable pub take_rows_from : ℕ → ℕ → ℕ → ℕ → ℕ → List ℕ → List Row
take_rows_from p way seller buyer price [] = []
take_rows_from p way seller buyer price (q ∷ qs) =
    let rest = take_rows_from (suc p) way seller buyer price qs in
    cond (q == 0) rest (record { way = way; period = p; seller = seller; buyer = buyer; quantity = q; price = price } ∷ rest)

-- way 1 for a bilateral offer, 2 for a listing
abbrev pub way_of : OpenOffer → ℕ
way_of o = cond (o.partner == 0) 2 1

-- the generator sells
unfoldable pub take_rows : Book → OpenOffer → ℕ → List ℕ → List Row
take_rows b o u ps =
    cond (generator (unit_of b o.unit).kind)
    (take_rows_from 0 (way_of o) o.unit u o.price ps)
    (take_rows_from 0 (way_of o) u o.unit o.price ps)

abbrev pub offer_less : OpenOffer → List ℕ → OpenOffer
offer_less o ps =
    record { number = o.number; unit = o.unit; partner = o.partner; price = o.price; taken = 1; amounts = less_each o.amounts ps }

-- the offers with the parts taken off that of the number n; "An offer wholly taken, bilateral or listing, is gone."
unfoldable pub offers_less : ℕ → List ℕ → List OpenOffer → List OpenOffer
offers_less n ps [] = []
offers_less n ps (o ∷ os) =
    let rest = offers_less n ps os in
    cond (o.number == n)
    (cond (total (offer_less o ps).amounts == 0) os (offer_less o ps ∷ os))
    (o ∷ rest)

unfoldable pub taking : Book → ℕ → ℕ → ℕ → ℕ → Outcome
taking b u n q lent =
    let ps = taken_parts b n q in
    let rs = take_rows b (offer_of b n) u ps in
    decided (take_refusal b u n q lent) b
    (accepted 0 rs (rows_booked rs (with_offers b (offers_less n ps b.offers))))
