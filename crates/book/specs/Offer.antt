-- "Offer (001 8.1, 8.3): a unit, a partner or 0, a price, an amount for each period. With partner 0 it is a listing;
-- generators sell, loads buy. With a partner it is bilateral: a generator offers to that load."
use Rattle.std.specs.Prelude.{ℕ, List, [], ◌∷◌, ◌++◌, slice_index}
use Rattle.book.specs.Book.{Book, with_offers, next_number, numbered}
use Rattle.book.specs.Fit.{Declaration}
use Rattle.book.specs.Refusals.{
  Outcome,
  Check,
  first_refusal,
  decided,
  accepted,
  unsound,
  unknown_unit,
  unknown_partner,
  bad_price,
  bad_amounts,
  wrong_partner,
  offers_full,
  numbers_used,
  hour_misfit,
  term_misfit,
  volume_misfit,
}

-- amounts that raise, by period: what an offer or a take declares
abbrev pub raising_amounts : List ℕ → Declaration
raising_amounts amounts = record { raising = λ p. slice_index amounts p; lowering = λ p. 0 }

abbrev pub offer_checks : Book → ℕ → ℕ → ℕ → List ℕ → List Check
offer_checks b unit partner price amounts =
    unknown_unit b unit ∷ unknown_partner b partner ∷ bad_price b price ∷ bad_amounts b amounts ∷ wrong_partner b unit partner
    ∷ offers_full b ∷ numbers_used b
    ∷ hour_misfit b unit (raising_amounts amounts) ∷ term_misfit b unit (raising_amounts amounts) ∷ volume_misfit b unit (raising_amounts amounts) ∷ []

unfoldable pub offer_refusal : Book → ℕ → ℕ → ℕ → List ℕ → ℕ
offer_refusal b unit partner price amounts = first_refusal (unsound b ∷ offer_checks b unit partner price amounts)

-- "Accepted offers and orders get the next number of the day"
abbrev pub offered : Book → ℕ → ℕ → ℕ → List ℕ → Book
offered b unit partner price amounts =
    numbered
    (with_offers b (b.offers ++ (record { number = next_number b; unit = unit; partner = partner; price = price; taken = 0; amounts = amounts } ∷ [])))

unfoldable pub offering : Book → ℕ → ℕ → ℕ → List ℕ → Outcome
offering b unit partner price amounts =
    decided (offer_refusal b unit partner price amounts) b (accepted (next_number b) [] (offered b unit partner price amounts))
