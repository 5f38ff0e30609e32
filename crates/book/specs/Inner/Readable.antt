-- What the functions that read a book's memory ask of it: that its head is in range, so that each place lies in the memory.
use Rattle.std.specs.Prelude.{◌≡◌, ℕ, ◌+◌, ◌<◌, ◌≤◌, Bool, true, false, not, ◌&&◌, ◌||◌, List, [], ◌∷◌, map, length, ◌==◌, ◌≢◌, nat_le, slice_index}
use Rattle.measures.specs.Ranges.{most_energy}
use Rattle.measures.specs.Lists.{holds, every, all}
use Rattle.limits.specs.Units.{most_days, most_capacity, periods, kind_in, capacity_in, asset_in}
use Rattle.matching.specs.Orders.{Order as OpenOrder}
use Rattle.book.specs.Book.{Figures, OpenOffer, Book, rolling_phase, known, unit_of}
use Rattle.book.specs.Fit.{Declaration, hour_fits, term_fits, volume_fits, unit_fits}
use Rattle.book.specs.Sound.{bilateral_sides, offer_in, order_in, one_direction, apart, each_two}
use Rattle.book.specs.Refusals.{check, first_refusal}
use Rattle.book.specs.Layout.{DAYS, UNITS, OFFERS, ORDERS, unit_place, CAPACITY, ASSET, figure_place, RAISED, LOWERED, book_words, word, decode}

pub record Readable (m : List ℕ) : Type 0 where
  pub days_from : 1 ≤ word m DAYS
  pub days_to : word m DAYS ≤ most_days
  pub units_to : word m UNITS ≤ 64
  pub offers_to : word m OFFERS ≤ 8
  pub orders_to : word m ORDERS ≤ 256
  pub long : book_words (word m DAYS) ≤ length m

-- the fields of the unit at place k, and of all units
unfoldable pub unit_fields_in : List ℕ → ℕ → Bool
unit_fields_in m k = holds (kind_in (word m (unit_place k)) ∷ capacity_in (word m (unit_place k + CAPACITY)) ∷ asset_in (word m (unit_place k + ASSET)) ∷ [])

abbrev pub units_fields_in : List ℕ → Bool
units_fields_in m = all (word m UNITS) (unit_fields_in m)

-- whether a partner is none, or an enrolled load for a generator
unfoldable pub sides_in : Book → ℕ → ℕ → Bool
sides_in b unit partner = partner == 0 || (known b partner && bilateral_sides b unit partner)

-- a memory whose units, offers and orders are in range
pub record Ranged (m : List ℕ) : Type 0 where
  pub readable : Readable m
  pub units : units_fields_in m ≡ true
  pub offers : every (offer_in (decode m)) (decode m).offers ≡ true
  pub orders : every (order_in (decode m)) (decode m).orders ≡ true

-- whether today's directions of a unit are in range
unfoldable pub marks_in : Book → ℕ → Bool
marks_in b u = every (λ (f : Figures). nat_le f.mark 3) (unit_of b u).figures

-- what a declaration lent as amounts by period raises and lowers
abbrev pub declared : List ℕ → List ℕ → Declaration
declared raising lowering = record { raising = λ p. slice_index raising p; lowering = λ p. slice_index lowering p }

-- that each amount is an energy in range
abbrev pub small : List ℕ → Type 0
small l = (i : ℕ) → slice_index l i ≤ most_energy

-- 19, 20 or 21 for the first of hours, term and volume that does not fit with a declaration added, or 0; here every
-- period is looked at, which on a sound book is the same as looking at those where the declaration has energy
unfoldable pub misfit_of : Book → ℕ → Declaration → ℕ
misfit_of b u d =
    first_refusal
    (check 19 (not (all (periods b.rules.days) (hour_fits b u d)))
    ∷ check 20 (not (term_fits b u d))
    ∷ check 21 (not (volume_fits b u d))
    ∷ [])

-- r is what the fit of a unit came to: 0 only if today's directions are in range too
pub record Fitted (b : Book) (u : ℕ) (d : Declaration) (r : ℕ) : Type 0 where
  pub clean : marks_in b u ≡ true → r ≡ misfit_of b u d
  pub dirty : marks_in b u ≡ false → r ≢ 0

-- the numbers of the open offers
abbrev pub offer_numbers : Book → List ℕ
offer_numbers b = map (λ (o : OpenOffer). o.number) b.offers

-- whether no open order has a number, and none an open offer's
unfoldable pub number_free : Book → ℕ → Bool
number_free b n = every (λ (o : OpenOrder). not (n == o.number)) b.orders

unfoldable pub numbers_free : Book → Bool
numbers_free b = every (λ (f : OpenOffer). number_free b f.number) b.offers

-- whether two orders may stand together in a phase, and whether all of a list may
unfoldable pub pair_fits : ℕ → OpenOrder → OpenOrder → Bool
pair_fits phase a b = one_direction a b && (not (phase == rolling_phase) || (apart a b && apart b a))

unfoldable pub pairs_fit : ℕ → List OpenOrder → Bool
pairs_fit phase os = each_two one_direction os && (not (phase == rolling_phase) || each_two apart os)

-- that the figures of the unit at place k come to a net in every period
pub record Netted (m : List ℕ) (k : ℕ) : Type 0 where
  pub held : (p : ℕ) → p < periods (word m DAYS) → word m (figure_place k p) + word m (figure_place k p + RAISED) ≤ most_capacity
  pub lowered : (p : ℕ) → p < periods (word m DAYS) → word m (figure_place k p + LOWERED) ≤ word m (figure_place k p)

-- whether a unit fits, with today's directions in range, and whether all do
unfoldable pub unit_whole : Book → ℕ → Bool
unit_whole b u = marks_in b u && unit_fits b u

unfoldable pub units_whole : Book → Bool
units_whole b = all (length b.units) (λ k. unit_whole b (k + 1))
