-- What the functions that book rows in a book's memory promise of it.
use Rattle.std.specs.Prelude.{◌≡◌, ℕ, ◌+◌, ◌-◌, ◌*◌, ◌<◌, ◌≤◌, Bool, List, [], ◌∷◌, ◌++◌, length, drop, ◌≢◌, slice_index, slice_set}
use Rattle.measures.specs.Ranges.{most_energy}
use Rattle.measures.specs.Lists.{table}
use Rattle.measures.specs.Sharing.{total, parts}
use Rattle.limits.specs.Units.{periods}
use Rattle.matching.specs.Orders.{Row}
use Rattle.matching.specs.Memory.{row_at, rows_in, written}
use Rattle.book.specs.declared.trades.Figures.{Figures as FiguresValue}
use Rattle.book.specs.Book.{Figures, Book, offer_of, with_offers}
use Rattle.book.specs.Trades.{booked, row_booked, rows_booked}
use Rattle.book.specs.Fit.{Declaration}
use Rattle.book.specs.Offer.{raising_amounts}
use Rattle.book.specs.Take.{taken_parts, take_checks, take_rows, offer_less, offers_less}
use Rattle.book.specs.Refusals.{
  Check,
  first_refusal,
  unknown_unit,
  few_rows,
  bad_quantity,
  no_such_offer,
  can_take,
  cannot_take,
  hour_misfit,
  term_misfit,
  volume_misfit,
}
use Rattle.book.specs.Layout.{DAYS, UNITS, offers_start, offer_place, TAKEN, amount_place, figures_start, figure_place, RAISED, LOWERED, MARK, VOLUME}
use Rattle.book.specs.Layout.{book_words, word, amount_at, offer_at, decode, Aside}
use Rattle.book.specs.Inner.Search.{OfferHas}

-- a value of the code's struct, as figures of these definitions
abbrev pub as_figures : FiguresValue → Figures
as_figures v = record { held = v.held.0; raised = v.raised.0; lowered = v.lowered.0; volume = v.volume.0; mark = v.mark.0 }

-- the figures that begin at place i
abbrev pub figures_from : List ℕ → ℕ → Figures
figures_from m i =
    record {
      held = word m i;
      raised = word m (i + RAISED);
      lowered = word m (i + LOWERED);
      mark = word m (i + MARK);
      volume = word m (i + VOLUME);
    }

-- what today's trades and the volume of the unit at place k come to in period p is at most this
pub record SmallAt (m : List ℕ) (k p most : ℕ) : Type 0 where
  pub raised : word m (figure_place k p + RAISED) ≤ most
  pub lowered : word m (figure_place k p + LOWERED) ≤ most
  pub volume : word m (figure_place k p + VOLUME) ≤ most

abbrev pub Small : List ℕ → ℕ → Type 0
Small m most = (k p : ℕ) → k < word m UNITS → p < 24 * word m DAYS → SmallAt m k p most

-- x is m with other figures of the unit at place k in period p
pub record FiguresPut (m x : List ℕ) (k p r l v w : ℕ) : Type 0 where
  pub long : length x ≡ length m
  pub raised : word x (figure_place k p + RAISED) ≡ r
  pub lowered : word x (figure_place k p + LOWERED) ≡ l
  pub volume : word x (figure_place k p + VOLUME) ≡ v
  pub mark : word x (figure_place k p + MARK) ≡ w
  pub other : (i : ℕ) → (i ≢ figure_place k p + RAISED) → (i ≢ figure_place k p + LOWERED) → (i ≢ figure_place k p + VOLUME)
      → (i ≢ figure_place k p + MARK) → word x i ≡ word m i

-- x has the words of m before the figures and past the book
pub record Kept (m x : List ℕ) : Type 0 where
  pub long : length x ≡ length m
  pub head : (i : ℕ) → i < figures_start → word x i ≡ word m i
  pub past : (i : ℕ) → book_words (word m DAYS) ≤ i → word x i ≡ word m i

-- x is m after a unit traded
pub record Traded (m x : List ℕ) (way direction p q u : ℕ) : Type 0 where
  pub book : decode x ≡ booked way direction p q u (decode m)
  pub kept : Kept m x
  pub small : (most : ℕ) → Small m most → Small x (most + q)

-- x is m after a row
pub record RowTraded (m x : List ℕ) (r : Row) : Type 0 where
  pub book : decode x ≡ row_booked r (decode m)
  pub kept : Kept m x
  pub small : (most : ℕ) → Small m most → Small x (most + 8_000_000_000)

-- a row of enrolled units, a period of the term and a quantity in range
pub record RowFits (m : List ℕ) (r : Row) : Type 0 where
  pub period : r.period < 24 * word m DAYS
  pub seller_from : 1 ≤ r.seller
  pub seller_to : r.seller ≤ word m UNITS
  pub buyer_from : 1 ≤ r.buyer
  pub buyer_to : r.buyer ≤ word m UNITS
  pub quantity : r.quantity ≤ most_energy

abbrev pub RowsFit : List ℕ → List ℕ → ℕ → Type 0
RowsFit m rows n = (k : ℕ) → k < n → RowFits m (row_at rows k)

-- figures that 744 rows cannot make too large for a word
abbrev pub small_figures : ℕ
small_figures = 1_000_000_000_000_000_000

-- x is m after the first n of the lent rows
pub record RowsTraded (m x rows : List ℕ) (n : ℕ) : Type 0 where
  pub book : decode x ≡ rows_booked (rows_in rows n) (decode m)
  pub kept : Kept m x

-- whether a unit can take a quantity of the offer at place j
unfoldable pub takes : List ℕ → ℕ → ℕ → ℕ → Bool
takes m j u q = can_take (decode m) (offer_at m (word m DAYS) j) u q

-- the checks of a take before its fit, and those of the fit
unfoldable pub party_checks : Book → ℕ → ℕ → ℕ → ℕ → List Check
party_checks b u n q lent = unknown_unit b u ∷ few_rows lent ∷ bad_quantity q ∷ no_such_offer b n ∷ cannot_take b u n q ∷ []

unfoldable pub fit_checks : Book → ℕ → Declaration → List Check
fit_checks b u d = hour_misfit b u d ∷ term_misfit b u d ∷ volume_misfit b u d ∷ []

-- what each period gives of a quantity taken from the offer at place j
unfoldable pub parts_at : List ℕ → ℕ → ℕ → List ℕ
parts_at m j q = parts q (table (periods (word m DAYS)) (amount_at m j))

-- the open offer of number n stands at place j, and its amounts come to t
pub record OpenAt (m : List ℕ) (n j t : ℕ) : Type 0 where
  pub has : OfferHas m n j
  pub whole : t ≡ total (table (periods (word m DAYS)) (amount_at m j))

-- the lent memory holds nothing
abbrev pub Nothing : List ℕ → Type 0
Nothing l = (p : ℕ) → slice_index l p ≡ 0

-- r is what the fit of a take came to, and its parts stand in the lent memory
pub record TakeFit (m : List ℕ) (u j q r : ℕ) (l x : List ℕ) : Type 0 where
  pub answer : r ≡ first_refusal (fit_checks (decode m) u (raising_amounts (parts_at m j q)))
  pub memory : x ≡ parts_at m j q ++ drop (periods (word m DAYS)) l

-- r is what the checks of a take came to; where none applies, its parts stand in the lent memory
pub record TakeChecked (m : List ℕ) (u n q lent r : ℕ) (l x : List ℕ) : Type 0 where
  pub answer : r ≡ first_refusal (take_checks (decode m) u n q lent)
  pub memory : r ≡ 0 → x ≡ taken_parts (decode m) n q ++ drop (periods (word m DAYS)) l

-- k rows rs stand in the lent memory x, which was m
pub record RowsPut (m x : List ℕ) (k : ℕ) (rs : List Row) : Type 0 where
  pub count : k ≡ length rs
  pub rows : x ≡ written m rs

-- x is m with each amount of the offer at place j less its part, where it stands; no other word of the memory differs
pub record AmountsLess (m x : List ℕ) (j : ℕ) (ps : List ℕ) : Type 0 where
  pub long : length x ≡ length m
  pub own : (p : ℕ) → p < 24 * word m DAYS → word x (amount_place j p) ≡ word m (amount_place j p) - slice_index ps p
  pub other : (i : ℕ) → ((p : ℕ) → p < 24 * word m DAYS → i ≢ amount_place j p) → word x i ≡ word m i

-- x is m with its part taken off each amount of the offer at place j; no other word before the figures differs, but the offer's mark
pub record AmountsLeft (m x : List ℕ) (j : ℕ) (ps : List ℕ) : Type 0 where
  pub own : (p : ℕ) → p < 24 * word m DAYS → word x (amount_place j p) ≡ word m (amount_place j p) - slice_index ps p
  pub others : (i : ℕ) → i < figures_start → (i ≢ offer_place j + TAKEN) → ((p : ℕ) → p < 24 * word m DAYS → i ≢ amount_place j p)
      → word x i ≡ word m i

-- each part is there to be taken
abbrev pub PartsThere : List ℕ → ℕ → List ℕ → Type 0
PartsThere m j ps = (p : ℕ) → p < 24 * word m DAYS → slice_index ps p ≤ word m (amount_place j p)

-- x is m with parts taken off the offer at place j, which stays; no figure changed
pub record OfferLessened (m x : List ℕ) (j : ℕ) (ps : List ℕ) : Type 0 where
  pub book : decode x ≡ with_offers (decode m) (slice_set (decode m).offers j (offer_less (offer_at m (word m DAYS) j) ps))
  pub long : length x ≡ length m
  pub head : (i : ℕ) → i < offers_start → word x i ≡ word m i
  pub figures : (i : ℕ) → figures_start ≤ i → word x i ≡ word m i
  pub left : AmountsLeft m x j ps

-- the lent parts are those of the take of a quantity of number n, with something behind them
pub record PartsLent (m : List ℕ) (n q : ℕ) (l : List ℕ) : Type 0 where
  pub behind : List ℕ
  pub parts : l ≡ taken_parts (decode m) n q ++ drop (periods (word m DAYS)) behind

-- x is m after the take of a quantity of number n, with its rows
pub record TakeMade (m x : List ℕ) (u n q : ℕ) (lent out : List ℕ) (k : ℕ) : Type 0 where
  pub book : decode x ≡ rows_booked (take_rows (decode m) (offer_of (decode m) n) u (taken_parts (decode m) n q))
      (with_offers (decode m) (offers_less n (taken_parts (decode m) n q) (decode m).offers))
  pub rows : RowsPut lent out k (take_rows (decode m) (offer_of (decode m) n) u (taken_parts (decode m) n q))
  pub aside : Aside m x
  -- where the offer stands, and what the take left there
  pub place : ℕ
  pub found : OfferHas m n place
  pub left : q < total (table (periods (word m DAYS)) (amount_at m place)) → AmountsLeft m x place (parts_at m place q)
