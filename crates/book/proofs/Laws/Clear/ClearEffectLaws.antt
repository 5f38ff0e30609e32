-- Clear on a sound book in memory: the orders' part cleared, its rows booked, and the phase set.
use Rattle.std.proofs.Common.{◌≡◌, ℕ, ◌+◌, ◌*◌, ◌≤◌, true, List, length, get_or, set}
use Rattle.std.proofs.Common.{ap, ◌∙◌, arith, length-drop, length-set, length-take, get_or-set_other, get_or-set_same, drop-set-lt}
use borrow.Rule.Slice.PartMut.{put_mid}
use Rattle.measures.specs.Lists.{table}
use Rattle.matching.specs.Orders.{Row, rising, numbers}
use Rattle.matching.specs.Memory.{orders_in, written, row_at, rows_in}
use Rattle.matching.specs.Answers.{fit_below}
use Rattle.matching.specs.Inner.Periods.{Clearable, PassedAll}
use Rattle.matching.proofs.Laws.Lists.EachLaws.{each_at}
use Rattle.matching.proofs.Laws.Orders.RowLaws.{written-length}
use Rattle.matching.proofs.Laws.Periods.PassingLaws.{clearable_fits, passed_fewer, passed_few}
use Rattle.book.specs.Book.{Book, in_phase}
use Rattle.book.specs.Trades.{rows_booked}
use Rattle.book.specs.Layout.{
  DAYS,
  FLOOR,
  CEILING,
  PHASE,
  GIVEN,
  UNITS,
  OFFERS,
  ORDERS,
  LAYOUT,
  orders_start,
  orders_words,
  amount_place,
  figure_place,
  RAISED,
  LOWERED,
  VOLUME,
  book_words,
  word,
  unit_at,
  offer_at,
  orders_part,
  decode,
  Aside,
}
use Rattle.book.specs.Inner.Readable.{Readable}
use Rattle.book.specs.Contract.{sound_in}
use Rattle.book.specs.Inner.RowsIn.{Small, small_figures, RowFits, RowsFit, RowsTraded}
use Rattle.book.specs.Inner.Periods.{cleared_all, Swept, AllCleared}
use Rattle.book.specs.Inner.Ordering.{OrdersPut}
use Rattle.book.proofs.Laws.Memory.RangeFacts.{units_held, days_held}
use Rattle.book.proofs.Laws.Answer.MadeLaws.{sound-book, sound_readable}
use Rattle.book.proofs.Laws.Sound.SoundLaws.{sound_facts}
use Rattle.book.proofs.Laws.Memory.WordLaws.{book_same, units_same, offers_same, orders_same, aside_then}
use Rattle.book.proofs.Laws.Order.WaitLaws.{orders_put, put_decoded, put_aside}
use Rattle.book.proofs.Laws.Rows.BookingLaws.{kept_aside, kept_readable}
use Rattle.book.proofs.Laws.Rows.SmallLaws.{sound-small, row_written, rows_written}
use Rattle.book.proofs.Laws.Clear.SweepLaws.{orders_small, RowIn, cleared-rows_in}

-- a sound book's orders can be cleared
clear_asks : (m rows : List ℕ) → sound_in m ≡ true → 4464 ≤ length rows → Clearable (orders_part m) rows (word m ORDERS) (word m ORDERS)
unfolding decode
clear_asks m rows s l =
    let r = sound_readable m s in
    let f = sound_facts (decode m) (sound-book m s) in
    record {
      few = r.orders_to;
      inside = simp (length-take, length-drop) (omega arith);
      lent = omega arith;
      rises = f.formed.orders_rise;
      small =
          orders_small (decode m) f;
    }

clear_rises : (m : List ℕ) → sound_in m ≡ true → rising (numbers (orders_in (orders_part m) (word m ORDERS))) ≡ true
unfolding decode
clear_rises m s = (sound_facts (decode m) (sound-book m s)).formed.orders_rise

pub clear_fits : (m rows : List ℕ) → sound_in m ≡ true → 4464 ≤ length rows → fit_below (orders_part m) (word m ORDERS) (24 * word m DAYS) rows ≡ true
clear_fits m rows s l =
    let r = sound_readable m s in
    clearable_fits (orders_part m) rows (word m ORDERS) (24 * word m DAYS) (clear_asks m rows s l) (omega arith)

-- the part is back, and the orders that stand are counted
module _ (m rows ys rows' : List ℕ) (count n' : ℕ) (s : sound_in m ≡ true) (same : length ys
    ≡ orders_words) (c : PassedAll (orders_part m) rows (word m ORDERS) (24 * word m DAYS) count n' ys rows') where
  abbrev x : List ℕ
  x = set (put_mid orders_start orders_words m ys) ORDERS n'

  put : OrdersPut m x (cleared_all (decode m)).orders
  unfolding decode
  put = let r = sound_readable m s in orders_put m ys n' (cleared_all (decode m)).orders (omega arith) same c.orders

  number : count ≡ length (cleared_all (decode m)).rows
  unfolding decode
  number = c.counted

  wrote : rows' ≡ written rows (cleared_all (decode m)).rows
  unfolding decode
  wrote = c.handed

  pub swept : Swept m rows count x rows'
  swept =
      let r = sound_readable m s in
      let a = passed_fewer (orders_part m) rows (word m ORDERS) (24 * word m DAYS) count n' ys rows' c in
      let b = passed_few (orders_part m) rows (word m ORDERS) (24 * word m DAYS) count n' ys rows' c (clear_rises m s) in
      let d : word x ORDERS ≡ n' = get_or-set_same (put_mid orders_start orders_words m ys) ORDERS n' 0
      (omega (arith, put.long, length-set (put_mid orders_start orders_words m ys) ORDERS n')) in
      record {
        book = put_decoded m x (cleared_all (decode m)).orders put r.units_to r.offers_to;
        counted = number;
        handed = wrote;
        low = put.low;
        high = put.high;
        orders = omega arith;
        few = omega arith;
        aside = put_aside m x (cleared_all (decode m)).orders put;
        long = put.long;
      }

abbrev no_row : Row
no_row = record { way = 0; period = 0; seller = 0; buyer = 0; quantity = 0; price = 0 }

-- what booking the rows asks
module _ (m rows x rows' : List ℕ) (count : ℕ) (s : sound_in m ≡ true) (l : 4464 ≤ length rows) (w : Swept m rows count x rows') where
  pub swept_readable : Readable x
  swept_readable =
      let r = sound_readable m s in
      let e0 = w.low DAYS (omega arith) (omega arith) in
      let e5 = w.low UNITS (omega arith) (omega arith) in
      let e6 = w.low OFFERS (omega arith) (omega arith) in
      let o = w.orders in
      let g = w.long in
      record { days_from = omega arith; days_to = omega arith; units_to = omega arith; offers_to = omega arith; orders_to = omega arith; long = omega arith }

  pub swept_room : 6 * count ≤ length rows'
  swept_room =
      let f = w.few in
      let e = w.counted in
      let g : length rows' ≡ length rows = ap length w.handed ∙ written-length rows (cleared_all (decode m)).rows (omega arith) in
      omega arith

  pub swept_rows : RowsFit x rows' count
  swept_rows k h =
      let c = w.counted in
      let i : RowIn (length (decode m).units) (decode m).rules.days (get_or (cleared_all (decode m)).rows k no_row) = each_at
      (RowIn (length (decode m).units) (decode m).rules.days) (cleared_all (decode m)).rows k no_row
      (cleared-rows_in (decode m) (sound_facts (decode m) (sound-book m s))) (omega arith) in
      let t : row_at rows' k ≡ get_or (cleared_all (decode m)).rows k no_row = ap (λ (z : List ℕ). row_at z k) w.handed
      ∙ row_written rows (cleared_all (decode m)).rows k (omega arith) in
      fits (row_at rows' k) (get_or (cleared_all (decode m)).rows k no_row) t i
    where
      fits : (a b : Row) → a ≡ b → RowIn (length (decode m).units) (decode m).rules.days b → RowFits x a
      fits a b e i =
          let e0 = w.low DAYS (omega arith) (omega arith) in
          let e5 = w.low UNITS (omega arith) (omega arith) in
          let u = units_held m in
          let d = days_held m in
          let z : RowFits x b = record {
            period = omega arith;
            seller_from = omega arith;
            seller_to = omega arith;
            buyer_from = omega arith;
            buyer_to = omega
                arith;
            quantity = i.quantity;
          } in
          rw e z

  pub swept_small : Small x small_figures
  swept_small k p hk hp =
      let e0 = w.low DAYS (omega arith) (omega arith) in
      let e5 = w.low UNITS (omega arith) (omega arith) in
      let t = sound-small m s k p (omega arith) (omega arith) in
      let a = w.high (figure_place k p + RAISED) (omega arith) in
      let b = w.high (figure_place k p + LOWERED) (omega arith) in
      let c = w.high (figure_place k p + VOLUME) (omega arith) in
      record { raised = omega arith; lowered = omega arith; volume = omega arith }

-- the phase is set
phase_set : (m : List ℕ) → Readable m → decode (set m PHASE 1) ≡ in_phase (decode m) 1
unfolding decode
phase_set m r = book_same (decode (set m PHASE 1)) (in_phase (decode m) 1) (at DAYS (omega arith)) (at FLOOR (omega arith)) (at CEILING (omega arith))
    (get_or-set_same m PHASE 1 0 (omega arith)) (at GIVEN (omega arith)) units offers orders
  where
    at : (i : ℕ) → (i ≡ PHASE → ⊥) → word (set m PHASE 1) i ≡ word m i
    at i ne = get_or-set_other m PHASE i 1 0 ne

    units : table (word (set m PHASE 1) UNITS) (unit_at (set m PHASE 1) (word (set m PHASE 1) DAYS)) ≡ table (word m UNITS) (unit_at m (word m DAYS))
    units = rw (at UNITS (omega arith), at DAYS (omega arith)) (units_same (set m PHASE 1) m (word m UNITS) (word m DAYS) (λ i l h. at i (omega arith))
        (λ k p i hk hp l u. at i (omega arith)))

    offers : table (word (set m PHASE 1) OFFERS) (offer_at (set m PHASE 1) (word (set m PHASE 1) DAYS)) ≡ table (word m OFFERS) (offer_at m (word m DAYS))
    offers = rw (at OFFERS (omega arith), at DAYS (omega arith)) (offers_same (set m PHASE 1) m (word m OFFERS) (word m DAYS) (λ i l h. at i (omega arith))
        (λ p j l h. at (amount_place j p) (omega arith)))

    orders : orders_in (orders_part (set m PHASE 1)) (word (set m PHASE 1) ORDERS) ≡ orders_in (orders_part m) (word m ORDERS)
    orders = rw (at ORDERS (omega arith)) (orders_same (set m PHASE 1) m (word m ORDERS) r.orders_to (λ i l h. at i (omega arith)))

phase_aside : (m : List ℕ) → Aside m (set m PHASE 1)
phase_aside m =
    record { layout = get_or-set_other m PHASE LAYOUT 1 0 (omega arith); past = drop-set-lt (book_words (word m DAYS)) m PHASE 1 (omega arith) }

-- all together
pub all-cleared : (m rows x rows' : List ℕ) (count : ℕ) (y : List ℕ) → sound_in m ≡ true → 4464 ≤ length rows → Swept m rows count x rows'
    → RowsTraded x y rows' count → AllCleared m rows count (set y PHASE 1) rows'
all-cleared m rows x rows' count y s l w t =
    let r = swept_readable m rows x rows' count s l w in
    let e0 = w.low DAYS (omega arith) (omega arith) in
    let q : rows_in rows' count ≡ (cleared_all (decode m)).rows = ap (λ (z : List ℕ). rows_in z count) w.handed
    ∙ ap (λ (z : ℕ). rows_in (written rows (cleared_all (decode m)).rows) z) w.counted ∙ rows_written rows (cleared_all (decode m)).rows in
    record {
      book = phase_set y (kept_readable x y t.kept r) ∙ ap (λ (b : Book). in_phase b 1) (t.book ∙ ap (λ (z : List Row). rows_booked z (decode x)) q
          ∙ ap (λ (b : Book). rows_booked (cleared_all (decode m)).rows b) w.book);
      counted = w.counted;
      handed = w.handed;
      aside = aside_then m x (set y PHASE 1) e0 w.aside (aside_then x y (set y PHASE 1) (t.kept.head DAYS (omega arith)) (kept_aside x y t.kept)
          (phase_aside y));
    }
