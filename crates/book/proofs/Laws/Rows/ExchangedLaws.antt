-- Rows that take off open orders what they trade leave a sound book.
use Rattle.std.proofs.Common.{◌≡◌, ℕ, ◌+◌, ◌-◌, ◌<◌, ◌≤◌, Bool, true, false, cond, List, length, refl, ap, ◌∙◌, arith}
use Rattle.measures.specs.Lists.{Each}
use Rattle.measures.proofs.RangeLaws.{In}
use Rattle.limits.specs.Units.{periods, generator}
use Rattle.matching.specs.Orders.{Order as OpenOrder, Row, sells, buys}
use Rattle.matching.proofs.Laws.Orders.ExchangeLaws.{Exchanged}
use Rattle.matching.proofs.Laws.Orders.LeftLaws.{LessOrder}
use Rattle.book.specs.Book.{no_unit, Book, rolling_phase, most_orders, unit_of, figures_of, with_units, with_orders, in_phase}
use Rattle.book.specs.Trades.{raises, lowers, rows_booked}
use Rattle.book.specs.Fit.{open_orders, open_raising, open_lowering, nothing}
use Rattle.book.specs.Sound.{apart, each_two, sound}
use Rattle.matching.proofs.Laws.Lists.EachLaws.{each_at}
use Rattle.matching.proofs.Laws.Lists.RemainLaws.{Remains, remains-all}
use Rattle.book.proofs.Laws.Sound.FitLaws.{Moved, fits_after}
use Rattle.book.proofs.Laws.Sound.SoundLaws.{UnitRanges, SoundUpTo, sound-holds}
use Rattle.book.proofs.Laws.Sound.FormedLaws.{LessOffer, same_offer, Remaining, formed_left}
use Rattle.book.proofs.Laws.Rows.TradeLaws.{traded_by, sold, bought, rows_raise, rows_lower, Named, Kept, kept_rows, grown_rows}

-- a unit's orders lose what it raises by the rows, and what it lowers
module _ (os os' : List OpenOrder) (rs : List Row) (x : Exchanged os os' rs) (u p kind : ℕ) where
  raising_lost : open_orders (raises kind) u p os' + rows_raise kind u p rs ≡ open_orders (raises kind) u p os
  unfolding open_orders traded_by
  raising_lost = go (generator kind)
    where
      go : (g : Bool) → open_orders (λ d. cond g (sells d) (buys d)) u p os' + cond g (sold u p rs) (bought u p rs)
          ≡ open_orders (λ d. cond g (sells d) (buys d)) u p os
      go true = x.sold u p
      go false = x.bought u p

  lowering_lost : open_orders (lowers kind) u p os' + rows_lower kind u p rs ≡ open_orders (lowers kind) u p os
  unfolding open_orders traded_by
  lowering_lost = go (generator kind)
    where
      go : (g : Bool) → open_orders (λ d. cond g (buys d) (sells d)) u p os' + cond g (bought u p rs) (sold u p rs)
          ≡ open_orders (λ d. cond g (buys d) (sells d)) u p os
      go true = x.bought u p
      go false = x.sold u p

-- a sound book, whatever the count of its orders, of which the orders os are left, and whose rows trade the rest
module _ (most : ℕ) (b : Book) (os : List OpenOrder) (rs : List Row) (phase : ℕ) (s : SoundUpTo most b) (r : Remains LessOrder os b.orders)
    (x : Exchanged b.orders os rs) (n : Each Named rs) where
  abbrev traded : Book
  traded = rows_booked rs (with_orders b os)

  abbrev after : Book
  after = in_phase (with_units (with_orders b os) traded.units) phase

  keeps : Kept (with_orders b os) traded
  keeps = kept_rows rs (with_orders b os)

  module _ (u p : ℕ) where
    raising_open : open_raising after u p + rows_raise (unit_of b u).kind u p rs ≡ open_raising b u p
    unfolding open_raising
    raising_open = rw (keeps.kind u) (omega (arith, raising_lost b.orders os rs x u p (unit_of b u).kind))

    lowering_open : open_lowering after u p + rows_lower (unit_of b u).kind u p rs ≡ open_lowering b u p
    unfolding open_lowering
    lowering_open = rw (keeps.kind u) (lowering_lost b.orders os rs x u p (unit_of b u).kind)

    -- what is traded and what is open are together what they were
    pub exchanged_figures : In 1 (length b.units) u → p < periods b.rules.days
        → ((figures_of after u p).held ≡ (figures_of b u p).held)
        × ((figures_of after u p).raised + open_raising after u p ≡ (figures_of b u p).raised + open_raising b u p)
        × ((figures_of after u p).lowered + open_lowering after u p ≡ (figures_of b u p).lowered + open_lowering b u p)
        × ((figures_of after u p).volume + (open_raising after u p + open_lowering after u p)
        ≡ (figures_of b u p).volume + (open_raising b u p + open_lowering b u p))
    exchanged_figures i h =
        let f = (each_at (UnitRanges b.rules.days) b.units (u - 1) no_unit s.formed.units (omega arith)).figures in
        let g = grown_rows rs (with_orders b os) u p n i (omega arith) in
        let a = raising_open in
        let l = lowering_open in
        (g.held, omega arith, omega arith, omega arith)

  pub moved_exchanged : (u : ℕ) → In 1 (length b.units) u → Moved b after u nothing
  moved_exchanged u i =
      record {
        days = refl;
        kind = keeps.kind u;
        capacity = keeps.capacity u;
        asset = keeps.asset u;
        raising = λ p h. let g = exchanged_figures u p i h in omega arith;
        lowering = λ p h k. let g = exchanged_figures u p i h in omega arith;
        volume = λ p h. let g = exchanged_figures u p i h in omega arith;
      }

  pub exchanged_sound : length os ≤ most_orders → phase ≤ rolling_phase → (phase ≡ rolling_phase → each_two apart os ≡ true) → sound (in_phase traded phase) ≡ true
  exchanged_sound few low far =
      ap (λ (y : Book). sound (in_phase y phase)) keeps.rest
      ∙ sound-holds after (record {
        formed = formed_left most b after few left s.formed;
        fits = λ u i. let j : In 1 (length b.units) u = omega (arith, keeps.count) in fits_after b after u nothing (moved_exchanged u j) (s.fits u j);
      })
    where
      left : Remaining b after
      left =
          let h = s.formed.head in
          record {
            names = record {
              days = refl;
              floor = refl;
              ceiling = refl;
              given = omega arith;
              count = omega (arith, keeps.count);
              kinds = λ u i. keeps.kind
                  u;
            };
            phase = low;
            given = h.given;
            most = omega (arith, keeps.count);
            units = keeps.ranges b.rules.days s.formed.units;
            offers = remains-all LessOffer same_offer b.offers;
            orders = r;
            apart = far;
          }
