-- The rows of a take fit the book that they are entered in, which has the offers that the take leaves.
use Rattle.std.proofs.Common.{◌≡◌, ℕ, ◌+◌, ◌-◌, ◌*◌, ◌<◌, ◌≤◌, true, List, length, get_or, take, sym, ap, ◌∙◌, subst, arith}
use Rattle.measures.proofs.RangeLaws.{In}
use Rattle.matching.specs.Orders.{Row}
use Rattle.matching.specs.Memory.{written, row_at, rows_in}
use Rattle.matching.proofs.Laws.Orders.RowLaws.{written-length}
use Rattle.book.specs.Book.{Figures, OpenOffer, Book, figures_of, with_offers}
use Rattle.book.specs.Trades.{rows_booked}
use Rattle.book.specs.Take.{take_rows}
use Rattle.book.specs.Layout.{DAYS, UNITS, OFFERS, ORDERS, word, figures_at, offer_at, decode, Aside}
use Rattle.book.specs.Contract.{sound_in}
use Rattle.book.specs.Inner.Readable.{Readable}
use Rattle.book.specs.Inner.RowsIn.{Small, RowFits, RowsFit, small_figures, RowsTraded, RowsPut, PartsThere}
use Rattle.book.proofs.Laws.Memory.RangeFacts.{units_held, offers_held, orders_held, days_held}
use Rattle.book.proofs.Laws.Answer.MadeLaws.{sound_readable}
use Rattle.book.proofs.Laws.Rows.SmallLaws.{no_row, row_written, rows_written, sound-small, figures_at_lem}
use Rattle.book.proofs.Laws.Memory.WordLaws.{aside_then}
use Rattle.book.proofs.Laws.Rows.BookingLaws.{kept_aside}
use Rattle.book.proofs.Laws.Take.EnterLaws.{take_fits, take_few}

module _ (m : List ℕ) (u j : ℕ) (l : List ℕ) (s : sound_in m ≡ true) (hj : j < word m OFFERS) (hu : In 1 (word m UNITS) u) (room : 744
    ≤ length l) (pt : PartsThere m j l)
    (x : List ℕ) (os : List OpenOffer) (dx : decode x ≡ with_offers (decode m) os) (few : length os ≤ length (decode m).offers) (lx : length x
    ≡ length m) where
  abbrev rs : List Row
  rs = take_rows (decode m) (offer_at m (word m DAYS) j) u (take (24 * word m DAYS) l)

  w0 : word x DAYS ≡ word m DAYS
  w0 = sym (days_held x) ∙ ap (λ (b : Book). b.rules.days) dx ∙ days_held m

  w5 : word x UNITS ≡ word m UNITS
  w5 = sym (units_held x) ∙ ap (λ (b : Book). length b.units) dx ∙ units_held m

  w6 : word x OFFERS ≤ word m OFFERS
  w6 =
      let a : word x OFFERS ≡ length os = sym (offers_held x) ∙ ap (λ (b : Book). length b.offers) dx in
      let e = offers_held m in
      omega arith

  w7 : word x ORDERS ≡ word m ORDERS
  w7 = sym (orders_held x) ∙ ap (λ (b : Book). length b.orders) dx ∙ orders_held m

  can_read : Readable x
  can_read =
      let g = sound_readable m s in
      let a = g.days_from in
      let b = g.days_to in
      let c = g.units_to in
      let d = g.offers_to in
      let e = g.orders_to in
      let f = g.long in
      record {
        days_from = omega (arith, w0);
        days_to = omega (arith, w0);
        units_to = omega (arith, w5);
        offers_to = omega (arith, w6);
        orders_to = omega
            (arith, w7);
        long = omega (arith, w0, lx);
      }

  -- the figures are as they were
  figures_kept : (v p : ℕ) → v < word m UNITS → p < 24 * word m DAYS → figures_at x v p ≡ figures_at m v p
  figures_kept v p hv hp =
      let i : v + 1 - 1 ≡ v = omega arith in
      ap (λ (k : ℕ). figures_at x k p) (sym i) ∙ sym (figures_at_lem x (v + 1) p (omega arith, omega (arith, w5)) (omega (arith, w0)))
      ∙ ap (λ (b : Book). figures_of b (v + 1) p) dx
      ∙ figures_at_lem m (v + 1) p (omega arith, omega arith) hp ∙ ap (λ (k : ℕ). figures_at m k p) i

  little : Small x small_figures
  little v p hv hp =
      let hv' : v < word m UNITS = omega (arith, w5) in
      let hp' : p < 24 * word m DAYS = omega (arith, w0) in
      let t = sound-small m s v p hv' hp' in
      let f = figures_kept v p hv' hp' in
      let a = ap (λ (y : Figures). y.raised) f in
      let b = ap (λ (y : Figures). y.lowered) f in
      let c = ap (λ (y : Figures). y.volume) f in
      record { raised = omega arith; lowered = omega arith; volume = omega arith }

  pub enter_asks : (lent out : List ℕ) (k : ℕ) → RowsPut lent out k rs → 4464 ≤ length lent → (Readable x) × (6 * k ≤ length out) × (k ≤ 744)
      × (RowsFit x out k) × (Small x small_figures)
  enter_asks lent out k r big =
      let few = take_few m u j l s hj hu room pt in
      let c = r.count in
      let same : length out ≡ length lent = ap (λ (z : List ℕ). length z) r.rows ∙ written-length lent rs (omega arith) in
      (can_read, omega arith, omega arith, fit, little)
    where
      fit : RowsFit x out k
      fit i h =
          let c = r.count in
          let h' : i < length rs = omega arith in
          let t = take_fits m u j l s hj hu room pt i h' in
          let y : RowFits x (get_or rs i no_row) =
          record {
            period = omega (arith, w0);
            seller_from = t.seller_from;
            seller_to = omega (arith, w5);
            buyer_from = t.buyer_from;
            buyer_to = omega
                (arith, w5);
            quantity = t.quantity;
          } in
          subst (λ (z : Row). RowFits x z) (sym (ap (λ (z : List ℕ). row_at z i) r.rows ∙ row_written lent rs i h')) y

  pub entered : (y lent out : List ℕ) (k : ℕ) → RowsPut lent out k rs → RowsTraded x y out k → decode y ≡ rows_booked rs (with_offers (decode m) os)
  entered y lent out k r t =
      let q : rows_in out k ≡ rs = ap (λ (z : List ℕ). rows_in z k) r.rows ∙ ap (λ (z : ℕ). rows_in (written lent rs) z) r.count
      ∙ rows_written lent rs in
      t.book ∙ ap (λ (z : List Row). rows_booked z (decode x)) q ∙ ap (λ (z : Book). rows_booked rs z) dx

  pub entered_aside : (y out : List ℕ) (k : ℕ) → Aside m x → RowsTraded x y out k → Aside m y
  entered_aside y out k a t = aside_then m x y w0 a (kept_aside x y t.kept)
