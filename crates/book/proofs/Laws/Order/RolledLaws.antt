-- Order in the rolling phase leaves a sound book: as if it first only waited, and then traded.
use Rattle.std.proofs.Common.{◌≡◌, ℕ, ◌+◌, ◌-◌, ◌<◌, ◌≤◌, Bool, true, false, cond, eqb, ◌⊎◌, List, [], ◌∷◌, ◌++◌, length, get_or, set, refl, sym}
use Rattle.std.proofs.Common.{sym, ap, ◌∙◌, inl, inr, append-nil, arith, length-append, eq-eqb, ne_eqb, le-leb}
use native.Mathlib.Decide.{ℕ_discrete, dec_lt}
use Rattle.measures.specs.Lists.{Each}
use Rattle.measures.proofs.ListLaws.{not_both, cond_zero}
use Rattle.matching.specs.Orders.{Order as OpenOrder, Row, leaving}
use Rattle.matching.specs.Rolling.{Met, candidate, meet}
use Rattle.matching.proofs.Laws.Lists.EachLaws.{each_map, has_each}
use Rattle.matching.proofs.Laws.Rolling.RollingLaws.{Sides, row_sides, traded_and_left, nothing_crosses_after}
use Rattle.matching.proofs.Laws.Orders.ExchangeLaws.{is_of, open_of, Exchanged}
use Rattle.matching.proofs.Laws.Rolling.MetLaws.{met_exchanged}
use Rattle.matching.proofs.Laws.Orders.LeftLaws.{LessOrder, same_order, remains_append, met_remain}
use Rattle.book.specs.Book.{EnrolledUnit, no_unit, Book, call_phase, rolling_phase, most_orders, with_units, with_orders, in_phase, numbered}
use Rattle.book.specs.Trades.{unit_traded, booked, row_booked, rows_booked}
use Rattle.book.specs.Fit.{Declaration, open_raising, open_lowering, nothing}
use Rattle.book.specs.Sound.{apart, each_two, sound}
use Rattle.book.specs.Order.{order_declares, order_refusal, new_order, waiting, ordered_in_rolling, ordering}
use Rattle.matching.proofs.Laws.Lists.RemainLaws.{each_holds, Remains, ended, gone, kept, remains-all, remains-length}
use Rattle.book.proofs.Laws.Sound.FitLaws.{Fits}
use Rattle.book.proofs.Laws.Sound.SoundLaws.{OrderRanges, SoundUpTo, Sound, sound_facts}
use Rattle.book.proofs.Laws.Answer.RefusalLaws.{decided-sound}
use Rattle.book.proofs.Laws.Sound.FormedLaws.{LessOffer, same_offer, order_after, two_remain, formed_remaining}
use Rattle.book.proofs.Laws.Sound.DeclareLaws.{with_order, two_more, formed_order}
use Rattle.book.proofs.Laws.Order.OrderingLaws.{Follows, OrderPassed, rest_needs, order_passed, one_direction_beside, order_fits}
use Rattle.book.proofs.Laws.Rows.TradeLaws.{kept_rows}
use Rattle.book.proofs.Laws.Rows.ExchangedLaws.{exchanged_sound}
use Rattle.book.proofs.Laws.Order.LeftLaws.{Far, far_apart, TwoUnits, two_named}

-- rows change the units alone, whatever else the book holds
pub rows_units : (rs : List Row) (b c : Book) → b.units ≡ c.units → (rows_booked rs b).units ≡ (rows_booked rs c).units
unfolding rows_booked booked
rows_units [] b c e = e
rows_units (r ∷ rs) b c e = rows_units rs (row_booked r b) (row_booked r c) (one 1 r.buyer (one 0 r.seller e))
  where
    one : (d v : ℕ) {xs ys : List EnrolledUnit} → xs ≡ ys
        → set xs (v - 1) (unit_traded r.way d r.period r.quantity (get_or xs (v - 1) no_unit))
        ≡ set ys (v - 1) (unit_traded r.way d r.period r.quantity (get_or ys (v - 1) no_unit))
    one d v e = ap (λ (us : List EnrolledUnit). set us (v - 1) (unit_traded r.way d r.period r.quantity (get_or us (v - 1) no_unit))) e

-- limits do not look at the phase
fits_in_phase : (b : Book) (phase u : ℕ) (d : Declaration) → Fits b u d → Fits (in_phase b phase) u d
unfolding open_raising open_lowering
fits_in_phase b phase u d f = record { raising = f.raising; lowering = f.lowering; term = f.term; volume = f.volume }

-- in the call phase orders may cross
in_call_sound : (b : Book) → Sound b → Sound (in_phase b call_phase)
in_call_sound b s =
    let h = s.formed.head in
    record {
      formed =
          formed_remaining b (in_phase b call_phase) (record {
            names = record { days = refl; floor = refl; ceiling = refl; given = omega arith; count = omega arith; kinds = λ u i. refl };
            phase = omega arith;
            given = h.given;
            most = h.units;
            units = s.formed.units;
            offers = remains-all LessOffer same_offer b.offers;
            orders = remains-all LessOrder same_order b.orders;
            apart = λ r. absurd (omega arith);
          }) s.formed;
      fits = λ u i. fits_in_phase b call_phase u nothing (s.fits u i);
    }

-- an order that is no candidate does not cross
module _ (i x : OpenOrder) (e : candidate i x ≡ false) where
  far_behind : Far i x
  unfolding candidate
  far_behind buy sale same = go (dec_lt i.price x.price)
    where
      go : Dec (i.price < x.price) → i.price < x.price
      go (yes l) = l
      go (no l) = absurd (not_both (candidate i x) (rw (
        eq-eqb x.period i.period (sym same),
        eq-eqb i.direction 1 buy,
        eq-eqb
            x.direction 0 sale,
      ) (le-leb x.price i.price (omega arith))) e)

  far_before : Far x i
  unfolding candidate
  far_before buy sale same = go (dec_lt x.price i.price)
    where
      go : Dec (x.price < i.price) → x.price < i.price
      go (yes l) = l
      go (no l) =
          absurd
          (not_both (candidate i x)
          (rw (eq-eqb x.period i.period same, ne_eqb i.direction 1 (omega arith), eq-eqb i.direction 0 sale, eq-eqb x.direction 1 buy)
          (le-leb i.price x.price (omega arith))) e)

-- what waits of an order
module _ (o : OpenOrder) (left : ℕ) where
  waiting_case : (P : List OpenOrder → Type 0) → (left ≡ 0 → P []) → (0 < left → P (leaving o left ∷ [])) → P (waiting (leaving o left))
  unfolding waiting
  waiting_case P h k = go (ℕ_discrete left 0)
    where
      go : Dec (left ≡ 0) → P (cond (eqb left 0) [] (leaving o left ∷ []))
      go (yes e) = rw (eq-eqb left 0 e) (h e)
      go (no n) = rw (ne_eqb left 0 n) (k (omega arith))

  waiting-remains : left ≤ o.quantity → Remains LessOrder (waiting (leaving o left)) (o ∷ [])
  waiting-remains h =
      waiting_case (λ l. Remains LessOrder l (o ∷ [])) (λ e. gone ended)
      (λ some. let k : LessOrder (leaving o left) o = record { left = left; is = refl; fewer = h; some = λ q. some } in kept k ended)

  waiting_open : (f : ℕ → Bool) (u p : ℕ) → open_of f u p (waiting (leaving o left)) ≡ cond (is_of f u p o) left 0
  waiting_open f u p =
      waiting_case (λ l. open_of f u p l ≡ cond (is_of f u p o) left 0) (λ e. rw e (sym (cond_zero (is_of f u p o)))) (λ some. omega arith)

module _ (b : Book) (u d p price q : ℕ) (s : Sound b) (a : OrderPassed b u d p price q) where
  abbrev incoming : OpenOrder
  incoming = new_order b u d p price q

  abbrev met : Met
  met = meet incoming b.orders

  abbrev left : List OpenOrder
  left = met.orders ++ waiting (leaving incoming met.left)

  -- the book where the order only waits
  abbrev waited : Book
  waited = with_order (in_phase b call_phase) incoming

  waited_ranges : OrderRanges waited incoming
  waited_ranges =
      order_after (with_order b incoming) waited (record {
        days = refl;
        floor = refl;
        ceiling = refl;
        given = omega arith;
        count = omega arith;
        kinds = λ v i. refl;
      }) incoming incoming (same_order incoming) a.ranges

  -- one order more may stand there than there are places
  waited-sound : SoundUpTo (most_orders + 1) waited
  waited-sound =
      let c = in_call_sound b s in
      let h = s.formed.head.orders in
      record {
        formed = formed_order (most_orders + 1) (in_phase b call_phase) incoming c.formed waited_ranges refl (omega arith) a.left
            (one_direction_beside incoming b.orders a.follows) (λ r. absurd (omega arith));
        fits = order_fits (in_phase b call_phase) u d p price q c (fits_in_phase b call_phase u (order_declares b u d p q) a.fits);
      }

  rolled_remains : Remains LessOrder left waited.orders
  rolled_remains =
      let t = traded_and_left incoming b.orders in
      remains_append LessOrder (met_remain incoming b.orders) (waiting-remains incoming met.left (omega arith))

  -- what waits has a place
  pub rolled_few : length left ≤ most_orders
  rolled_few =
      let h = s.formed.head.orders in
      let k = remains-length LessOrder (met_remain incoming b.orders) in
      waiting_case incoming met.left (λ l. length (met.orders ++ l) ≤ most_orders) (λ e. rw append-nil (omega arith))
      (λ some. let r = a.room (rest_needs b incoming some) in omega (arith, length-append met.orders (leaving incoming met.left ∷ [])))

  rolled_exchanged : Exchanged waited.orders left met.rows
  rolled_exchanged = met_exchanged incoming b.orders (waiting (leaving incoming met.left)) s.formed.orders_rise a.ranges.direction
      (waiting_open incoming met.left)

  -- a row is between the incoming order's unit and another: none of its own orders goes the other way
  pub rolled_two_units : Each (TwoUnits (length b.units)) met.rows
  rolled_two_units = each_map (Sides incoming b.orders) (TwoUnits (length b.units)) met.rows two (row_sides incoming b.orders)
    where
      two : (r : Row) → Sides incoming b.orders r → TwoUnits (length b.units) r
      two r x = go x.incoming
        where
          waits : OrderRanges b x.waiting
          waits = has_each (OrderRanges b) b.orders x.waiting s.formed.orders x.waits

          follows : Follows u d p x.waiting
          follows = has_each (Follows u d p) b.orders x.waiting a.follows x.waits

          same_direction : (y z : OpenOrder) → y ≡ x.waiting → z ≡ incoming → y.unit ≡ z.unit → y.period ≡ z.period → y.direction ≡ z.direction
          same_direction y z e f unit period =
              ap (λ (o : OpenOrder). o.direction) e
              ∙ follows (sym (ap (λ (o : OpenOrder). o.unit) e) ∙ unit ∙ ap (λ (o : OpenOrder). o.unit) f) (sym (ap (λ (o : OpenOrder). o.period) e)
              ∙ period ∙ ap (λ (o : OpenOrder). o.period) f)
              ∙ sym (ap (λ (o : OpenOrder). o.direction) f)

          go : ((x.sale ≡ x.waiting) × (x.buy ≡ incoming)) ⊎ ((x.sale ≡ incoming) × (x.buy ≡ x.waiting)) → TwoUnits (length b.units) r
          go (inl w) = (
            rw (x.seller, w.0) waits.unit,
            rw (x.buyer, w.1) a.ranges.unit,
            λ e. let k = same_direction x.sale x.buy w.0 w.1 (sym x.seller ∙ e
                ∙ x.buyer) x.opposite.period in let y = x.opposite in omega arith,
          )
          go (inr w) = (
            rw (x.seller, w.0) a.ranges.unit,
            rw (x.buyer, w.1) waits.unit,
            λ e. let k = same_direction x.buy x.sale w.1 w.0 (sym x.buyer ∙ sym e
                ∙ x.seller) (sym x.opposite.period) in let y = x.opposite in omega arith,
          )

  rolled_apart : b.phase ≡ rolling_phase → each_two apart left ≡ true
  rolled_apart r =
      waiting_case incoming met.left (λ l. each_two apart (met.orders ++ l) ≡ true) (λ e. rw append-nil before)
      (λ some.
      let h = nothing_crosses_after incoming b.orders s.formed.orders_rise some in
      let o = leaving incoming met.left in
      two_more apart met.orders o before
      (each_holds (apart o) (λ x. candidate incoming x ≡ false) (λ x e. far_apart o x (far_behind incoming x e)) met.orders h)
      (each_holds (λ x. apart x o) (λ x. candidate incoming x ≡ false) (λ x e. far_apart x o (far_before incoming x e)) met.orders h)
      (far_apart o o (λ buy sale same. absurd (omega arith))))
    where
      before : each_two apart met.orders ≡ true
      before = two_remain apart (λ x y k l. refl) met.orders b.orders (met_remain incoming b.orders) (s.formed.apart r)

  -- the same book, whether the order first waited or not
  rolled_book : numbered (rows_booked met.rows (with_orders b left)) ≡ in_phase (rows_booked met.rows (with_orders waited left)) b.phase
  rolled_book =
      ap numbered (kept_rows met.rows (with_orders b left)).rest
      ∙ ap (λ (us : List EnrolledUnit). numbered (with_units (with_orders b left) us)) (rows_units met.rows (with_orders b left) (with_orders waited left) refl)
      ∙ ap (λ (c : Book). in_phase c b.phase) (sym (kept_rows met.rows (with_orders waited left)).rest)

  pub rolled_sound : sound (ordered_in_rolling b incoming).book ≡ true
  rolled_sound =
      ap sound rolled_book
      ∙ exchanged_sound (most_orders + 1) waited left met.rows b.phase waited-sound rolled_remains rolled_exchanged
      (two_named (length b.units) met.rows rolled_two_units) rolled_few s.formed.head.phase rolled_apart

-- "Rolling phase: it meets opposite orders of its period"
pub ordering_in_rolling_sound : (b : Book) (u d p price q lent : ℕ) → (b.phase ≡ call_phase → ⊥) → sound b ≡ true
    → sound (ordering b u d p price q lent).book ≡ true
unfolding ordering
ordering_in_rolling_sound b u d p price q lent n e =
    decided-sound (order_refusal b u d p price q lent) b _ e
    (λ z. let s = sound_facts b e in rw (ne_eqb b.phase call_phase n) (rolled_sound b u d p price q s (order_passed b u d p price q lent s z)))
