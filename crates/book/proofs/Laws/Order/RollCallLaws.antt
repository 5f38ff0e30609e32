-- An order in the rolling phase in memory: what each step asks for, and the book that they come to.
use Rattle.std.proofs.Common.{◌≡◌, ℕ, ◌+◌, ◌-◌, ◌*◌, ◌<◌, ◌≤◌, min, Bool, true, eqb, List, [], ◌∷◌, ◌++◌, length, get_or, sym, ap, ◌∙◌, arith, ltb-false}
use lib.ListN.{length-map}
use Rattle.measures.specs.Lists.{Each, Has, keep}
use Rattle.measures.proofs.ListLaws.{cond_case}
use Rattle.matching.specs.Orders.{Order as OpenOrder, Row, leaving, order_with}
use Rattle.matching.specs.Memory.{orders_in, written, row_at, rows_in}
use Rattle.matching.specs.Rolling.{Match, Met, meet, matches, counterparts, candidate, ahead_for, match_row}
use Rattle.matching.proofs.Laws.Lists.EachLaws.{each_at, each_has, has_each}
use Rattle.matching.proofs.Laws.Lists.SumLaws.{sum_of_has}
use Rattle.matching.proofs.Laws.Orders.OrderLaws.{orders_length}
use Rattle.matching.proofs.Laws.Orders.RowLaws.{written-length}
use Rattle.matching.proofs.Laws.Orders.LaidLaws.{laid-length}
use Rattle.matching.proofs.Laws.Rolling.RollingLaws.{Sides, row_sides, traded_and_left}
use Rattle.book.specs.Book.{Book, numbered}
use Rattle.book.specs.Trades.{rows_booked}
use Rattle.book.specs.Layout.{
  DAYS,
  PHASE,
  GIVEN,
  UNITS,
  OFFERS,
  ORDERS,
  amounts_start,
  figure_place,
  RAISED,
  LOWERED,
  VOLUME,
  word,
  orders_part,
  decode,
  Aside,
}
use Rattle.book.specs.Refusals.{first_refusal}
use Rattle.book.specs.Inner.Readable.{Readable}
use Rattle.book.specs.Contract.{sound_in}
use Rattle.book.specs.Inner.RowsIn.{Small, small_figures, RowFits, RowsFit, RowsTraded}
use Rattle.book.specs.Order.{order_checks, order_refusal, new_order, waiting}
use Rattle.book.specs.Inner.Ordering.{OrdersPut, Rolled, RolledOn}
use Rattle.book.proofs.Laws.Memory.RangeFacts.{units_held, orders_held, phase_held, days_held, given_held}
use Rattle.book.proofs.Laws.Check.NumberLaws.{orders_from}
use Rattle.book.proofs.Laws.Answer.MadeLaws.{sound-book, sound_readable, chain_sound}
use Rattle.book.proofs.Laws.Answer.RefusalLaws.{none_applies}
use Rattle.book.proofs.Laws.Sound.SoundLaws.{Sound, sound_facts}
use Rattle.matching.proofs.Laws.Lists.RemainLaws.{remains-length}
use Rattle.matching.proofs.Laws.Orders.LeftLaws.{LessOrder, met_remain}
use Rattle.book.proofs.Laws.Order.OrderingLaws.{OrderPassed, call_needs, rest_needs, order_passed}
use Rattle.book.proofs.Laws.Order.LeftLaws.{TwoUnits}
use Rattle.book.proofs.Laws.Order.RolledLaws.{rolled_few, rolled_two_units}
use Rattle.book.proofs.Laws.Rows.SmallLaws.{sound-small, row_written, rows_written}
use Rattle.book.proofs.Laws.Rows.BookingLaws.{kept_aside}
use Rattle.book.proofs.Laws.Memory.WordLaws.{aside_then}
use Rattle.book.proofs.Laws.Order.WaitLaws.{put_decoded, put_aside, new_order_lem}

abbrev no_row : Row
no_row = record { way = 0; period = 0; seller = 0; buyer = 0; quantity = 0; price = 0 }

-- no more rows than orders
matches-length : (q : ℕ) (cs : List OpenOrder) → length (matches q cs) ≤ length cs
unfolding matches
matches-length q [] = omega arith
matches-length q (o ∷ os) =
    let t = matches-length (q - min q o.quantity) os in
    cond_case (λ (l : List Match). length l ≤ length (o ∷ os)) (eqb q 0) [] (record { order = o; quantity = min q o.quantity }
    ∷ matches (q - min q o.quantity) os) (λ e. omega arith) (λ e. omega arith)

kept_fewer : (f : OpenOrder → Bool) (l : List OpenOrder) → length (keep f l) ≤ length l
kept_fewer f [] = omega arith
kept_fewer f (x ∷ xs) =
    let t = kept_fewer f xs in
    cond_case (λ (l : List OpenOrder). length l ≤ length (x ∷ xs)) (f x) (x ∷ keep f xs) (keep f xs) (λ e. omega arith) (λ e. omega arith)

rows_few : (i : OpenOrder) (os : List OpenOrder) → length (meet i os).rows ≤ length os
unfolding meet counterparts
rows_few i os =
    let a = length-map (matches i.quantity (counterparts i os)) (match_row i) in
    let b = matches-length i.quantity (counterparts i os) in
    let c = laid-length (ahead_for i) (keep (candidate i) os) in
    let d = kept_fewer (candidate i) os in
    omega arith

module _ (m rows : List ℕ) (u d p price q : ℕ) (e : sound_in m ≡ true) (z : 0 ≡ first_refusal (order_checks (decode m) u d p price q (length rows))) where
  abbrev arrived : OpenOrder
  arrived = new_order (decode m) u d p price q

  abbrev met : Met
  met = meet arrived (decode m).orders

  facts : Sound (decode m)
  facts = sound_facts (decode m) (sound-book m e)

  passed : OrderPassed (decode m) u d p price q
  unfolding order_refusal
  passed = order_passed (decode m) u d p price q (length rows) facts
      (chain_sound (decode m) (order_checks (decode m) u d p price q (length rows)) (sound-book m e) ∙ sym z)

  pub rows_lent : 4464 ≤ length rows
  rows_lent =
      ltb-false (length rows) 4464
      (none_applies (order_checks (decode m) u d p price q (length rows)) (
        omega arith,
        (
          omega arith,
          (
            omega arith,
            (
              omega arith,
              (omega arith, (omega arith, (omega arith, (omega arith, (omega arith, (omega arith, (omega arith, (omega arith, (omega arith, tt))))))))),
            ),
          ),
        ),
      )
      (sym z)).1.0

  pub number_left : word m GIVEN < 65535
  number_left = let t = passed.left in omega (arith, given_held m)

  pub orders_left : word m PHASE ≡ 0 → word m ORDERS < 256
  orders_left c = let t = passed.room (call_needs (decode m) arrived (phase_held m ∙ c)) in omega (arith, orders_held m)

  each_fits : Each (RowFits m) met.rows
  each_fits = each_has (RowFits m) met.rows one
    where
      one : (r : Row) → Has r met.rows → RowFits m r
      one r h =
          let t = has_each (TwoUnits (length (decode m).units)) met.rows r (rolled_two_units (decode m) u d p price q facts passed) h in
          let s = (has_each (Sides arrived (decode m).orders) met.rows r (row_sides arrived (decode m).orders) h).period in
          let k = passed.ranges.period in
          let g = passed.ranges.energy in
          let x = sum_of_has (λ (y : Row). y.quantity) met.rows r h in
          let w = traded_and_left arrived (decode m).orders in
          let n = units_held m in
          let v = days_held m in
          record { period = omega arith; seller_from = t.0.0; seller_to = omega arith; buyer_from = t.1.0; buyer_to = omega arith; quantity = omega arith }

  -- o is that order, as it met those that stand open
  module _ (o : OpenOrder) (is : o ≡ order_with (word m GIVEN + 1) u d p price q) (x rows' : List ℕ) (left count : ℕ) (h : Rolled m x rows rows' o left count) where
    o_is : o ≡ arrived
    o_is = is ∙ sym (new_order_lem m u d p price q)

    met_is : meet o (orders_in (orders_part m) (word m ORDERS)) ≡ met
    met_is = ap (λ (y : OpenOrder). meet y (orders_in (orders_part m) (word m ORDERS))) o_is ∙ ap (meet arrived) (sym (orders_from m))

    handed_is : rows' ≡ written rows met.rows
    handed_is = h.handed ∙ ap (λ (t : Met). written rows t.rows) met_is

    count_is : count ≡ length met.rows
    count_is = h.count ∙ ap (λ (t : Met). length t.rows) met_is

    orders_is : orders_in (orders_part x) (word x ORDERS) ≡ met.orders
    orders_is = h.orders.orders ∙ ap (λ (t : Met). t.orders) met_is

    pub rest_room : (amounts_start ≤ length x) × (0 < left → word x ORDERS < 256)
    rest_room = let r = sound_readable m e in let l = h.orders.long in (omega arith, room)
      where
        room : 0 < left → word x ORDERS < 256
        room some =
            let a = orders_length (orders_part x) (word x ORDERS) in
            let b = ap (λ (t : List OpenOrder). length t) orders_is in
            let c = remains-length LessOrder (met_remain arrived (decode m).orders) in
            let i = h.left ∙ ap (λ (t : Met). t.left) met_is in
            let k = passed.room (rest_needs (decode m) arrived (omega arith)) in
            omega arith

    module _ (y : List ℕ) (w : OrdersPut x y (orders_in (orders_part x) (word x ORDERS) ++ waiting (leaving o left))) where
      both_put : OrdersPut m y (met.orders ++ waiting (leaving arrived met.left))
      both_put =
          record {
            long = w.long ∙ h.orders.long;
            low = λ i l n. w.low i l n ∙ h.orders.low i l n;
            high = λ i l. w.high i l ∙ h.orders.high i l;
            orders =
                w.orders
                ∙ ap (λ (t : List OpenOrder). t ++ waiting (leaving o left)) orders_is
                ∙ ap (λ (t : ℕ). met.orders ++ waiting (leaving o t)) (h.left ∙ ap (λ (t : Met). t.left) met_is)
                ∙ ap (λ (t : OpenOrder). met.orders ++ waiting (leaving t met.left)) o_is;
          }

      head_same : (i : ℕ) → i < 7 → word y i ≡ word m i
      head_same i l = both_put.low i (omega arith) (omega arith)

      waits_readable : Readable y
      waits_readable =
          let r = sound_readable m e in
          let l = both_put.long in
          let a = orders_length (orders_part y) (word y ORDERS) in
          let b = ap (λ (t : List OpenOrder). length t) both_put.orders in
          let k = rolled_few (decode m) u d p price q facts passed in
          let h0 = head_same DAYS (omega arith) in
          let h5 = head_same UNITS (omega arith) in
          let h6 = head_same OFFERS (omega arith) in
          record { days_from = omega arith; days_to = omega arith; units_to = omega arith; offers_to = omega arith; orders_to = omega arith; long = omega arith }

      waits_small : Small y small_figures
      waits_small k i hk hi =
          let h0 = head_same DAYS (omega arith) in
          let h5 = head_same UNITS (omega arith) in
          let t = sound-small m e k i (omega arith) (omega arith) in
          let a = both_put.high (figure_place k i + RAISED) (omega arith) in
          let b = both_put.high (figure_place k i + LOWERED) (omega arith) in
          let c = both_put.high (figure_place k i + VOLUME) (omega arith) in
          record { raised = omega arith; lowered = omega arith; volume = omega arith }

      waits_rows : RowsFit y rows' count
      waits_rows k hk =
          let n = count_is in
          let f = each_at (RowFits m) met.rows k no_row each_fits (omega arith) in
          let g : row_at rows' k ≡ get_or met.rows k no_row = ap (λ (l : List ℕ). row_at l k) handed_is ∙ row_written rows met.rows k (omega arith) in
          let a = ap (λ (r : Row). r.period) g in
          let b = ap (λ (r : Row). r.seller) g in
          let c = ap (λ (r : Row). r.buyer) g in
          let v = ap (λ (r : Row). r.quantity) g in
          let h0 = head_same DAYS (omega arith) in
          let h5 = head_same UNITS (omega arith) in
          record {
            period = omega arith;
            seller_from = omega arith;
            seller_to = omega arith;
            buyer_from = omega arith;
            buyer_to = omega arith;
            quantity = omega
                arith;
          }

      -- what booking the rows asks
      pub booking_room : (Readable y) × (6 * count ≤ length rows') × (count ≤ 744) × (RowsFit y rows' count) × (Small y small_figures)
      booking_room =
          let n = count_is in
          let a = rows_few arrived (decode m).orders in
          let b = orders_held m in
          let c = (sound_readable m e).orders_to in
          let l = rows_lent in
          let s : length rows' ≡ length rows = ap (λ (t : List ℕ). length t) handed_is ∙ written-length rows met.rows (omega arith) in
          (waits_readable, omega arith, omega arith, waits_rows, waits_small)

      module _ (v : List ℕ) (k : RowsTraded y v rows' count) where
        pub number_room : (amounts_start ≤ length v) × (word m GIVEN + 1 ≡ word v GIVEN + 1)
        number_room =
            let a = k.kept.long in
            let b = k.kept.head GIVEN (omega arith) in
            let c = head_same GIVEN (omega arith) in
            let f = both_put.long in
            let g = sound_readable m e in
            (omega arith, omega arith)

        pub rolled_on : (t : List ℕ) → decode t ≡ numbered (decode v) → Aside v t
            → RolledOn m rows u d p price q count t rows'
        rolled_on t f g =
            let r = sound_readable m e in
            record {
              book =
                  f
                  ∙ ap numbered k.book
                  ∙ ap (λ (rs : List Row). numbered (rows_booked rs (decode y))) (ap (λ (l : List ℕ). rows_in l count) handed_is
                  ∙ ap (λ (n : ℕ). rows_in (written rows met.rows) n) count_is ∙ rows_written rows met.rows)
                  ∙ ap (λ (b : Book). numbered (rows_booked met.rows b)) (put_decoded m y (met.orders
                  ++ waiting (leaving arrived met.left)) both_put r.units_to r.offers_to);
              handed = handed_is;
              count = count_is;
              aside =
                  aside_then m y t (head_same DAYS (omega arith)) (put_aside m y (met.orders ++ waiting (leaving arrived met.left)) both_put)
                  (aside_then y v t (k.kept.head DAYS (omega arith)) (kept_aside y v k.kept) g);
            }
