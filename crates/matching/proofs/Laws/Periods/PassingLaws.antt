-- Clearing period by period on the orders' part: periods without an order are passed over, and the rows have room.
use Prim.Native.Nat.{ℕ, zero, suc, ◌+◌, ◌-◌, ◌*◌, ◌≤◌, ◌<◌}
use mathlib.Core.Path.{◌≡◌, refl, sym, ap, ◌∙◌}
use mathlib.Core.Bool.{true, false}
use mathlib.Core.List.{List, [], ◌++◌, append_assoc, append-nil}
use native.Mathlib.Omega.{arith}
use borrow.Author.Tests.{le-leb}
use borrow.Rule.Slice.PartMut.{put_mid}
use lib.ListN.{length, take, drop, length-append, length-take, length-drop, drop_of_length-le}
use lib.Seq.{take_at, drop_at, take_all, drop-drop}
use Rattle.measures.specs.Ranges.{most_energy}
use Rattle.measures.proofs.ListLaws.{both_ways}
use Rattle.matching.specs.declared.orders.Cleared.{Cleared as ClearedValue}
use Rattle.std.specs.Prelude.{Option, Some}
use Rattle.matching.specs.Orders.{Order, Row, rising, numbers, quantities}
use Rattle.matching.specs.Memory.{orders_in, flat, written}
use Rattle.matching.specs.Clearing.{Cleared, clear_period, clear_from}
use Rattle.matching.specs.Answers.{fit, clear_answer, Clears, fit_below, ClearsAll}
use Rattle.matching.proofs.Laws.Orders.OrderLaws.{orders_length}
use Rattle.matching.proofs.Laws.Orders.RowLaws.{flat-length, flat_append, written_none}
use Rattle.matching.proofs.Laws.Orders.FitLaws.{is_fit, below_is, below_gives}
use Rattle.matching.proofs.Laws.Clearing.RestLaws.{numbers_rise_after}
use Rattle.matching.specs.Inner.Periods.{Clearable, Stepped, PassedAll}
use Rattle.matching.proofs.Laws.Lists.RemainLaws.{remains-length, remains-sum}
use Rattle.matching.proofs.Laws.Orders.LeftLaws.{LessOrder, cleared_remain}
use Rattle.matching.proofs.Laws.Periods.RowCountLaws.{due_from, due_all, rows_and_due}

-- rows that stand, and then what is cleared
abbrev following : List Row → Cleared → Cleared
following done c = record { rows = done ++ c.rows; orders = c.orders }

follow_step : (done : List Row) (p n : ℕ) (os : List Order)
    → following done (clear_from p (suc n) os) ≡ following (done ++ (clear_period p os).rows) (clear_from (suc p) n (clear_period p os).orders)
unfolding clear_from
follow_step done p n os =
    let rest = clear_from (suc p) n (clear_period p os).orders in
    let make : List Row → Cleared = λ rs. record { rows = rs; orders = rest.orders } in
    ap make (sym (append_assoc done (clear_period p os).rows rest.rows))

follow_end : (done : List Row) (p : ℕ) (os : List Order) → following done (clear_from p 0 os) ≡ record { rows = done; orders = os }
unfolding clear_from
follow_end done p os =
    let make : List Row → Cleared = λ rs. record { rows = rs; orders = os } in
    ap make (append-nil done)

-- what clearing a period leaves is no more
after_fewer : (p : ℕ) (os : List Order) → length (clear_period p os).orders ≤ length os
after_fewer p os = remains-length LessOrder (cleared_remain p os)

after_less : (p : ℕ) (os : List Order) → quantities (clear_period p os).orders ≤ quantities os
after_less p os =
    remains-sum LessOrder (λ (o : Order). o.quantity) (λ (o : Order). o.quantity)
    (λ x y l. let e : x.quantity ≡ l.left = ap (λ (o : Order). o.quantity) l.is in let f = l.fewer in omega arith)
    (cleared_remain p os)

-- rows written behind others
module _ (d rows : List ℕ) (rs cs : List Row) (count k : ℕ) (e : length rs ≡ count) (w : rows ≡ written d rs) (fits : 6 * count + k ≡ length rows) where
  fl : length (flat rs) ≡ 6 * count
  fl = flat-length rs ∙ ap (λ (n : ℕ). 6 * n) e

  front : take (6 * count) rows ≡ flat rs
  unfolding written
  front = rw w (take_at (flat rs) (drop (6 * length rs) d) (6 * count) fl)

  back : drop (6 * count) rows ≡ drop (6 * length rs) d
  unfolding written
  back = rw w (drop_at (flat rs) (drop (6 * length rs) d) (6 * count) fl)

  whole : take k (drop (6 * count) rows) ≡ drop (6 * length rs) d
  whole = take_all k (drop (6 * count) rows) (rw (length-drop (6 * count) rows) (omega arith)) ∙ back

  nothing : drop k (drop (6 * count) rows) ≡ []
  nothing = drop_of_length-le (drop (6 * count) rows) {i = k} (rw (length-drop (6 * count) rows) (omega arith))

  written_behind : put_mid (6 * count) k rows (written (take k (drop (6 * count) rows)) cs) ≡ written d (rs ++ cs)
  unfolding written
  written_behind =
      let six : 6 * length (rs ++ cs) ≡ 6 * length rs + 6 * length cs = omega (arith, length-append rs cs) in
      rw (
        front,
        nothing,
        whole,
        six,
        flat_append rs cs,
        ← drop-drop (6 * length cs) (6 * length rs) d,
        append-nil (flat cs
            ++ drop (6 * length cs) (drop (6 * length rs) d)),
      )
      (sym (append_assoc (flat rs) (flat cs) (drop (6 * length cs) (drop (6 * length rs) d))))

-- clearing one period, its rows behind the others
module _ (m rows : List ℕ) (n p count : ℕ) (h : Clearable m rows n count) where
  abbrev part : List ℕ
  part = take (length rows - 6 * count) (drop (6 * count) rows)

  room : 6 * n ≤ length part
  room = let t = h.lent in simp (length-take, length-drop) (omega arith)

  pub fit_part : fit m n part ≡ true
  fit_part = is_fit m part n h.few h.inside room h.rises ∙ le-leb (quantities (orders_in m n)) most_energy h.small

  module _ (a : ClearedValue) (m' ys : List ℕ) (x : Clears m part n p (Some a) m' ys) where
    pub step_few : a.count ≤ 256
    step_few =
        let c = x.count fit_part in
        let t = rows_and_due p (orders_in m n) h.rises in
        let u = due_all p (orders_in m n) in
        let v = orders_length m n in
        let w = h.few in
        omega arith

    pub stepped : Stepped m rows n p count (count + a.count) a.standing m' (put_mid (6 * count) (length rows - 6 * count) rows ys)
    stepped =
        record {
          orders = x.orders fit_part;
          counted = ap (λ (k : ℕ). count + k) (x.count fit_part);
          handed = λ d rs l w. let t = h.lent in rw (x.handed fit_part)
              (written_behind d rows rs (clear_period p (orders_in m n)).rows count (length rows - 6 * count) l w (omega arith));
          past = x.past;
        }

-- where clearing stands: the rows so far, and what is still to be cleared from period p on
pub record Passing (m rows : List ℕ) (n end : ℕ) (m' rows' : List ℕ) (count n' p : ℕ) : Type 0 where
  pub done : List Row
  pub counted : length done ≡ count
  pub kept : rows' ≡ written rows done
  pub rest : following done (clear_from p (end - p) (orders_in m' n')) ≡ clear_from 0 end (orders_in m n)
  pub upto : p ≤ end
  pub fewer : n' ≤ n
  pub rises : rising (numbers (orders_in m' n')) ≡ true
  pub small : quantities (orders_in m' n') ≤ most_energy
  pub room : count + due_from p (orders_in m' n') ≤ n
  pub long : length m' ≡ length m
  pub lent : length rows' ≡ length rows
  pub past : drop (6 * n) m' ≡ drop (6 * n) m

module _ (m rows : List ℕ) (n end : ℕ) (h : Clearable m rows n n) where
  pub passing_start : Passing m rows n end m rows 0 n 0
  passing_start =
      let t = due_all 0 (orders_in m n) in
      let u = orders_length m n in
      let z : end - 0 ≡ end = omega arith in
      record {
        done = [];
        counted = refl;
        kept = written_none rows;
        rest = rw z refl;
        upto = omega arith;
        fewer = omega arith;
        rises = h.rises;
        small = h.small;
        room = omega arith;
        long = refl;
        lent = refl;
        past = refl;
      }

  module _ (m' rows' : List ℕ) (count n' : ℕ) where
    module _ (p : ℕ) (g : Passing m rows n end m' rows' count n' p) where
      -- a period is cleared
      pub passing_more : (count'' n'' : ℕ) (m'' rows'' : List ℕ) → p < end → Stepped m' rows' n' p count count'' n'' m'' rows'' → length m'' ≡ length m'
          → length rows'' ≡ length rows'
          → Passing m rows n end m'' rows'' count'' n'' (p + 1)
      passing_more count'' n'' m'' rows'' l s lm lr =
          let cs = (clear_period p (orders_in m' n')).rows in
          let b : suc p ≡ p + 1 = omega arith in
          let e1 = s.counted in
          let e2 = g.counted in
          let e3 = g.room in
          let e4 = g.fewer in
          let e5 = g.small in
          let t = rows_and_due p (orders_in m' n') g.rises in
          let u = after_fewer p (orders_in m' n') in
          let v = after_less p (orders_in m' n') in
          let x : length (orders_in m'' n'') ≡ length (clear_period p (orders_in m' n')).orders = ap length s.orders in
          let y = orders_length m'' n'' in
          let z = orders_length m' n' in
          let w : due_from (p + 1) (orders_in m'' n'') ≡ due_from (suc p) (clear_period p (orders_in m' n')).orders = rw (← b, s.orders) refl in
          let q : quantities (orders_in m'' n'') ≡ quantities (clear_period p (orders_in m' n')).orders = ap quantities s.orders in
          record {
            done = g.done ++ cs;
            counted = omega (arith, length-append g.done cs);
            kept = s.handed rows g.done g.counted g.kept;
            rest =
                rw (← b, s.orders)
                (sym (follow_step g.done p (end - suc p) (orders_in m' n'))
                ∙ ap (λ (k : ℕ). following g.done (clear_from p k (orders_in m' n'))) (omega arith)
                ∙ g.rest);
            upto = omega arith;
            fewer = omega arith;
            rises = rw s.orders (numbers_rise_after p (orders_in m' n') g.rises);
            small = omega arith;
            room = omega arith;
            long = lm ∙ g.long;
            lent = lr ∙ g.lent;
            past = later s.past ∙ g.past;
          }
        where
          later : drop (6 * n') m'' ≡ drop (6 * n') m' → drop (6 * n) m'' ≡ drop (6 * n) m'
          later e =
              let f = g.fewer in
              let d : 6 * n' + (6 * n - 6 * n') ≡ 6 * n = omega arith in
              rw (← d, ← drop-drop (6 * n - 6 * n') (6 * n') m'', ← drop-drop (6 * n - 6 * n') (6 * n') m', e) refl

      -- all periods are cleared
      pub passing_end : end ≤ p → PassedAll m rows n end count n' m' rows'
      passing_end l =
          let i = g.upto in
          let a : end - p ≡ 0 = omega arith in
          let t : record { rows = g.done; orders = orders_in m' n' } ≡ clear_from 0 end (orders_in m n) =
          sym (follow_end g.done p (orders_in m' n')) ∙ ap (λ (k : ℕ). following g.done (clear_from p k (orders_in m' n'))) (sym a) ∙ g.rest in
          let d : g.done ≡ (clear_from 0 end (orders_in m n)).rows = ap (λ (c : Cleared). c.rows) t in
          let b = g.room in
          record {
            orders = ap (λ (c : Cleared). c.orders) t;
            counted = sym g.counted ∙ ap length d;
            handed = g.kept ∙ ap (λ (rs : List Row). written rows rs) d;
            past = g.past;
          }

-- what the whole leaves: no more rows or orders than there were orders
from_rows_few : (p k : ℕ) (os : List Order) → rising (numbers os) ≡ true → length (clear_from p k os).rows ≤ due_from p os
unfolding clear_from
from_rows_few p zero os e = omega arith
from_rows_few p (suc k) os e =
    let c = clear_period p os in
    let t = from_rows_few (suc p) k c.orders (numbers_rise_after p os e) in
    let l = length-append c.rows (clear_from (suc p) k c.orders).rows in
    let r = rows_and_due p os e in
    omega arith

pub all-rows_few : (end : ℕ) (os : List Order) → rising (numbers os) ≡ true → length (clear_from 0 end os).rows ≤ length os
all-rows_few end os e = let t = from_rows_few 0 end os e in let u = due_all 0 os in omega arith

pub from_fewer : (p k : ℕ) (os : List Order) → length (clear_from p k os).orders ≤ length os
unfolding clear_from
from_fewer p zero os = omega arith
from_fewer p (suc k) os = let t = from_fewer (suc p) k (clear_period p os).orders in let u = after_fewer p os in omega arith

-- orders that fit can be cleared; others stay
module _ (m rows : List ℕ) (n end : ℕ) where
  pub clearable : fit_below m n end rows ≡ true → Clearable m rows n n
  clearable e =
      let w = below_gives m rows n end e in
      let f = w.0 in
      let l = w.1 in
      record { few = f.few; inside = f.inside; lent = omega arith; rises = f.rises; small = f.small }

  pub clearable_fits : Clearable m rows n n → end ≤ 744 → fit_below m n end rows ≡ true
  clearable_fits c l =
      let r = c.lent in
      let f : fit m n rows ≡ true = is_fit m rows n c.few c.inside (omega arith) c.rises ∙ le-leb (quantities (orders_in m n)) most_energy c.small in
      below_is m rows n end f (omega arith) ∙ le-leb end 744 l

  -- what the contract leaves where they fit
  pub all_gives : (a : Option ClearedValue) (count n' : ℕ) (m' rows' : List ℕ) → fit_below m n end rows ≡ true → ClearsAll m rows n end a m' rows'
      → (clear_answer a).count ≡ count → (clear_answer a).standing ≡ n' → PassedAll m rows n end count n' m' rows'
  all_gives a count n' m' rows' e c ec en =
      record {
        orders = rw en at (c.orders e);
        counted = sym ec ∙ c.count e;
        handed = c.handed e;
        past = c.past;
      }

  pub all_fit : {X : Type 0} (a : Option ClearedValue) (m' rows' : List ℕ) → fit_below m n end rows ≡ true → ClearsAll m rows n end a m' rows'
      → (clear_answer a).fits ≡ false → X
  all_fit a m' rows' e c f = both_ways (sym e ∙ sym c.fits ∙ f)

  module _ (count n' : ℕ) (m' rows' : List ℕ) (g : PassedAll m rows n end count n' m' rows') where
    pub passed_fewer : n' ≤ n
    passed_fewer =
        let a : length (orders_in m' n') ≡ length (clear_from 0 end (orders_in m n)).orders = ap length g.orders in
        omega (arith, from_fewer 0 end (orders_in m n), orders_length m' n', orders_length m n)

    pub passed_few : rising (numbers (orders_in m n)) ≡ true → count ≤ n
    passed_few e = omega (arith, all-rows_few end (orders_in m n) e, g.counted, orders_length m n)
