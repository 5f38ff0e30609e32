-- Orders lose what rows trade: for each unit and period, on each side.
use Prim.Native.Nat.{ℕ, zero, suc, ◌+◌}
use mathlib.Core.Path.{◌≡◌, refl, sym, ap, ◌∙◌}
use mathlib.Core.Bool.{Bool, true, false, cond, ◌&&◌}
use mathlib.Core.List.{List, [], ◌++◌}
use native.Mathlib.Omega.{arith}
use native.Mathlib.Decide.{ℕ_discrete}
use lib.Dec.{eqb}
use borrow.Author.Tests.{eq-eqb, ne_eqb, eqb-true}
use Rattle.measures.specs.Lists.{Each, sum_of, keep}
use Rattle.measures.proofs.ListLaws.{sum_of_append, and_right, and_right_false, with_true}
use Rattle.matching.specs.Orders.{Order, Row, sells, buys, quantities, numbers, rising}
use Rattle.matching.specs.Clearing.{clear_period, clear_from}
use Rattle.matching.proofs.Laws.Lists.EachLaws.{each_map, each_all, keep-sum}
use Rattle.matching.proofs.Laws.Lists.SumLaws.{sum_of_ext, sum_of-zero}
use Rattle.matching.proofs.Laws.Clearing.ClearingLaws.{rows-at_price}
use Rattle.matching.proofs.Laws.Clearing.RestLaws.{numbers_rise_after, others_stay, bids-less_rows, asks-less_rows}

-- whether an order is unit u's, of period p, in a direction that f picks
abbrev pub is_of : (ℕ → Bool) → ℕ → ℕ → Order → Bool
is_of f u p o = eqb o.unit u && eqb o.period p && f o.direction

abbrev pub open_of : (ℕ → Bool) → ℕ → ℕ → List Order → ℕ
open_of f u p os = sum_of (λ (o : Order). cond (is_of f u p o) o.quantity 0) os

-- what rows trade in period p for unit u on the side of `party`
abbrev pub traded_of : (Row → ℕ) → ℕ → ℕ → List Row → ℕ
traded_of party u p rs = sum_of (λ (r : Row). cond (eqb (party r) u && eqb r.period p) r.quantity 0) rs

abbrev pub seller : Row → ℕ
seller r = r.seller

abbrev pub buyer : Row → ℕ
buyer r = r.buyer

-- from os to os' each unit's orders lose what it trades by the rows
pub record Exchanged (os os' : List Order) (rs : List Row) : Type 0 where
  pub sold : (u p : ℕ) → open_of sells u p os' + traded_of seller u p rs ≡ open_of sells u p os
  pub bought : (u p : ℕ) → open_of buys u p os' + traded_of buyer u p rs ≡ open_of buys u p os

pub exchanged_none : (os : List Order) → Exchanged os os []
exchanged_none os = record { sold = λ u p. omega arith; bought = λ u p. omega arith }

pub exchanged_append : (os os' os'' : List Order) (rs ts : List Row) → Exchanged os os' rs → Exchanged os' os'' ts → Exchanged os os'' (rs ++ ts)
exchanged_append os os' os'' rs ts x y =
    record {
      sold = λ u p. omega (
        arith,
        x.sold u p,
        y.sold u p,
        sum_of_append (λ (r : Row). cond (eqb r.seller u && eqb r.period p) r.quantity 0) rs
            ts,
      );
      bought = λ u p. omega (
        arith,
        x.bought u p,
        y.bought u p,
        sum_of_append (λ (r : Row). cond (eqb r.buyer u && eqb r.period p) r.quantity 0)
            rs ts,
      );
    }

-- one period cleared
module _ (period : ℕ) (os : List Order) (rises : rising (numbers os) ≡ true) where
  abbrev after : List Order
  after = (clear_period period os).orders

  abbrev rows : List Row
  rows = (clear_period period os).rows

  in_period : Each (λ r. r.period ≡ period) rows
  in_period = each_map (λ r. (r.way ≡ 3) × (r.period ≡ period) × (r.price ≡ _)) (λ r. r.period ≡ period) rows (λ r h. h.1) (rows-at_price period os)

  -- in the period
  traded_there : (party : Row → ℕ) (u : ℕ) → traded_of party u period rows ≡ sum_of (λ r. r.quantity) (keep (λ r. eqb (party r) u) rows)
  traded_there party u =
      sum_of_ext (λ (r : Row). cond (eqb (party r) u && eqb r.period period) r.quantity 0) (λ (r : Row). cond (eqb (party r) u) r.quantity 0) rows
      (each_map (λ r. r.period ≡ period) (λ (r : Row). cond (eqb (party r) u && eqb r.period period) r.quantity 0
      ≡ cond (eqb (party r) u) r.quantity 0) rows
      (λ r e. rw (eq-eqb r.period period e) (with_true (eqb (party r) u) r.quantity)) in_period)
      ∙ sym (keep-sum (λ r. r.quantity) (λ r. eqb (party r) u) rows)

  -- in another
  traded_elsewhere : (party : Row → ℕ) (u p : ℕ) → (p ≡ period → ⊥) → traded_of party u p rows ≡ 0
  traded_elsewhere party u p n =
      sum_of-zero (λ (r : Row). cond (eqb (party r) u && eqb r.period p) r.quantity 0) rows
      (each_map (λ r. r.period ≡ period) (λ (r : Row). cond (eqb (party r) u && eqb r.period p) r.quantity 0 ≡ 0) rows
      (λ r e. rw (and_right_false (eqb (party r) u) (eqb r.period p) (ne_eqb r.period p (λ k. n (sym k ∙ e))))) in_period)

  open_elsewhere : (f : ℕ → Bool) (u p : ℕ) → (p ≡ period → ⊥) → open_of f u p after ≡ open_of f u p os
  open_elsewhere f u p n =
      sym (keep-sum (λ o. o.quantity) (is_of f u p) after)
      ∙ ap (λ (l : List Order). quantities l)
      (others_stay period os (is_of f u p) (λ o q. refl)
      (λ o b. not_there o (and_right (buys o.direction) (eqb o.period period) b))
      (λ o a. not_there o (and_right (sells o.direction) (eqb o.period period) a)) rises)
      ∙ keep-sum (λ o. o.quantity) (is_of f u p) os
    where
      not_there : (o : Order) → eqb o.period period ≡ true → is_of f u p o ≡ false
      not_there o e =
          let k : o.period ≡ period = eqb-true _ _ e in
          go (eqb o.unit u) (eqb o.period p) (f o.direction) (ne_eqb o.period p (λ q. n (sym q ∙ k)))
        where
          go : (a b c : Bool) → b ≡ false → (a && b && c) ≡ false
          go true b c h = rw h
          go false b c h = refl

  -- the orders of a unit in the period, as the laws of clearing say it
  there : (f : ℕ → Bool) (u : ℕ) (l : List Order) → open_of f u period l
      ≡ quantities (keep (λ o. (f o.direction && eqb o.period period) && eqb o.unit u) l)
  there f u l =
      sum_of_ext (λ (o : Order). cond (is_of f u period o) o.quantity 0) (λ (o : Order). cond ((f o.direction && eqb o.period period)
      && eqb o.unit u) o.quantity 0) l
      (each_all (λ (o : Order). cond (is_of f u period o) o.quantity 0
      ≡ cond ((f o.direction && eqb o.period period) && eqb o.unit u) o.quantity 0) l
      (λ o. go (eqb o.unit u) (eqb o.period period) (f o.direction) o.quantity))
      ∙ sym (keep-sum (λ o. o.quantity) (λ o. (f o.direction && eqb o.period period) && eqb o.unit u) l)
    where
      go : (a b c : Bool) (q : ℕ) → cond (a && b && c) q 0 ≡ cond ((c && b) && a) q 0
      go true true true q = refl
      go true true false q = refl
      go true false true q = refl
      go true false false q = refl
      go false true true q = refl
      go false true false q = refl
      go false false true q = refl
      go false false false q = refl

  side : (f : ℕ → Bool) (party : Row → ℕ)
      → ((u : ℕ) → quantities (keep (λ o. (f o.direction && eqb o.period period) && eqb o.unit u) after) + sum_of (λ r. r.quantity)
      (keep (λ r. eqb (party r) u) rows)
      ≡ quantities (keep (λ o. (f o.direction && eqb o.period period) && eqb o.unit u) os))
      → (u p : ℕ) → open_of f u p after + traded_of party u p rows ≡ open_of f u p os
  side f party h u p = go (ℕ_discrete p period)
    where
      go : Dec (p ≡ period) → open_of f u p after + traded_of party u p rows ≡ open_of f u p os
      go (yes e) = rw (e, traded_there party u, there f u after, there f u os) (h u)
      go (no n) = rw (traded_elsewhere party u p n, open_elsewhere f u p n) (omega arith)

  pub period_exchanged : Exchanged os after rows
  period_exchanged = record {
    sold = side sells seller (λ u. asks-less_rows period os u rises);
    bought = side buys buyer
        (λ u. bids-less_rows period os u rises);
  }

-- and all periods, one after the other
pub all_exchanged : (p k : ℕ) (os : List Order) → rising (numbers os) ≡ true → Exchanged os (clear_from p k os).orders (clear_from p k os).rows
unfolding clear_from
all_exchanged p zero os rises = exchanged_none os
all_exchanged p (suc k) os rises =
    let c = clear_period p os in
    let rest = clear_from (suc p) k c.orders in
    exchanged_append os c.orders rest.orders c.rows rest.rows (period_exchanged p os rises)
    (all_exchanged (suc p) k c.orders (numbers_rise_after p os rises))
