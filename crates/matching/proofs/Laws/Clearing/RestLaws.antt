-- What stands open after a period is cleared, in the trade's words.
use Prim.Native.Nat.{ℕ, ◌+◌, ◌<◌}
use mathlib.Core.Path.{◌≡◌, refl, sym, ap, ◌∙◌}
use mathlib.Core.Bool.{Bool, true, false, not, ◌&&◌}
use mathlib.Core.List.{List, ◌++◌}
use native.Mathlib.Omega.{arith}
use lib.Dec.{eqb}
use borrow.Author.Tests.{eqb-true, ne_eqb}
use Rattle.measures.specs.Lists.{Each, Has, sum_of, keep}
use Rattle.measures.proofs.ListLaws.{and_right, and_right_false, and_left-false, false_by}
use Rattle.matching.specs.Orders.{Order, quantities, numbers, rising, buys, sells, bids, asks, leaving, less}
use Rattle.matching.specs.Clearing.{Fill, after_fills, clear_period}
use Rattle.matching.proofs.Laws.Lists.EachLaws.{each_map, each_append, keep-nothing, keep_ext}
use Rattle.matching.proofs.Laws.Clearing.FillLaws.{amounts}
use Rattle.matching.proofs.Laws.Orders.LessenLaws.{rising-numbered, numbered-rising}
use Rattle.matching.proofs.Laws.Orders.AfterLaws.{after-numbered, after_each, after_stay, after_open, fills_append}
use Rattle.matching.proofs.Laws.Clearing.PeriodLaws.{
  is_bid,
  is_ask,
  bid_fills_of,
  ask_fills_of,
  cleared_orders,
  bids_are,
  asks_are,
  bid_fills_each,
  ask_fills_each,
  bid_fills_stand,
  ask_fills_stand,
  not_both,
  clear_due,
}
use Rattle.matching.proofs.Laws.Clearing.ClearingLaws.{rows_by_unit}

-- a unit's fills among those of a kind, and among those of another
module _ (kind : Order → Bool) (u : ℕ) (fs : List Fill) where
  own_fills : Each (λ f. kind f.order ≡ true) fs → amounts (keep (λ f. kind f.order && eqb f.order.unit u) fs)
      ≡ amounts (keep (λ f. eqb f.order.unit u) fs)
  own_fills e =
      ap amounts
      (keep_ext (λ f. kind f.order && eqb f.order.unit u) (λ f. eqb f.order.unit u) fs
      (each_map (λ f. kind f.order ≡ true) (λ f. (kind f.order && eqb f.order.unit u)
      ≡ eqb f.order.unit u) fs (λ f b. ap (λ (t : Bool). t && eqb f.order.unit u) b) e))

  no_fills : Each (λ f. kind f.order ≡ false) fs → amounts (keep (λ f. kind f.order && eqb f.order.unit u) fs) ≡ 0
  no_fills e =
      ap amounts
      (keep-nothing (λ f. kind f.order && eqb f.order.unit u) fs
      (each_map (λ f. kind f.order ≡ false) (λ f. (kind f.order && eqb f.order.unit u)
      ≡ false) fs (λ f b. and_left-false (kind f.order) (eqb f.order.unit u) b) e))

module _ (period : ℕ) (os : List Order) where
  -- rising numbers stay rising
  pub numbers_rise_after : rising (numbers os) ≡ true → rising (numbers (clear_period period os).orders) ≡ true
  numbers_rise_after e =
      rw (cleared_orders period os)
      (numbered-rising (after_fills (bid_fills_of period os ++ ask_fills_of period os) os) (after-numbered (bid_fills_of period os
      ++ ask_fills_of period os) os (rising-numbered os e)))

  -- what holds of each order, and of any rest of it, holds of each that stands after
  pub rests_each : (P : Order → Type 0) → ((o : Order) (x : ℕ) → P o → x < o.quantity → P (less o x)) → Each P os → Each P (clear_period period os).orders
  rests_each P h e = rw (cleared_orders period os) (after_each P h (bid_fills_of period os ++ ask_fills_of period os) os e)

  -- each order that stands after has some quantity
  pub rests_positive : Each (λ o. 0 < o.quantity) os → Each (λ o. 0 < o.quantity) (clear_period period os).orders
  rests_positive e = rests_each (λ o. 0 < o.quantity) (λ o x p l. omega arith) e

  -- orders that are neither bids nor asks of the period stay, in their order
  pub others_stay : (g : Order → Bool) → ((o : Order) (q : ℕ) → g (leaving o q) ≡ g o) → ((o : Order) → is_bid period o ≡ true → g o ≡ false)
      → ((o : Order) → is_ask period o ≡ true → g o ≡ false)
      → rising (numbers os) ≡ true → keep g (clear_period period os).orders ≡ keep g os
  others_stay g still nb na e =
      rw (cleared_orders period os)
      (after_stay g still (bid_fills_of period os ++ ask_fills_of period os) os (rising-numbered os e)
      (each_append (λ f. Has f.order os) (bid_fills_of period os) (ask_fills_of period os) (bid_fills_stand period os) (ask_fills_stand period os))
      (each_append (λ f. g f.order ≡ false) (bid_fills_of period os) (ask_fills_of period os)
      (bid_fills_each period os (λ o. g o ≡ false) (each_map (λ o. is_bid period o ≡ true) (λ o. g o ≡ false) (bids period os) nb (bids_are period os)))
      (ask_fills_each period os (λ o. g o ≡ false) (each_map (λ o. is_ask period o ≡ true) (λ o. g o ≡ false) (asks period os) na (asks_are period os)))))

  -- orders of other periods stay, in their order
  pub other_periods_stay : rising (numbers os) ≡ true → keep (λ o. not (eqb o.period period)) (clear_period period os).orders
      ≡ keep (λ o. not (eqb o.period period)) os
  other_periods_stay e =
      others_stay (λ o. not (eqb o.period period)) (λ o q. refl)
      (λ o b. ap not (and_right (buys o.direction) (eqb o.period period) b))
      (λ o a. ap not (and_right (sells o.direction) (eqb o.period period) a)) e

  -- so do another period's, on either side
  pub elsewhere_stay : (f : ℕ → Bool) (p : ℕ) → (p ≡ period → ⊥) → rising (numbers os) ≡ true
      → keep (λ o. f o.direction && eqb o.period p) (clear_period period os).orders ≡ keep (λ o. f o.direction && eqb o.period p) os
  elsewhere_stay f p n e =
      others_stay (λ o. f o.direction && eqb o.period p) (λ o q. refl)
      (λ o b. not_there o (and_right (buys o.direction) (eqb o.period period) b))
      (λ o a. not_there o (and_right (sells o.direction) (eqb o.period period) a)) e
    where
      not_there : (o : Order) → eqb o.period period ≡ true → (f o.direction && eqb o.period p) ≡ false
      not_there o t =
          let k : o.period ≡ period = eqb-true o.period period t in
          and_right_false (f o.direction) (eqb o.period p) (ne_eqb o.period p (λ h. n (sym h ∙ k)))

  -- what is open under a test of orders falls by the fills of those that pass it
  pub open_less_fills : (g : Order → Bool) → ((o : Order) (q : ℕ) → g (leaving o q) ≡ g o) → rising (numbers os) ≡ true
      → quantities (keep g (clear_period period os).orders) +
      (amounts (keep (λ f. g f.order) (bid_fills_of period os)) + amounts (keep (λ f. g f.order) (ask_fills_of period os))) ≡ quantities (keep g os)
  open_less_fills g still e =
      let n = rising-numbered os e in
      let a = after_open g still (bid_fills_of period os ++ ask_fills_of period os) os n (clear_due period os n) in
      rw (cleared_orders period os, ← fills_append (λ f. g f.order) (bid_fills_of period os) (ask_fills_of period os)) a

  -- what a unit bids for in the period falls by exactly its bids' fills, and what it asks by its asks' fills
  pub bids-less_fills : (u : ℕ) → rising (numbers os) ≡ true
      → quantities (keep (λ o. is_bid period o && eqb o.unit u) (clear_period period os).orders) + amounts
      (keep (λ f. eqb f.order.unit u) (bid_fills_of period os))
      ≡ quantities (keep (λ o. is_bid period o && eqb o.unit u) os)
  bids-less_fills u e =
      let a = open_less_fills (λ o. is_bid period o && eqb o.unit u) (λ o q. refl) e in
      let b = own_fills (is_bid period) u (bid_fills_of period os) (bid_fills_each period os (λ o. is_bid period o ≡ true) (bids_are period os)) in
      let c = no_fills (is_bid period) u (ask_fills_of period os) (ask_fills_each period os (λ o. is_bid period o
      ≡ false) (each_map (λ o. is_ask period o ≡ true) (λ o. is_bid period o
      ≡ false) (asks period os) (λ o h. false_by (is_bid period o) (λ k. not_both period os o k h)) (asks_are period os))) in
      omega arith

  pub asks-less_fills : (u : ℕ) → rising (numbers os) ≡ true
      → quantities (keep (λ o. is_ask period o && eqb o.unit u) (clear_period period os).orders) + amounts
      (keep (λ f. eqb f.order.unit u) (ask_fills_of period os))
      ≡ quantities (keep (λ o. is_ask period o && eqb o.unit u) os)
  asks-less_fills u e =
      let a = open_less_fills (λ o. is_ask period o && eqb o.unit u) (λ o q. refl) e in
      let b = own_fills (is_ask period) u (ask_fills_of period os) (ask_fills_each period os (λ o. is_ask period o ≡ true) (asks_are period os)) in
      let c = no_fills (is_ask period) u (bid_fills_of period os) (bid_fills_each period os (λ o. is_ask period o
      ≡ false) (each_map (λ o. is_bid period o ≡ true) (λ o. is_ask period o
      ≡ false) (bids period os) (λ o h. false_by (is_ask period o) (λ k. not_both period os o h k)) (bids_are period os))) in
      omega arith

  pub orders_less_fills : (u : ℕ) → rising (numbers os) ≡ true
      → (quantities (keep (λ o. is_bid period o && eqb o.unit u) (clear_period period os).orders) + amounts
      (keep (λ f. eqb f.order.unit u) (bid_fills_of period os))
      ≡ quantities (keep (λ o. is_bid period o && eqb o.unit u) os))
      × (quantities (keep (λ o. is_ask period o && eqb o.unit u) (clear_period period os).orders) + amounts
      (keep (λ f. eqb f.order.unit u) (ask_fills_of period os))
      ≡ quantities (keep (λ o. is_ask period o && eqb o.unit u) os))
  orders_less_fills u e = (bids-less_fills u e, asks-less_fills u e)

  -- and so by exactly the rows in which it buys, or sells
  pub bids-less_rows : (u : ℕ) → rising (numbers os) ≡ true
      → quantities (keep (λ o. is_bid period o && eqb o.unit u) (clear_period period os).orders) + sum_of (λ r. r.quantity)
      (keep (λ r. eqb r.buyer u) (clear_period period os).rows)
      ≡ quantities (keep (λ o. is_bid period o && eqb o.unit u) os)
  bids-less_rows u e = rw (rows_by_unit period os u).0 (bids-less_fills u e)

  pub asks-less_rows : (u : ℕ) → rising (numbers os) ≡ true
      → quantities (keep (λ o. is_ask period o && eqb o.unit u) (clear_period period os).orders) + sum_of (λ r. r.quantity)
      (keep (λ r. eqb r.seller u) (clear_period period os).rows)
      ≡ quantities (keep (λ o. is_ask period o && eqb o.unit u) os)
  asks-less_rows u e = rw (rows_by_unit period os u).1 (asks-less_fills u e)
