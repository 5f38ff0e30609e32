-- After clearing no bid and ask of the period meet.
use Prim.Native.Nat.{ℕ, ◌<◌, ◌≤◌}
use mathlib.Core.Path.{◌≡◌, refl}
use mathlib.Core.Bool.{Bool, true, ◌&&◌}
use mathlib.Core.List.{List, [], ◌++◌}
use native.Mathlib.Omega.{arith}
use native.Mathlib.Decide.{dec_lt}
use lib.Dec.{leb}
use borrow.Author.Tests.{ltb-true, ltb-false, le-leb}
use Rattle.measures.specs.Lists.{Each, Has, keep}
use Rattle.measures.proofs.ListLaws.{and_true}
use Rattle.matching.specs.Orders.{Order, numbers, rising, bids, asks, bid_ahead, ask_ahead}
use Rattle.matching.specs.Clearing.{Fill, after_fills, bid_fills, ask_fills, clear_period}
use Rattle.matching.proofs.Laws.Lists.EachLaws.{has_each}
use Rattle.matching.proofs.Laws.Orders.AheadLaws.{dearer, cheaper, dearer_strict, cheaper_strict}
use Rattle.matching.proofs.Laws.Clearing.VolumeLaws.{demand, supply, traded, no-price_trades_more}
use Rattle.matching.proofs.Laws.Clearing.FillLaws.{amounts}
use Rattle.matching.proofs.Laws.Orders.LessenLaws.{Numbered, rising-numbered}
use Rattle.matching.proofs.Laws.Orders.AfterLaws.{Due, after_each, fills_append}
use Rattle.matching.proofs.Laws.Clearing.SideLaws.{kind_quantities, one_of, left_behind, left_over_lem}
use Rattle.matching.proofs.Laws.Clearing.PeriodLaws.{
  is_bid,
  is_ask,
  volume,
  bid_margin,
  ask_margin,
  bid_fills_of,
  ask_fills_of,
  cleared_orders,
  fills_case,
  margins_of,
  clear_due,
}

-- both sides have no more than the volume at one price
no_more : (period : ℕ) (os : List Order) (p : ℕ) → volume period os < demand (bids period os) p → volume period os < supply (asks period os) p → ⊥
no_more period os p d s = let n = no-price_trades_more (bids period os) (asks period os) p in omega (arith, traded (bids period os) (asks period os) p)

module _ (period : ℕ) (os : List Order) (a c : Order) (buy : is_bid period a ≡ true) (sale : is_ask period c ≡ true) (pa : 0 < a.quantity) (pc : 0
    < c.quantity) where
  -- nothing trades
  apart_none : volume period os ≡ 0 → Has a os → Has c os → a.price < c.price
  apart_none z ha hc = go (dec_lt a.price c.price)
    where
      go : Dec (a.price < c.price) → a.price < c.price
      go (yes l) = l
      go (no l) =
          let β = a.price in
          let d = kind_quantities (is_bid period) bid_ahead os (λ p. leb β p) in
          let e = one_of (λ o. is_bid period o && leb β o.price) os a ha (and_true (is_bid period a) (leb β β) buy (le-leb β β (omega arith))) in
          let s = kind_quantities (is_ask period) ask_ahead os (λ p. leb p β) in
          let f = one_of (λ o. is_ask period o && leb o.price β) os c hc
          (and_true (is_ask period c) (leb c.price β) sale (le-leb c.price β (omega arith))) in
          absurd (no_more period os β (omega arith) (omega arith))

  -- some volume trades
  module _ (pos : 0 < volume period os) (n : Numbered os) where
    abbrev F : List Fill
    F = bid_fills (volume period os) (bid_margin period os) (bids period os)

    abbrev H : List Fill
    H = ask_fills (volume period os) (ask_margin period os) (asks period os)

    more-bids : (t : Order → Bool) → amounts (keep (λ f. t f.order) F) ≤ amounts (keep (λ f. t f.order) (F ++ H))
    more-bids t = omega (arith, fills_append (λ f. t f.order) F H)

    more-asks : (t : Order → Bool) → amounts (keep (λ f. t f.order) H) ≤ amounts (keep (λ f. t f.order) (F ++ H))
    more-asks t = omega (arith, fills_append (λ f. t f.order) F H)

    apart_some : Due (F ++ H) os → Has a (after_fills (F ++ H) os) → Has c (after_fills (F ++ H) os) → a.price < c.price
    apart_some d ha hc = go (dec_lt a.price c.price)
      where
        bid_left_lem : a.price ≤ bid_margin period os
        bid_left_lem = ltb-false _ _ (left_behind dearer dearer_strict (volume period os) (bid_margin period os) (is_bid period) (λ o q. refl) bid_ahead os (F
            ++ H) (margins_of period os pos).bid n d more-bids a ha buy pa)

        ask_left_lem : ask_margin period os ≤ c.price
        ask_left_lem = ltb-false _ _ (left_behind cheaper cheaper_strict (volume period os) (ask_margin period os) (is_ask period) (λ o q. refl) ask_ahead os (F
            ++ H) (margins_of period os pos).ask n d more-asks c hc sale pc)

        go : Dec (a.price < c.price) → a.price < c.price
        go (yes l) = l
        go (no l) =
            let β = a.price in
            let b = bid_left_lem in
            let s = ask_left_lem in
            absurd
            (no_more period os β
            (left_over_lem dearer dearer_strict (volume period os) (bid_margin period os) (is_bid period) (λ o q. refl) bid_ahead os (F
            ++ H) (margins_of period os pos).bid n d more-bids (λ p. leb β p)
            (λ p e. le-leb β p (omega (arith, ltb-true (bid_margin period os) p e))) (le-leb β (bid_margin period os) (omega arith)) a ha buy pa
            (le-leb β β (omega arith)))
            (left_over_lem cheaper cheaper_strict (volume period os) (ask_margin period os) (is_ask period) (λ o q. refl) ask_ahead os (F
            ++ H) (margins_of period os pos).ask n d more-asks (λ p. leb p β)
            (λ p e. le-leb p β (omega (arith, ltb-true p (ask_margin period os) e))) (le-leb (ask_margin period os) β (omega arith)) c hc sale pc
            (le-leb c.price β (omega arith))))

-- of orders with rising numbers and some quantity each, no bid and ask of the period that are left meet
pub nothing_crosses_after : (period : ℕ) (os : List Order) → rising (numbers os) ≡ true → Each (λ o. 0 < o.quantity) os
    → (a c : Order) → Has a (clear_period period os).orders → Has c (clear_period period os).orders → is_bid period a ≡ true → is_ask period c ≡ true
    → a.price < c.price
unfolding after_fills
nothing_crosses_after period os e q a c ha hc buy sale =
    fills_case period os (λ F H. Due (F ++ H) os → Has a (after_fills (F ++ H) os) → Has c (after_fills (F ++ H) os) → a.price < c.price)
    (λ z _ ka kc. none z ka kc)
    (λ pos. apart_some period os a c buy sale (positive a ha) (positive c hc) pos n)
    (clear_due period os n) (rw (cleared_orders period os) at ha) (rw (cleared_orders period os) at hc)
  where
    n : Numbered os
    n = rising-numbered os e

    positive : (o : Order) → Has o (clear_period period os).orders → 0 < o.quantity
    positive o h =
        has_each (λ x. 0 < x.quantity) (after_fills (bid_fills_of period os ++ ask_fills_of period os) os) o
        (after_each (λ x. 0 < x.quantity) (λ x k p l. omega arith) (bid_fills_of period os ++ ask_fills_of period os) os q)
        (rw (cleared_orders period os) at h)

    none : volume period os ≡ 0 → Has a (after_fills [] os) → Has c (after_fills [] os) → a.price < c.price
    none z ka kc = apart_none period os a c buy sale (positive a ha) (positive c hc) z ka kc
