-- What clearing a period does, in the trade's words.
use Prim.Native.Nat.{ℕ, ◌<◌, ◌≤◌}
use mathlib.Core.Path.{◌≡◌, refl, sym, ap, ◌∙◌}
use mathlib.Core.Bool.{Bool, true}
use mathlib.Core.List.{List, map}
use native.Mathlib.Omega.{arith}
use lib.Dec.{eqb}
use borrow.Author.Tests.{eqb-true, ltb-true}
use Rattle.measures.specs.Lists.{Each, Has, Along, sum_of, keep}
use Rattle.measures.proofs.ListLaws.{and_left, and_right}
use Rattle.matching.specs.Orders.{Order, Row, buys, sells, bids, asks}
use Rattle.matching.specs.Clearing.{bid_fills, ask_fills, clear_period}
use Rattle.matching.specs.Matchings.{Pair, paired, BidAt, AskAt, FilledBy}
use Rattle.matching.proofs.Laws.Lists.EachLaws.{each_map, each_both, each_all, each_mapped, sum_of_each, sum_of_mapped, along_mapped}
use Rattle.matching.proofs.Laws.Orders.AheadLaws.{dearer, cheaper}
use Rattle.matching.proofs.Laws.Clearing.FillLaws.{amounts, Fits, side-sum, side_fits, side_prices}
use Rattle.matching.proofs.Laws.Rows.PairLaws.{overlap_pairs, row_of, rows_of_pairs, pairs_each, pairs_bought, pairs_sold, pairs_total}
use Rattle.matching.proofs.Laws.Clearing.PeriodLaws.{
  is_bid,
  is_ask,
  volume,
  bid_margin,
  ask_margin,
  price_of,
  bid_fills_of,
  ask_fills_of,
  cleared-rows,
  fills_case,
  margins_of,
  bids_are,
  asks_are,
  bid_fills_each,
  ask_fills_each,
  bid_fills_stand,
  ask_fills_stand,
}

module _ (period : ℕ) (os : List Order) where
  -- both sides' fills sum to the volume
  pub fills_sum : (amounts (bid_fills_of period os) ≡ volume period os) × (amounts (ask_fills_of period os) ≡ volume period os)
  fills_sum =
      fills_case period os (λ F H. (amounts F ≡ volume period os) × (amounts H ≡ volume period os)) (λ e. (sym e, sym e))
      (λ pos. (side-sum dearer _ _ _ (margins_of period os pos).bid, side-sum cheaper _ _ _ (margins_of period os pos).ask))

  -- no fill is more than its order
  pub no_fill_exceeds : Each Fits (bid_fills_of period os) × Each Fits (ask_fills_of period os)
  no_fill_exceeds =
      fills_case period os (λ F H. Each Fits F × Each Fits H) (λ e. (tt, tt))
      (λ pos. (side_fits dearer _ _ _ (margins_of period os pos).bid, side_fits cheaper _ _ _ (margins_of period os pos).ask))

  -- the price lies between the marginal ask and the marginal bid
  pub price-between_margins : 0 < volume period os → (ask_margin period os ≤ price_of period os) × (price_of period os ≤ bid_margin period os)
  price-between_margins pos = let m = (margins_of period os pos).meet in (omega arith, omega arith)

  -- each filled bid is priced at or above it, and each filled ask at or below
  pub fills_at-price : Each (λ f. price_of period os ≤ f.order.price) (bid_fills_of period os)
      × Each (λ f. f.order.price ≤ price_of period os) (ask_fills_of period os)
  fills_at-price =
      fills_case period os (λ F H. Each (λ f. price_of period os ≤ f.order.price) F × Each (λ f. f.order.price ≤ price_of period os) H) (λ e. (tt, tt))
      (λ pos. (bid pos (price-between_margins pos), ask pos (price-between_margins pos)))
    where
      bid : 0 < volume period os → (ask_margin period os ≤ price_of period os) × (price_of period os ≤ bid_margin period os)
          → Each (λ f. price_of period os ≤ f.order.price) (bid_fills (volume period os) (bid_margin period os) (bids period os))
      bid pos b =
          side_prices dearer (volume period os) (bid_margin period os) (bids period os) (λ p. price_of period os ≤ p)
          (λ p e. let l = ltb-true (bid_margin period os) p e in omega arith) (λ p e. let l = eqb-true p (bid_margin period os) e in omega arith)

      ask : 0 < volume period os → (ask_margin period os ≤ price_of period os) × (price_of period os ≤ bid_margin period os)
          → Each (λ f. f.order.price ≤ price_of period os) (ask_fills (volume period os) (ask_margin period os) (asks period os))
      ask pos b =
          side_prices cheaper (volume period os) (ask_margin period os) (asks period os) (λ p. p ≤ price_of period os)
          (λ p e. let l = ltb-true p (ask_margin period os) e in omega arith) (λ p e. let l = eqb-true p (ask_margin period os) e in omega arith)

  -- the pairs that the period's rows fill, and their rows
  unfoldable pub pairs_of : List Pair
  pairs_of = overlap_pairs 0 (bid_fills_of period os) (ask_fills_of period os)

  pub rows_are : (clear_period period os).rows ≡ map (row_of period (price_of period os)) pairs_of
  unfolding pairs_of
  rows_are = cleared-rows period os ∙ rows_of_pairs period (price_of period os) 0 (bid_fills_of period os) (ask_fills_of period os)

  fills_even : amounts (bid_fills_of period os) ≡ amounts (ask_fills_of period os)
  fills_even = fills_sum.0 ∙ sym fills_sum.1

  -- each order is filled by the rows of its pairs, and the rows sum to the volume
  pub pairs_of_bid_lem : (t : Order → Bool) → paired (keep (λ x. t x.bid) pairs_of) ≡ amounts (keep (λ f. t f.order) (bid_fills_of period os))
  unfolding pairs_of
  pairs_of_bid_lem t = pairs_bought t (bid_fills_of period os) (ask_fills_of period os) fills_even

  pub pairs_of_ask : (t : Order → Bool) → paired (keep (λ x. t x.ask) pairs_of) ≡ amounts (keep (λ f. t f.order) (ask_fills_of period os))
  unfolding pairs_of
  pairs_of_ask t = pairs_sold t (bid_fills_of period os) (ask_fills_of period os) fills_even

  pub rows-sum : sum_of (λ r. r.quantity) (clear_period period os).rows ≡ volume period os
  unfolding pairs_of
  rows-sum =
      ap (sum_of (λ r. r.quantity)) rows_are ∙ sum_of_each (λ r. r.quantity) (row_of period (price_of period os)) pairs_of
      ∙ pairs_total (bid_fills_of period os) (ask_fills_of period os) fills_even ∙ fills_sum.0

  -- the rows in which a unit buys sum to its bids' fills, and those in which it sells to its asks' fills
  pub rows_by_unit : (u : ℕ)
      → (sum_of (λ r. r.quantity) (keep (λ r. eqb r.buyer u) (clear_period period os).rows)
      ≡ amounts (keep (λ f. eqb f.order.unit u) (bid_fills_of period os)))
      × (sum_of (λ r. r.quantity) (keep (λ r. eqb r.seller u) (clear_period period os).rows)
      ≡ amounts (keep (λ f. eqb f.order.unit u) (ask_fills_of period os)))
  rows_by_unit u =
      rw rows_are (
        sum_of_mapped (λ r. r.quantity) (λ r. eqb r.buyer u) (row_of period (price_of period os)) pairs_of ∙ pairs_of_bid_lem (λ o. eqb o.unit u),
        sum_of_mapped (λ r. r.quantity) (λ r. eqb r.seller u) (row_of period (price_of period os)) pairs_of ∙ pairs_of_ask (λ o. eqb o.unit u),
      )

  -- the orders of a pair are a bid and an ask of the period that meet the clearing price, and it has some amount
  pub pairs_meet : Each (λ x. BidAt os period (price_of period os) x.bid × AskAt os period (price_of period os) x.ask × (0 < x.amount)) pairs_of
  unfolding pairs_of
  pairs_meet =
      pairs_each (λ x. BidAt os period (price_of period os) x.bid × AskAt os period (price_of period os) x.ask × (0 < x.amount))
      (BidAt os period (price_of period os)) (AskAt os period (price_of period os)) (λ x b s h. (b, s, h)) 0 (bid_fills_of period os) (ask_fills_of period os)
      (each_both (λ f. Has f.order os × (is_bid period f.order ≡ true)) (λ f. price_of period os ≤ f.order.price)
      (λ f. BidAt os period (price_of period os) f.order) (bid_fills_of period os) (λ f k p. bid f.order k.0 k.1 p)
      (each_both (λ f. Has f.order os) (λ f. is_bid period f.order ≡ true) (λ f. Has f.order os × (is_bid period f.order ≡ true))
      (bid_fills_of period os) (λ f a b. (a, b)) (bid_fills_stand period os) (bid_fills_each period os (λ o. is_bid period o ≡ true) (bids_are period os)))
      fills_at-price.0)
      (each_both (λ f. Has f.order os × (is_ask period f.order ≡ true)) (λ f. f.order.price ≤ price_of period os)
      (λ f. AskAt os period (price_of period os) f.order) (ask_fills_of period os) (λ f k p. ask f.order k.0 k.1 p)
      (each_both (λ f. Has f.order os) (λ f. is_ask period f.order ≡ true) (λ f. Has f.order os × (is_ask period f.order ≡ true))
      (ask_fills_of period os) (λ f a b. (a, b)) (ask_fills_stand period os) (ask_fills_each period os (λ o. is_ask period o ≡ true) (asks_are period os)))
      fills_at-price.1)
    where
      bid : (o : Order) → Has o os → is_bid period o ≡ true → price_of period os ≤ o.price → BidAt os period (price_of period os) o
      bid o m k p =
          record {
            stands = m;
            buys = eqb-true o.direction 1 (and_left (buys o.direction) (eqb o.period period) k);
            there = eqb-true o.period period (and_right (buys o.direction) (eqb o.period period) k);
            above = p;
          }

      ask : (o : Order) → Has o os → is_ask period o ≡ true → o.price ≤ price_of period os → AskAt os period (price_of period os) o
      ask o m k p =
          record {
            stands = m;
            sells = eqb-true o.direction 0 (and_left (sells o.direction) (eqb o.period period) k);
            there = eqb-true o.period period (and_right (sells o.direction) (eqb o.period period) k);
            below = p;
          }

  -- each row fills its pair, in the period and at the clearing price
  abbrev pub FilledHere : Pair → Row → Type 0
  FilledHere x r = FilledBy os x r × (r.period ≡ period) × (r.price ≡ price_of period os)

  pub rows_fill : Along FilledHere pairs_of (clear_period period os).rows
  rows_fill =
      rw rows_are
      (along_mapped FilledHere (row_of period (price_of period os)) pairs_of
      (each_map (λ x. BidAt os period (price_of period os) x.bid × AskAt os period (price_of period os) x.ask × (0 < x.amount))
      (λ x. FilledHere x (row_of period (price_of period os) x)) pairs_of
      (λ x h. (record { bid = h.0; ask = h.1; buyer = refl; seller = refl; quantity = refl }, refl, refl)) pairs_meet))

  -- and it has some quantity and the way 3
  pub rows_positive : Each (λ r. 0 < r.quantity) (clear_period period os).rows
  rows_positive =
      rw rows_are
      (each_mapped (λ r. 0 < r.quantity) (row_of period (price_of period os)) pairs_of
      (each_map (λ x. BidAt os period (price_of period os) x.bid × AskAt os period (price_of period os) x.ask × (0 < x.amount))
      (λ x. 0 < x.amount) pairs_of (λ x h. h.2) pairs_meet))

  pub rows-at_price : Each (λ r. (r.way ≡ 3) × (r.period ≡ period) × (r.price ≡ price_of period os)) (clear_period period os).rows
  rows-at_price =
      rw rows_are
      (each_mapped (λ r. (r.way ≡ 3) × (r.period ≡ period) × (r.price ≡ price_of period os)) (row_of period (price_of period os)) pairs_of
      (each_all (λ x. (3 ≡ 3) × (period ≡ period) × (price_of period os ≡ price_of period os)) pairs_of (λ x. (refl, refl, refl))))
