-- No matching of a period trades more than its volume: not at any price, in no amounts.
use Prim.Native.Nat.{ℕ, ◌+◌, ◌≤◌}
use mathlib.Core.Path.{◌≡◌, refl}
use mathlib.Core.Bool.{Bool, true, false, cond, ◌&&◌}
use mathlib.Core.List.{List, [], ◌∷◌}
use native.Mathlib.Omega.{arith}
use lib.Dec.{eqb, leb}
use borrow.Author.Tests.{eq-eqb, le-leb}
use Rattle.measures.specs.Lists.{Each, Has, sum_of, keep}
use Rattle.measures.proofs.ListLaws.{and_true}
use Rattle.matching.specs.Orders.{Order, buys, sells, quantities, laid, bids, asks, bid_ahead, ask_ahead}
use Rattle.matching.specs.Matchings.{Pair, paired, paired_of, BidAt, AskAt, Matching, AnyOrders}
use Rattle.matching.proofs.Laws.Lists.EachLaws.{each_map, each_all, each_keep, keep_has}
use Rattle.matching.proofs.Laws.Lists.SumLaws.{sum_of_ext, sum_of_le, sum_of_plus, sum_of_has}
use Rattle.matching.proofs.Laws.Clearing.VolumeLaws.{demand, supply, traded, no-price_trades_more}
use Rattle.matching.proofs.Laws.Clearing.SideLaws.{kind_quantities}
use Rattle.matching.proofs.Laws.Clearing.PeriodLaws.{is_bid, is_ask, volume}
use Rattle.matching.proofs.Laws.Clearing.ClearingLaws.{rows-sum}

-- one side of the pairs: what they take of it under a number
module _ (side : Pair → Order) where
  abbrev taken_of : ℕ → List Pair → ℕ
  taken_of n xs = paired (keep (λ x. eqb (side x).number n) xs)

  -- each pair counts under its order
  each_counted : (l : List Order) (xs : List Pair) → Each (λ x. Has (side x) l) xs → paired xs ≤ sum_of (λ o. taken_of o.number xs) l
  each_counted l [] e = omega arith
  each_counted l (x ∷ xs) e =
      let ih = each_counted l xs e.1 in
      let p = sum_of_plus (λ o. cond (eqb (side x).number o.number) x.amount 0) (λ o. taken_of o.number xs) l in
      let h = sum_of_has (λ o. cond (eqb (side x).number o.number) x.amount 0) l (side x) e.0 in
      let s : cond (eqb (side x).number (side x).number) x.amount 0 ≡ x.amount = rw (eq-eqb (side x).number (side x).number refl) refl in
      let q = sum_of_ext (λ o. taken_of o.number (x ∷ xs)) (λ o. cond (eqb (side x).number o.number) x.amount 0 + taken_of o.number xs) l
      (each_all (λ o. taken_of o.number (x ∷ xs) ≡ cond (eqb (side x).number o.number) x.amount 0 + taken_of o.number xs) l
      (λ o. first (eqb (side x).number o.number) (keep (λ y. eqb (side y).number o.number) xs))) in
      omega arith
    where
      first : (b : Bool) (k : List Pair) → paired (cond b (x ∷ k) k) ≡ cond b x.amount 0 + paired k
      first true k = refl
      first false k = omega arith

  -- pairs of orders of a kind, at prices that pass a test, trade at most what these have
  side-most : (kind : Order → Bool) (ahead : Order → Order → Bool) (h : ℕ → Bool) (os : List Order) (xs : List Pair)
      → Each (λ x. Has (side x) os × ((kind (side x) && h (side x).price) ≡ true)) xs → Each (λ o. taken_of o.number xs ≤ o.quantity) os
      → paired xs ≤ quantities (keep (λ o. h o.price) (laid ahead (keep kind os)))
  side-most kind ahead h os xs e w =
      let l = keep (λ o. kind o && h o.price) os in
      let c = each_counted l xs (each_map (λ x. Has (side x) os × ((kind (side x) && h (side x).price) ≡ true)) (λ x. Has (side x) l) xs
      (λ x m. keep_has (λ o. kind o && h o.price) os (side x) m.1 m.0) e) in
      let d = sum_of_le (λ o. taken_of o.number xs) (λ o. o.quantity) l
      (each_keep (λ o. taken_of o.number xs ≤ o.quantity) (λ o. kind o && h o.price) os w) in
      let k = kind_quantities kind ahead os h in
      omega arith

module _ (os : List Order) (period p : ℕ) (xs : List Pair) (m : Matching os period p xs) where
  bids-most : paired xs ≤ demand (bids period os) p
  bids-most =
      side-most (λ x. x.bid) (is_bid period) bid_ahead (λ q. leb p q) os xs
      (each_map (λ x. BidAt os period p x.bid) (λ x. Has x.bid os × ((is_bid period x.bid && leb p x.bid.price) ≡ true)) xs
      (λ x b. (
        b.stands,
        and_true (is_bid period x.bid) (leb p x.bid.price)
            (and_true (buys x.bid.direction) (eqb x.bid.period period) (eq-eqb _ _ b.buys) (eq-eqb _ _ b.there)) (le-leb _ _ b.above),
      )) m.bids)
      (each_map (λ o. paired_of o.number xs ≤ o.quantity) (λ o. taken_of (λ x. x.bid) o.number xs ≤ o.quantity) os (λ o w. omega arith) m.within)

  asks-most : paired xs ≤ supply (asks period os) p
  asks-most =
      side-most (λ x. x.ask) (is_ask period) ask_ahead (λ q. leb q p) os xs
      (each_map (λ x. AskAt os period p x.ask) (λ x. Has x.ask os × ((is_ask period x.ask && leb x.ask.price p) ≡ true)) xs
      (λ x a. (
        a.stands,
        and_true (is_ask period x.ask) (leb x.ask.price p)
            (and_true (sells x.ask.direction) (eqb x.ask.period period) (eq-eqb _ _ a.sells) (eq-eqb _ _ a.there)) (le-leb _ _ a.below),
      )) m.asks)
      (each_map (λ o. paired_of o.number xs ≤ o.quantity) (λ o. taken_of (λ x. x.ask) o.number xs ≤ o.quantity) os (λ o w. omega arith) m.within)

  pub matching_most : paired xs ≤ volume period os
  matching_most =
      omega (arith, bids-most, asks-most, traded (bids period os) (asks period os) p, no-price_trades_more (bids period os) (asks period os) p)

pub nothing_trades_more : AnyOrders
nothing_trades_more os period p xs m = omega (arith, matching_most os period p xs m, rows-sum period os)
