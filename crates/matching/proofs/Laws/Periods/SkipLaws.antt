-- Prices noted by period, and periods in which none meet: there is nothing to clear in these.
use Prim.Native.Nat.{ℕ, ◌+◌, ◌*◌, ◌≤◌, ◌<◌, min}
use mathlib.Core.Path.{◌≡◌, refl, sym, ap, ◌∙◌}
use mathlib.Core.Bool.{true, false}
use mathlib.Core.List.{List, [], ◌++◌, append-nil}
use native.Mathlib.Omega.{arith}
use native.Mathlib.Decide.{ℕ_discrete, dec_lt}
use borrow.Author.Tests.{eqb-true, eq-eqb, lt-leb, leb-false, ltb-false}
use lib.ListN.{length, get_or}
use lib.Seq.{get_or-set_same, get_or-set_other}
use lib.Dec.{eqb, leb, ltb}
use Rattle.measures.specs.Lists.{Each, keep}
use Rattle.measures.proofs.ListLaws.{cond-true, and_left, and_right, or_neither}
use Rattle.matching.specs.Orders.{Order, Row, buys, sells, bids, asks, bid_ahead, ask_ahead, quantities}
use Rattle.matching.specs.Memory.{most_word, order_at, orders_in, no_order, written}
use Rattle.matching.specs.Clearing.{Cleared, traded_at, cleared_volume, clear_period}
use Rattle.matching.proofs.Laws.Lists.EachLaws.{each_map, each_both, each_all, each_keep, kept, keep-nothing}
use Rattle.matching.proofs.Laws.Orders.LaidLaws.{laid_each}
use Rattle.matching.proofs.Laws.Clearing.VolumeLaws.{largest_below}
use Rattle.matching.proofs.Laws.Orders.OrderLaws.{orders_at_lem, orders_length}
use Rattle.matching.proofs.Laws.Clearing.PeriodLaws.{is_bid, is_ask}
use Rattle.matching.specs.Prices.{high_with, low_with}
use Rattle.matching.specs.Inner.Periods.{PricedBy, prices_meet, Stepped}
use Rattle.matching.proofs.Laws.Lists.RemainLaws.{each_by, remains_each}
use Rattle.matching.proofs.Laws.Orders.LeftLaws.{LessOrder, cleared_remain}
use Rattle.matching.proofs.Laws.Periods.NoteLaws.{
  high-most,
  high-not,
  low_new,
  low-not,
  high_past,
  low_past,
  high-length,
  low-length,
}

module _ (p : ℕ) (os : List Order) (high low : List ℕ) (b : Each (PricedBy high low) os) (short : p < 744)
    (e : prices_meet high low p ≡ false) where
  topped : get_or high p 0 < most_word
  unfolding prices_meet
  topped = leb-false most_word (get_or high p 0) (or_neither (leb most_word (get_or high p 0)) (ltb (get_or low p 0) (get_or high p 0)) e).0

  apart : get_or high p 0 ≤ get_or low p 0
  unfolding prices_meet
  apart = ltb-false (get_or low p 0) (get_or high p 0) (or_neither (leb most_word (get_or high p 0)) (ltb (get_or low p 0) (get_or high p 0)) e).1

  bids-low : Each (λ (o : Order). o.price < get_or high p 0) (bids p os)
  bids-low =
      laid_each bid_ahead (λ (o : Order). o.price < get_or high p 0) (keep (is_bid p) os)
      (each_both (λ (o : Order). is_bid p o ≡ true) (PricedBy high low) (λ (o : Order). o.price
      < get_or high p 0) (keep (is_bid p) os) at (kept (is_bid p) os) (each_keep (PricedBy high low) (is_bid p) os b))
    where
      at : (o : Order) → is_bid p o ≡ true → PricedBy high low o → o.price < get_or high p 0
      at o t q =
          let f : o.period ≡ p = eqb-true o.period p (and_right (buys o.direction) (eqb o.period p) t) in
          let w : get_or high o.period 0 ≡ get_or high p 0 = ap (λ (i : ℕ). get_or high i 0) f in
          let z = q.bid (omega arith) (eqb-true o.direction 1 (and_left (buys o.direction) (eqb o.period p) t)) (omega (arith, topped)) in
          omega arith

  asks-high : Each (λ (o : Order). get_or low p 0 ≤ o.price) (asks p os)
  asks-high =
      laid_each ask_ahead (λ (o : Order). get_or low p 0 ≤ o.price) (keep (is_ask p) os)
      (each_both (λ (o : Order). is_ask p o ≡ true) (PricedBy high low) (λ (o : Order). get_or low p 0
      ≤ o.price) (keep (is_ask p) os) at (kept (is_ask p) os) (each_keep (PricedBy high low) (is_ask p) os b))
    where
      at : (o : Order) → is_ask p o ≡ true → PricedBy high low o → get_or low p 0 ≤ o.price
      at o t q =
          let f : o.period ≡ p = eqb-true o.period p (and_right (sells o.direction) (eqb o.period p) t) in
          let z = q.ask (omega arith) (eqb-true o.direction 0 (and_left (sells o.direction) (eqb o.period p) t)) in
          let e : get_or low o.period 0 ≡ get_or low p 0 = ap (λ (i : ℕ). get_or low i 0) f in
          omega arith

  traded_none : (x : ℕ) → traded_at (bids p os) (asks p os) x ≤ 0
  unfolding traded_at
  traded_none x = go (dec_lt x (get_or high p 0))
    where
      go : Dec (x < get_or high p 0) → min (quantities (keep (λ (o : Order). leb x o.price) (bids p os)))
          (quantities (keep (λ (o : Order). leb o.price x) (asks p os))) ≤ 0
      go (yes l) =
          let e : quantities (keep (λ (o : Order). leb o.price x) (asks p os)) ≡ 0 =
          ap quantities (keep-nothing (λ (o : Order). leb o.price x) (asks p os) (each_map (λ (o : Order). get_or low p 0
          ≤ o.price) (λ (o : Order). leb o.price x ≡ false) (asks p os) (λ o q. lt-leb o.price x (omega (arith, apart))) asks-high)) in
          omega arith
      go (no l) =
          let e : quantities (keep (λ (o : Order). leb x o.price) (bids p os)) ≡ 0 =
          ap quantities (keep-nothing (λ (o : Order). leb x o.price) (bids p os) (each_map (λ (o : Order). o.price
          < get_or high p 0) (λ (o : Order). leb x o.price ≡ false) (bids p os) (λ o q. lt-leb x o.price (omega arith)) bids-low)) in
          omega arith

  volume_none : cleared_volume (bids p os) (asks p os) ≡ 0
  unfolding cleared_volume
  volume_none =
      let z = largest_below (λ (o : Order). traded_at (bids p os) (asks p os) o.price) (bids p os
      ++ asks p os) 0 (each_all (λ (o : Order). traded_at (bids p os) (asks p os) o.price ≤ 0) (bids p os
      ++ asks p os) (λ o. traded_none o.price)) in
      omega arith

  skipped : clear_period p os ≡ record { rows = []; orders = os }
  unfolding clear_period
  skipped = cond-true (eqb (cleared_volume (bids p os) (asks p os)) 0) _ _ (eq-eqb (cleared_volume (bids p os) (asks p os)) 0 volume_none) refl

-- a period that is skipped is cleared
pub stepped_by : (m rows : List ℕ) (n p count : ℕ) (high low : List ℕ) → Each (PricedBy high low) (orders_in m n) → p < 744
    → prices_meet high low p ≡ false → Stepped m rows n p count count n m rows
stepped_by m rows n p count high low b short h =
    let e = skipped p (orders_in m n) high low b short h in
    let r : (clear_period p (orders_in m n)).rows ≡ [] = ap (λ (c : Cleared). c.rows) e in
    let l : length (clear_period p (orders_in m n)).rows ≡ 0 = ap length r in
    record {
      orders = sym (ap (λ (c : Cleared). c.orders) e);
      counted = omega arith;
      handed = λ d rs k w. w ∙ ap (λ (x : List Row). written d x) (sym (append-nil rs) ∙ ap (λ (x : List Row). rs ++ x) (sym r));
      past = refl;
    }

-- what is left has its prices noted still
pub priced_after : (m rows : List ℕ) (n p count count' n' : ℕ) (m' rows' high low : List ℕ) → Stepped m rows n p count count' n' m' rows'
    → Each (PricedBy high low) (orders_in m n) → Each (PricedBy high low) (orders_in m' n')
priced_after m rows n p count count' n' m' rows' high low s b =
    rw s.orders
    (remains_each LessOrder (PricedBy high low) (PricedBy high low) (λ x y l q. rw l.is (record { bid = q.bid; ask = q.ask }))
    (cleared_remain p (orders_in m n)) b)

-- an order's price entered
module _ (o : Order) (high low : List ℕ) (lh : length high ≡ 744) (ll : length low ≡ 744) where
  own_priced : PricedBy (high_with o.direction o.period o.price high) (low_with o.direction o.period o.price low) o
  own_priced = record {
    bid = λ s e t. bid s e t (dec_lt o.price (get_or high o.period 0));
    ask = λ s e. ask s (λ z. omega arith) (dec_lt o.price (get_or low o.period 0));
  }
    where
      bid : o.period < 744 → o.direction ≡ 1 → get_or (high_with o.direction o.period o.price high) o.period 0 < most_word
          → Dec (o.price < get_or high o.period 0) → o.price < get_or (high_with o.direction o.period o.price high) o.period 0
      bid s e t (yes u) = rw (high-not o.direction o.period o.price high (λ _. u)) u
      bid s e t (no u) =
          let x : get_or (high_with o.direction o.period o.price high) o.period 0 ≡ min (o.price + 1) most_word =
          ap (λ (l : List ℕ). get_or l o.period 0) (high-most o.direction o.period o.price high e (omega arith))
          ∙ get_or-set_same high o.period (min (o.price + 1) most_word) 0 (omega arith) in
          omega arith

      ask : o.period < 744 → (o.direction ≡ 1 → ⊥) → Dec (o.price < get_or low o.period 0)
          → get_or (low_with o.direction o.period o.price low) o.period 0 ≤ o.price
      ask s n (yes u) = rw (low_new o.direction o.period o.price low n u)
          (omega (arith, get_or-set_same low o.period o.price 0 (omega arith)))
      ask s n (no u) = rw (low-not o.direction o.period o.price low (λ _. omega arith)) (omega arith)

-- and none that was entered is lost
module _ (d p price : ℕ) where
  high-more : (high : List ℕ) → price ≤ most_word → (q : ℕ) → get_or high q 0 ≤ get_or (high_with d p price high) q 0
  high-more high small q = go (dec_lt p (length high)) (ℕ_discrete d 1) (dec_lt price (get_or high p 0)) (ℕ_discrete q p)
    where
      top : ℕ
      top = min (price + 1) most_word

      go : Dec (p < length high) → Dec (d ≡ 1) → Dec (price < get_or high p 0) → Dec (q ≡ p) → get_or high q 0 ≤ get_or (high_with d p price high) q 0
      go (no r) z u e = rw (high_past d p price high (omega arith)) (omega arith)
      go (yes r) (no n) u e = rw (high-not d p price high (λ z. absurd (n z))) (omega arith)
      go (yes r) (yes z) (yes u) e = rw (high-not d p price high (λ _. u)) (omega arith)
      go (yes r) (yes z) (no u) (yes e) =
          rw (high-most d p price high z (omega arith), e) (omega (arith, get_or-set_same high p (min (price + 1) most_word) 0 r))
      go (yes r) (yes z) (no u) (no e) =
          rw (high-most d p price high z (omega arith)) (omega (arith, get_or-set_other high p q (min (price + 1) most_word) 0 e))

  low-less : (low : List ℕ) → (q : ℕ) → get_or (low_with d p price low) q 0 ≤ get_or low q 0
  low-less low q = go (dec_lt p (length low)) (ℕ_discrete d 1) (dec_lt price (get_or low p 0)) (ℕ_discrete q p)
    where
      go : Dec (p < length low) → Dec (d ≡ 1) → Dec (price < get_or low p 0) → Dec (q ≡ p) → get_or (low_with d p price low) q 0 ≤ get_or low q 0
      go (no r) z u e = rw (low_past d p price low (omega arith)) (omega arith)
      go (yes r) (yes z) u e = rw (low-not d p price low (λ n. absurd (n z))) (omega arith)
      go (yes r) (no n) (no u) e = rw (low-not d p price low (λ _. omega arith)) (omega arith)
      go (yes r) (no n) (yes u) (yes e) = rw (low_new d p price low n u, e) (omega (arith, get_or-set_same low p price 0 r))
      go (yes r) (no n) (yes u) (no e) = rw (low_new d p price low n u) (omega (arith, get_or-set_other low p q price 0 e))

-- the orders below k have their prices noted
pub record NotedTo (m high low : List ℕ) (k : ℕ) : Type 0 where
  pub long_high : length high ≡ 744
  pub long_low : length low ≡ 744
  pub priced : (i : ℕ) → i < k → PricedBy high low (order_at m i)

module _ (m high low : List ℕ) (k : ℕ) (s : NotedTo m high low k) (small : get_or m (6 * k + 4) 0 ≤ most_word) where
  abbrev d : ℕ
  d = get_or m (6 * k + 2) 0

  abbrev p : ℕ
  p = get_or m (6 * k + 3) 0

  abbrev price : ℕ
  price = get_or m (6 * k + 4) 0

  pub noted_more : NotedTo m (high_with d p price high) (low_with d p price low) (k + 1)
  noted_more = record {
    long_high = high-length d p price high ∙ s.long_high;
    long_low = low-length d p price low ∙ s.long_low;
    priced = λ i h. go i h (ℕ_discrete i k);
  }
    where
      go : (i : ℕ) → i < k + 1 → Dec (i ≡ k) → PricedBy (high_with d p price high) (low_with d p price low) (order_at m i)
      go i h (yes e) = rw e (own_priced (order_at m k) high low s.long_high s.long_low)
      go i h (no e) =
          let q = s.priced i (omega arith) in
          let a = high-more d p price high small (order_at m i).period in
          let b = low-less d p price low (order_at m i).period in
          record {
            bid = λ r z t. let x = q.bid r z (omega arith) in omega arith;
            ask = λ r z. let x = q.ask r z in omega arith;
          }

pub noted_all : (m high low : List ℕ) (k n : ℕ) → k ≡ n → NotedTo m high low k → Each (PricedBy high low) (orders_in m n)
noted_all m high low k n e s =
    each_by (PricedBy high low) (orders_in m n) no_order (λ i h. let l : i
    < n = omega (arith, orders_length m n) in rw (orders_at_lem m n i l) (s.priced i (omega arith)))
