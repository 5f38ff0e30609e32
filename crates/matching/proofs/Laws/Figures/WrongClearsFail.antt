-- Each wrong clear breaks its part of job 10's statement and keeps the others (specs/WrongClears.antt).
use Prim.Native.Nat.{ℕ, ◌<◌, ◌≤◌}
use mathlib.Core.Path.{◌≡◌, refl, ap, ◌∙◌}
use mathlib.Core.Logic.{inl, inr}
use mathlib.Core.Bool.{Bool, true, false, cond, ◌&&◌}
use mathlib.Core.List.{List, [], ◌∷◌}
use native.Mathlib.Omega.{arith}
use lib.Dec.{eqb, leb, ltb}
use borrow.Author.Tests.{eq-eqb, eqb-true, leb-true, ltb-true}
use lib.ListN.{length}
use Rattle.measures.specs.Lists.{sum, table_from, Has, Along, every, sum_of, keep}
use Rattle.measures.specs.Sharing.{ahead, part, parts}
use Rattle.matching.specs.Orders.{Order, Row, lessen, bid_ahead, ask_ahead, insert, laid, rising, numbers}
use Rattle.matching.specs.Clearing.{
  traded_at,
  largest,
  cleared_volume,
  marginal,
  filled,
  fills_of,
  end_to_end,
  rows_of_bid,
  overlap_rows,
  after_fills,
  clear_period,
  clear_from,
}
use Rattle.matching.specs.Matchings.{Pair, paired_of, WithinOrders, FilledBy, Matching, NothingMore, NothingCrosses, OnePrice, FullyCleared, left_by}
use Rattle.matching.specs.Figures.{an_order, a_row, orders2}
use Rattle.matching.specs.WrongClears.{
  rows2,
  left2,
  AsRuled,
  half_rows,
  HalfTheVolume,
  dear_rows,
  PriceOutside,
  RestLost,
  two_apart,
  low_rows,
  CrossingPairLeft,
  two_rows,
  TwoPrices,
  one_unit,
  unit_rows,
  unit_left,
  OtherOrderOfTheUnit,
}
use Rattle.matching.proofs.Laws.Lists.EachLaws.{has_each, keep-sum}
use Rattle.matching.proofs.Laws.Lists.RemainLaws.{each_of}
use Rattle.matching.proofs.Laws.Lists.SumLaws.{sum_of_ext, sum_of_when}
use Rattle.matching.proofs.Laws.Matchings.WholeLaws.{one-price, fully_cleared}

-- orders of period 0, cleared
ruled : (os : List Order) → rising (numbers os) ≡ true → every (λ o. ltb 0 o.quantity) os ≡ true → every (λ o. ltb o.period 1) os ≡ true
    → FullyCleared os (clear_from 0 1 os).rows (clear_from 0 1 os).orders
ruled os rises some short =
    fully_cleared 1 os rises (each_of (λ o. ltb 0 o.quantity) (λ o. 0 < o.quantity) (λ o e. ltb-true _ _ e) os some)
    (each_of (λ o. ltb o.period 1) (λ o. o.period < 1) (λ o e. ltb-true _ _ e) os short)

-- rows of period 0: what they sum to there, and elsewhere
abbrev rows_of : ℕ → List Row → ℕ
rows_of p rs = sum_of (λ r. r.quantity) (keep (λ r. eqb r.period p) rs)

in_zero : (p : ℕ) (rs : List Row) → every (λ r. eqb r.period 0) rs ≡ true → rows_of p rs ≡ cond (eqb 0 p) (sum_of (λ r. r.quantity) rs) 0
in_zero p rs e =
    keep-sum (λ r. r.quantity) (λ r. eqb r.period p) rs
    ∙ sum_of_ext (λ r. cond (eqb r.period p) r.quantity 0) (λ r. cond (eqb 0 p) r.quantity 0) rs
    (each_of (λ (r : Row). eqb r.period 0) (λ (r : Row). cond (eqb r.period p) r.quantity 0 ≡ cond (eqb 0 p) r.quantity 0)
    (λ r q. rw (eqb-true r.period 0 q) refl) rs e)
    ∙ sum_of_when (eqb 0 p) (λ r. r.quantity) rs

-- rows that sum to no less than others trade no less
no_less : (os : List Order) (rs rs' : List Row) → every (λ r. eqb r.period 0) rs ≡ true → every (λ r. eqb r.period 0) rs' ≡ true
    → sum_of (λ r. r.quantity) rs ≤ sum_of (λ r. r.quantity) rs' → NothingMore os rs → NothingMore os rs'
no_less os rs rs' z z' l n period p xs m =
    omega (arith, n period p xs m, in_zero period rs z, in_zero period rs' z', either (eqb 0 period) l)
  where
    either : {a c : ℕ} (b : Bool) → a ≤ c → cond b a 0 ≤ cond b c 0
    either true h = h
    either false h = omega arith

at_one-price : (price : ℕ) (rs : List Row) → every (λ r. eqb r.price price) rs ≡ true → OnePrice rs
at_one-price price rs e = one-price (λ p. price) rs (each_of (λ r. eqb r.price price) (λ r. r.price ≡ price) (λ r q. eqb-true _ _ q) rs e)

-- bids alone do not cross
bids_alone : (os : List Order) → every (λ o. eqb o.direction 1) os ≡ true → NothingCrosses os
bids_alone os e bid ask hb ha b a same =
    let all = each_of (λ o. eqb o.direction 1) (λ o. o.direction ≡ 1) (λ o q. eqb-true _ _ q) os e in
    absurd (omega (arith, has_each (λ o. o.direction ≡ 1) os ask all ha))

-- a unit's order of a direction, where it has one alone
numbered : (os : List Order) (d u n : ℕ) → every (λ o. cond (eqb o.direction d && eqb u o.unit) (eqb o.number n) true) os ≡ true
    → (x : Order) → Has x os → x.direction ≡ d → u ≡ x.unit → x.number ≡ n
numbered os d u n e x m a c =
    has_each (λ o. o.direction ≡ d → u ≡ o.unit → o.number ≡ n) os x
    (each_of (λ (o : Order). cond (eqb o.direction d && eqb u o.unit) (eqb o.number n) true)
    (λ (o : Order). o.direction ≡ d → u ≡ o.unit → o.number ≡ n)
    (λ o t p q. eqb-true _ _ (rw (eq-eqb o.direction d p, eq-eqb u o.unit q) at t)) os e) m a c

-- pairs within their orders
within : (os : List Order) (xs : List Pair) → every (λ o. leb (paired_of o.number xs) o.quantity) os ≡ true → WithinOrders os xs
within os xs e =
    each_of (λ o. leb (paired_of o.number xs) o.quantity) (λ o. paired_of o.number xs ≤ o.quantity) (λ o q. leb-true _ _ q) os e

pub as_ruled : AsRuled
unfolding sum table_from ahead part parts lessen bid_ahead ask_ahead insert laid traded_at largest cleared_volume marginal filled
    fills_of end_to_end rows_of_bid overlap_rows after_fills clear_period clear_from rising
as_ruled = ruled orders2 refl refl refl

-- figure 2's orders
abbrev dear : Order
dear = an_order 1 1 1 500 10

abbrev low : Order
low = an_order 2 2 1 480 10

abbrev cheap : Order
cheap = an_order 3 3 0 450 10

abbrev high : Order
high = an_order 4 4 0 470 4

abbrev half_pair : Pair
half_pair = record { bid = dear; ask = cheap; amount = 7 }

-- both pairs of 01's clear are a matching, at 475
abbrev pairs2 : List Pair
pairs2 = record { bid = dear; ask = cheap; amount = 10 } ∷ record { bid = low; ask = high; amount = 4 } ∷ []

matched2 : Matching orders2 0 475 pairs2
matched2 =
    record {
      bids = (
        record { stands = inl refl; buys = refl; there = refl; above = omega arith },
        (record { stands = inr (inl refl); buys = refl; there = refl; above = omega arith }, tt),
      );
      asks = (
        record { stands = inr (inr (inl refl)); sells = refl; there = refl; below = omega arith },
        (record { stands = inr (inr (inr (inl refl))); sells = refl; there = refl; below = omega arith }, tt),
      );
      within = within orders2 pairs2 refl;
    }

pub half_the_volume : HalfTheVolume
unfolding left_by
half_the_volume = (
  record {
    pairs = half_pair ∷ [];
    fills = (
      record {
        bid = record { stands = inl refl; buys = refl; there = refl; above = omega arith };
        ask = record { stands = inr (inr (inl refl)); sells = refl; there = refl; below = omega arith };
        buyer = refl;
        seller = refl;
        quantity = refl;
      },
      tt,
    );
    within = within orders2 (half_pair ∷ []) refl;
    left = refl;
  },
  at_one-price 475 half_rows refl,
  λ n. let l : 14 ≤ 7 = n 0 475 pairs2 matched2 in omega arith,
)

pub price_outside : PriceOutside
price_outside = (
  no_less orders2 rows2 dear_rows refl refl (omega arith) as_ruled.nothing_more,
  bids_alone left2 refl,
  at_one-price 481 dear_rows refl,
  λ f. outside f.pairs f.fills,
)
  where
    -- the second row's bid would be unit 2's at 481 or above
    outside : (xs : List Pair) → Along (FilledBy orders2) xs dear_rows → ⊥
    outside [] e = e
    outside (x ∷ []) e = e.1
    outside (x ∷ y ∷ xs) e =
        let g = e.1.0 in
        has_each (λ o. o.direction ≡ 1 → 2 ≡ o.unit → 481 ≤ o.price → ⊥) orders2 y.bid
        (λ d u l. omega arith, (λ d u l. omega arith, (λ d u l. omega arith, (λ d u l. omega arith, tt)))) g.bid.stands g.bid.buys g.buyer
        g.bid.above

pub rest_lost : RestLost
unfolding left_by
rest_lost = (as_ruled.nothing_more, bids_alone [] refl, as_ruled.one_price, λ f. lost f.pairs f.fills f.left)
  where
    lost : (xs : List Pair) → Along (FilledBy orders2) xs rows2 → [] ≡ left_by xs orders2 → ⊥
    lost [] e l = e
    lost (x ∷ []) e l = e.1
    lost (x ∷ y ∷ z ∷ xs) e l = e.1.1
    lost (x ∷ y ∷ []) e l =
        let g = e.0 in
        let h = e.1.0 in
        let xb = numbered orders2 1 1 1 refl x.bid g.bid.stands g.bid.buys g.buyer in
        let xa = numbered orders2 0 3 3 refl x.ask g.ask.stands g.ask.sells g.seller in
        let yb = numbered orders2 1 2 2 refl y.bid h.bid.stands h.bid.buys h.buyer in
        let ya = numbered orders2 0 4 4 refl y.ask h.ask.stands h.ask.sells h.seller in
        let k : [] ≡ left2 = rw (xb, xa, yb, ya, ← g.quantity, ← h.quantity) at l in
        let n : ◌≡◌ {A = ℕ} 0 1 = ap length k in
        omega arith

-- the orders of two_apart
abbrev first : Order
first = an_order 1 1 1 500 5

abbrev second : Order
second = an_order 2 2 1 460 5

abbrev third : Order
third = an_order 3 3 0 450 5

abbrev fourth : Order
fourth = an_order 4 4 0 490 5

most-apart : NothingMore two_apart low_rows
unfolding sum table_from ahead part parts lessen bid_ahead ask_ahead insert laid traded_at largest cleared_volume marginal filled
    fills_of end_to_end rows_of_bid overlap_rows after_fills clear_period clear_from rising
most-apart = no_less two_apart (a_row 3 3 1 5 475 ∷ []) low_rows refl refl (omega arith) (ruled two_apart refl refl refl).nothing_more

-- the lower bid with the cheaper ask, at 455
abbrev low_pair : Pair
low_pair = record { bid = second; ask = third; amount = 5 }

low-filled : FilledBy two_apart low_pair (a_row 3 3 2 5 455)
low-filled = record {
  bid = record { stands = inr (inl refl); buys = refl; there = refl; above = omega arith };
  ask = record { stands = inr (inr (inl refl)); sells = refl; there = refl; below = omega arith };
  buyer = refl;
  seller = refl;
  quantity = refl;
}

pub crossing_pair_left : CrossingPairLeft
unfolding left_by
crossing_pair_left = (
  most-apart,
  record { pairs = low_pair ∷ []; fills = (low-filled, tt); within = within two_apart (low_pair ∷ []) refl; left = refl },
  at_one-price 455 low_rows refl,
  λ n. let l : 500 < 490 = n first fourth (inl refl) (inr (inl refl)) refl refl refl in omega arith,
)

-- and the higher bid with the dearer ask, at 495
abbrev high_pair : Pair
high_pair = record { bid = first; ask = fourth; amount = 5 }

pub two_prices : TwoPrices
unfolding left_by
two_prices = (
  no_less two_apart low_rows two_rows refl refl (omega arith) most-apart,
  bids_alone [] refl,
  record {
    pairs = low_pair ∷ high_pair ∷ [];
    fills = (
      low-filled,
      (
        record {
          bid = record { stands = inl refl; buys = refl; there = refl; above = omega arith };
          ask = record { stands = inr (inr (inr (inl refl))); sells = refl; there = refl; below = omega arith };
          buyer = refl;
          seller = refl;
          quantity = refl;
        },
        tt,
      ),
    );
    within = within two_apart (low_pair ∷ high_pair ∷ []) refl;
    left = refl;
  },
  λ n. let e : ◌≡◌ {A = ℕ} 455 495 = n.0.1.0 refl in omega arith,
)

pub other_order_of_the_unit : OtherOrderOfTheUnit
unfolding sum table_from ahead part parts lessen bid_ahead ask_ahead insert laid traded_at largest cleared_volume marginal filled
    fills_of end_to_end rows_of_bid overlap_rows after_fills clear_period clear_from rising left_by
other_order_of_the_unit = (
  (ruled one_unit refl refl refl).nothing_more,
  bids_alone unit_left refl,
  at_one-price 475 unit_rows refl,
  λ f. other f.pairs f.fills f.left,
)
  where
    other : (xs : List Pair) → Along (FilledBy one_unit) xs unit_rows → unit_left ≡ left_by xs one_unit → ⊥
    other [] e l = e
    other (x ∷ y ∷ xs) e l = e.1
    other (x ∷ []) e l =
        let g = e.0 in
        let b = has_each (λ o. o.direction ≡ 1 → 475 ≤ o.price → o ≡ an_order 1 1 1 500 10) one_unit x.bid
        (λ d p. refl, (λ d p. absurd (omega arith), (λ d p. absurd (omega arith), tt))) g.bid.stands g.bid.buys g.bid.above in
        let a = has_each (λ o. o.direction ≡ 0 → o ≡ an_order 3 3 0 450 10) one_unit x.ask
        (λ d. absurd (omega arith), (λ d. absurd (omega arith), (λ d. refl, tt))) g.ask.stands g.ask.sells in
        let k : unit_left ≡ an_order 2 1 1 440 10 ∷ [] = rw (b, a, ← g.quantity) at l in
        let n : ◌≡◌ {A = ℕ} 1 2 = ap (sum_of (λ (o : Order). o.number)) k in
        omega arith
