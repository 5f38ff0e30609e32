-- All periods cleared, one after the other: nothing would have traded more, each row fills a bid and an ask, and nothing is left that crosses.
use Prim.Native.Nat.{ℕ, zero, suc, ◌+◌, ◌<◌, ◌≤◌}
use mathlib.Core.Path.{◌≡◌, refl, sym, ap, ap₂, ◌∙◌}
use mathlib.Core.Bool.{true, false}
use mathlib.Core.List.{List, [], ◌∷◌, ◌++◌}
use native.Mathlib.Omega.{arith}
use native.Mathlib.Decide.{ℕ_discrete, dec_lt}
use lib.Dec.{eqb}
use borrow.Author.Tests.{eq-eqb, ne_eqb}
use Rattle.measures.specs.Lists.{Each, Has, Along, sum_of, keep}
use Rattle.measures.proofs.ListLaws.{and_true}
use Rattle.matching.specs.Orders.{Order, Row, buys, sells, numbers, rising}
use Rattle.matching.specs.Clearing.{clear_period, clear_from}
use Rattle.matching.specs.Matchings.{
  Pair,
  paired,
  paired_of,
  BidAt,
  WithinOrders,
  FilledBy,
  left_by,
  NothingMore,
  NothingCrosses,
  OnePrice,
  FullyCleared,
}
use Rattle.matching.proofs.Laws.Lists.EachLaws.{
  each_map,
  each_has,
  has_each,
  keep_all,
  keep-nothing,
  keep-sum_append,
  along_append,
  along_imp,
  along_left,
  along_right,
}
use Rattle.matching.proofs.Laws.Orders.LessenLaws.{Numbered, rising-numbered, same_number}
use Rattle.matching.proofs.Laws.Clearing.PeriodLaws.{volume, price_of}
use Rattle.matching.proofs.Laws.Clearing.ClearingLaws.{FilledHere, pairs_of, rows_fill, rows-sum}
use Rattle.matching.proofs.Laws.Clearing.RestLaws.{numbers_rise_after, rests_positive}
use Rattle.matching.proofs.Laws.Clearing.CrossLaws.{nothing_crosses_after}
use Rattle.matching.proofs.Laws.Matchings.LeftByLaws.{Open, less_by, left_each, less_same, less_none, less_twice, cleared-left, cleared_within}
use Rattle.matching.proofs.Laws.Matchings.MostLaws.{matching_most}
use Rattle.matching.proofs.Laws.Matchings.ElsewhereLaws.{stands_after, stood_before, volume_stays, price_stays}

-- what two lists of pairs take of an order, and leave
paired_append : (n : ℕ) (xs ys : List Pair) → paired_of n (xs ++ ys) ≡ paired_of n xs + paired_of n ys
paired_append n xs ys =
    omega (
      arith,
      keep-sum_append (λ x. x.amount) (λ x. eqb x.bid.number n) xs ys,
      keep-sum_append (λ x. x.amount) (λ x. eqb x.ask.number n) xs ys,
    )

left_append : (xs ys : List Pair) (os : List Order) → left_by (xs ++ ys) os ≡ left_by ys (left_by xs os)
unfolding left_by less_by
left_append xs ys os =
    less_same (λ n. paired_of n (xs ++ ys)) (λ n. paired_of n xs + paired_of n ys) (λ n. paired_append n xs ys) os
    ∙ sym (less_twice (λ n. paired_of n xs) (λ n. paired_of n ys) os)

left_none : (os : List Order) → Open os → left_by [] os ≡ os
unfolding left_by less_by
left_none os p = less_none (λ n. 0) os (each_has (λ o. 0 ≡ 0) os (λ o m. refl)) p

-- pairs of orders of os that are not o's period take nothing of o
abbrev Elsewhere : List Order → ℕ → Order → Type 0
Elsewhere os p o = Has o os × (o.period ≡ p → ⊥)

unpaired : (os : List Order) (o : Order) (xs : List Pair) → Numbered os → Has o os
    → Each (λ x. Elsewhere os o.period x.bid × Elsewhere os o.period x.ask) xs → paired_of o.number xs ≡ 0
unpaired os o xs r m e = ap₂ (λ (k l : List Pair). paired k + paired l) (none (λ x. x.bid) (λ x h. h.0)) (none (λ x. x.ask) (λ x h. h.1))
  where
    none : (side : Pair → Order) → ((x : Pair) → Elsewhere os o.period x.bid × Elsewhere os o.period x.ask → Elsewhere os o.period (side x))
        → keep (λ x. eqb (side x).number o.number) xs ≡ []
    none side pick =
        keep-nothing (λ x. eqb (side x).number o.number) xs
        (each_map (λ x. Elsewhere os o.period x.bid × Elsewhere os o.period x.ask) (λ x. eqb (side x).number o.number ≡ false) xs
        (λ x h. ne_eqb (side x).number o.number
        (λ q. (pick x h).1 (ap (λ (z : Order). z.period) (same_number os (side x) o r (pick x h).0 m q)))) e)

-- the pair x is filled by the row r, of a period from q on, at that period's price
abbrev FilledFrom : ℕ → List Order → Pair → Row → Type 0
FilledFrom q os x r = FilledBy os x r × (q ≤ r.period) × (r.price ≡ price_of r.period os)

-- of the orders os the periods from q on were cleared, k of them: the rows rs, and the orders left, os'
record ClearedFrom (q k : ℕ) (os : List Order) (rs : List Row) (os' : List Order) : Type 0 where
  pairs : List Pair
  fills : Along (FilledFrom q os) pairs rs
  within : WithinOrders os pairs
  left : os' ≡ left_by pairs os
  sums : (p : ℕ) → q ≤ p → p < q + k → sum_of (λ r. r.quantity) (keep (λ r. eqb r.period p) rs) ≡ volume p os

-- one period, then those behind it
module _ (q k : ℕ) (os : List Order) (rises : rising (numbers os) ≡ true) (some : Open os) (rs : List Row) (os' : List Order)
    (rest : ClearedFrom (suc q) k (clear_period q os).orders rs os') where
  abbrev own : List Pair
  own = pairs_of q os

  behind : Along (FilledFrom (suc q) os) rest.pairs rs
  behind =
      along_imp (FilledFrom (suc q) (clear_period q os).orders) (FilledFrom (suc q) os)
      (λ x r f.
      let g = f.0 in
      let later = f.1 in
      let apart : (o : Order) → o.period ≡ r.period → o.period ≡ q → ⊥ = λ o e h. omega arith in (
        record {
          bid = record {
            stands = stood_before q os rises x.bid (apart x.bid g.bid.there) g.bid.stands;
            buys = g.bid.buys;
            there = g.bid.there;
            above = g.bid.above;
          };
          ask = record {
            stands = stood_before q os rises x.ask (apart x.ask g.ask.there) g.ask.stands;
            sells = g.ask.sells;
            there = g.ask.there;
            below = g.ask.below;
          };
          buyer = g.buyer;
          seller = g.seller;
          quantity = g.quantity;
        },
        later,
        f.2 ∙ price_stays q os rises r.period (omega arith),
      ))
      rest.pairs rs rest.fills

  here : Along (FilledFrom q os) own (clear_period q os).rows
  here =
      along_imp (FilledHere q os) (FilledFrom q os)
      (λ x r f. let e = f.1 in (f.0, omega arith, f.2 ∙ ap (λ (p : ℕ). price_of p os) (sym e)))
      own (clear_period q os).rows (rows_fill q os)

  all_fills : Along (FilledFrom q os) (own ++ rest.pairs) ((clear_period q os).rows ++ rs)
  all_fills =
      along_append (FilledFrom q os) own rest.pairs (clear_period q os).rows rs here
      (along_imp (FilledFrom (suc q) os) (FilledFrom q os) (λ x r f. let l = f.1 in (f.0, omega arith, f.2)) rest.pairs rs behind)

  all_within : WithinOrders os (own ++ rest.pairs)
  all_within = each_has (λ o. paired_of o.number (own ++ rest.pairs) ≤ o.quantity) os (λ o m. go o m (ℕ_discrete o.period q))
    where
      n : Numbered os
      n = rising-numbered os rises

      go : (o : Order) → Has o os → Dec (o.period ≡ q) → paired_of o.number (own ++ rest.pairs) ≤ o.quantity
      go o m (yes e) =
          let z = unpaired os o rest.pairs n m
          (along_left (FilledFrom (suc q) os) (λ x. Elsewhere os o.period x.bid × Elsewhere os o.period x.ask)
          (λ x r f.
          let l = f.1 in
          let b = f.0.bid.there in
          let a = f.0.ask.there in
          ((f.0.bid.stands, λ h. omega arith), (f.0.ask.stands, λ h. omega arith))) rest.pairs rs behind) in
          let w = has_each (λ o. paired_of o.number own ≤ o.quantity) os o (cleared_within q os rises) m in
          omega (arith, paired_append o.number own rest.pairs)
      go o m (no e) =
          let z = unpaired os o own n m
          (along_left (FilledHere q os) (λ x. Elsewhere os o.period x.bid × Elsewhere os o.period x.ask)
          (λ x r f.
          let l = f.1 in
          let b = f.0.bid.there in
          let a = f.0.ask.there in
          ((f.0.bid.stands, λ h. e (omega arith)), (f.0.ask.stands, λ h. e (omega arith)))) own (clear_period q os).rows (rows_fill q os)) in
          let w = has_each (λ o. paired_of o.number rest.pairs ≤ o.quantity) (clear_period q os).orders o rest.within
          (stands_after q os rises o e m) in
          omega (arith, paired_append o.number own rest.pairs)

  all_left : os' ≡ left_by (own ++ rest.pairs) os
  all_left = rest.left ∙ ap (left_by rest.pairs) (cleared-left q os rises some) ∙ sym (left_append own rest.pairs os)

  -- the rows of a period
  abbrev rows_of : ℕ → List Row → ℕ
  rows_of p l = sum_of (λ r. r.quantity) (keep (λ r. eqb r.period p) l)

  all_sums : (p : ℕ) → q ≤ p → p < q + suc k → rows_of p ((clear_period q os).rows ++ rs) ≡ volume p os
  all_sums p l h = keep-sum_append (λ r. r.quantity) (λ r. eqb r.period p) (clear_period q os).rows rs ∙ go (ℕ_discrete p q)
    where
      go : Dec (p ≡ q) → rows_of p (clear_period q os).rows + rows_of p rs ≡ volume p os
      go (yes e) =
          let a : rows_of q (clear_period q os).rows ≡ sum_of (λ r. r.quantity) (clear_period q os).rows =
          ap (sum_of (λ r. r.quantity)) (keep_all (λ r. eqb r.period q) (clear_period q os).rows
          (along_right (FilledHere q os) (λ r. eqb r.period q ≡ true) (λ x r f. eq-eqb r.period q f.1) own (clear_period q os).rows
          (rows_fill q os))) in
          let b : rows_of q rs ≡ 0 =
          ap (sum_of (λ r. r.quantity)) (keep-nothing (λ r. eqb r.period q) rs
          (along_right (FilledFrom (suc q) os) (λ r. eqb r.period q ≡ false) (λ x r f. let g = f.1 in ne_eqb r.period q (omega arith))
          rest.pairs rs behind)) in
          rw e (omega (arith, rows-sum q os))
      go (no e) =
          let a : rows_of p (clear_period q os).rows ≡ 0 =
          ap (sum_of (λ r. r.quantity)) (keep-nothing (λ r. eqb r.period p) (clear_period q os).rows
          (along_right (FilledHere q os) (λ r. eqb r.period p ≡ false) (λ x r f. let g = f.1 in ne_eqb r.period p (λ z. e (sym z ∙ g)))
          own (clear_period q os).rows (rows_fill q os))) in
          omega (arith, rest.sums p (omega arith) (omega arith), volume_stays q os rises p e)

cleared_from : (q k : ℕ) (os : List Order) → rising (numbers os) ≡ true → Open os
    → ClearedFrom q k os (clear_from q k os).rows (clear_from q k os).orders
unfolding clear_from
cleared_from q zero os rises some =
    record {
      pairs = [];
      fills = tt;
      within = each_has (λ o. 0 ≤ o.quantity) os (λ o m. omega arith);
      left = sym (left_none os some);
      sums = λ p l h. absurd (omega arith);
    }
cleared_from q (suc k) os rises some =
    let c = clear_period q os in
    let rest = cleared_from (suc q) k c.orders (numbers_rise_after q os rises) (rests_positive q os some) in
    let rs = (clear_from (suc q) k c.orders).rows in
    let left = (clear_from (suc q) k c.orders).orders in
    record {
      pairs = pairs_of q os ++ rest.pairs;
      fills = all_fills q k os rises some rs left rest;
      within = all_within q k os rises some rs left rest;
      left = all_left q k os rises some rs left rest;
      sums = all_sums q k os rises some rs left rest;
    }

-- no two orders of a period below q cross
abbrev ApartBelow : ℕ → List Order → Type 0
ApartBelow q os =
    (bid ask : Order) → Has bid os → Has ask os → bid.direction ≡ 1 → ask.direction ≡ 0 → bid.period ≡ ask.period → bid.period < q → bid.price
    < ask.price

apart_next : (q : ℕ) (os : List Order) → rising (numbers os) ≡ true → Open os → ApartBelow q os → ApartBelow (suc q) (clear_period q os).orders
apart_next q os rises some far bid ask hb ha b a same l = go (ℕ_discrete bid.period q)
  where
    go : Dec (bid.period ≡ q) → bid.price < ask.price
    go (yes e) =
        nothing_crosses_after q os rises some bid ask hb ha
        (and_true (buys bid.direction) (eqb bid.period q) (eq-eqb _ _ b) (eq-eqb _ _ e))
        (and_true (sells ask.direction) (eqb ask.period q) (eq-eqb _ _ a) (eq-eqb _ _ (sym same ∙ e)))
    go (no e) = far bid ask (stood_before q os rises bid e hb) (stood_before q os rises ask (λ k. e (same ∙ k)) ha) b a same (omega arith)

apart_from : (q k : ℕ) (os : List Order) → rising (numbers os) ≡ true → Open os → ApartBelow q os → ApartBelow (q + k) (clear_from q k os).orders
unfolding clear_from
apart_from q zero os rises some far = let e : q + 0 ≡ q = omega arith in rw e far
apart_from q (suc k) os rises some far =
    let e : q + suc k ≡ suc q + k = omega arith in
    rw e (apart_from (suc q) k (clear_period q os).orders (numbers_rise_after q os rises) (rests_positive q os some) (apart_next q os rises some far))

-- rows at the price of their period have one
pub one-price : (price : ℕ → ℕ) (rs : List Row) → Each (λ r. r.price ≡ price r.period) rs → OnePrice rs
one-price price rs e =
    each_map (λ r. r.price ≡ price r.period) (λ r. Each (λ t. r.period ≡ t.period → r.price ≡ t.price) rs) rs
    (λ r q. each_map (λ t. t.price ≡ price t.period) (λ t. r.period ≡ t.period → r.price ≡ t.price) rs (λ t k same. q ∙ ap price same ∙ sym k) e) e

-- orders with rising numbers, something open each, and periods below n
module _ (n : ℕ) (os : List Order) (rises : rising (numbers os) ≡ true) (some : Open os) (short : Each (λ o. o.period < n) os) where
  abbrev rows : List Row
  rows = (clear_from 0 n os).rows

  abbrev left : List Order
  left = (clear_from 0 n os).orders

  nothing-more : NothingMore os rows
  nothing-more period p xs m = go (dec_lt period n)
    where
      none : (ys : List Pair) → Each (λ x. BidAt os period p x.bid) ys → n ≤ period → paired ys ≤ 0
      none [] e l = omega arith
      none (y ∷ ys) e l = let b = e.0.there in absurd (omega (arith, has_each (λ o. o.period < n) os y.bid short e.0.stands))

      go : Dec (period < n) → paired xs ≤ sum_of (λ r. r.quantity) (keep (λ r. eqb r.period period) rows)
      go (yes l) = omega (arith, matching_most os period p xs m, (cleared_from 0 n os rises some).sums period (omega arith) (omega arith))
      go (no l) = let z = none xs m.bids (omega arith) in omega arith

  pub nothing_crosses_lem : NothingCrosses left
  nothing_crosses_lem bid ask hb ha b a same =
      let c = cleared_from 0 n os rises some in
      let l = has_each (λ o. o.period < n) (left_by c.pairs os) bid (left_each (λ o. o.period < n) (λ o x h. h) c.pairs os short)
      (rw c.left at hb) in
      apart_from 0 n os rises some (λ x y hx hy u v w k. absurd (omega arith)) bid ask hb ha b a same (omega arith)

  pub fully_cleared : FullyCleared os rows left
  fully_cleared =
      let c = cleared_from 0 n os rises some in
      record {
        nothing_more = nothing-more;
        nothing_crosses = nothing_crosses_lem;
        filled = record {
          pairs = c.pairs;
          fills = along_imp (FilledFrom 0 os) (FilledBy os) (λ x r f. f.0) c.pairs rows c.fills;
          within = c.within;
          left = c.left;
        };
        one_price = one-price (λ p. price_of p os) rows
            (along_right (FilledFrom 0 os) (λ r. r.price ≡ price_of r.period os) (λ x r f. f.2) c.pairs rows c.fills);
      }
