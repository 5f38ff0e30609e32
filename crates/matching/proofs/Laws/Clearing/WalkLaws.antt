-- The walk down both laid sides, that finds the cleared volume and the margins.
use Prim.Native.Nat.{ℕ, zero, suc, ◌+◌, ◌-◌, ◌<◌, ◌≤◌, min}
use mathlib.Core.Path.{◌≡◌, refl}
use mathlib.Core.Bool.{Bool, true, false, cond}
use mathlib.Core.List.{List, [], ◌∷◌, ◌++◌}
use native.Mathlib.Omega.{arith}
use native.Mathlib.Numerals.{add-one}
use native.Mathlib.Decide.{dec_lt}
use lib.Dec.{leb}
use lib.ListN.{length, get_or, take, drop}
use lib.Seq.{take_all}
use borrow.Author.Tests.{le-leb, lt-leb, leb-true}
use Rattle.measures.specs.Lists.{Each, keep}
use Rattle.measures.proofs.ListLaws.{cond-true, cond-false}
use Rattle.matching.specs.Orders.{Order, quantities}
use Rattle.matching.specs.Memory.{no_order}
use Rattle.matching.specs.Clearing.{traded_at, cleared_volume, marginal}
use Rattle.matching.proofs.Laws.Lists.EachLaws.{each_map, each_all, pairs_upto, pairs_from}
use Rattle.matching.proofs.Laws.Orders.AheadLaws.{Falling, Rising}
use Rattle.matching.proofs.Laws.Clearing.VolumeLaws.{demand, supply, traded, keep-more, keep_some, largest_below, no-price_trades_more}

-- the order at a place: its price and its quantity, 0 where there is none
abbrev pub price_at : List Order → ℕ → ℕ
price_at os i = (get_or os i no_order).price

abbrev pub quantity_at : List Order → ℕ → ℕ
quantity_at os i = (get_or os i no_order).quantity

-- the order in which the z-th kWh behind i whole orders lies
pub marginal_at : (os : List Order) (i z : ℕ) → i < length os → 0 < z → z ≤ quantity_at os i → marginal (quantities (take i os) + z) os ≡ price_at os i
unfolding marginal
marginal_at [] i z h pos le = absurd (omega arith)
marginal_at (o ∷ os) zero z h pos le = cond-true (leb (0 + z) o.quantity) _ _ (le-leb (0 + z) o.quantity (omega arith)) refl
marginal_at (o ∷ os) (suc i) z h pos le =
    let v = o.quantity + quantities (take i os) + z in
    let e : v - o.quantity ≡ quantities (take i os) + z = omega arith in
    cond-false (leb v o.quantity) _ _ (lt-leb v o.quantity (omega arith)) (rw e (marginal_at os i z (omega arith) pos le))

pub take_next : (os : List Order) (i : ℕ) → i < length os → quantities (take (suc i) os) ≡ quantities (take i os) + quantity_at os i
take_next [] i h = absurd (omega arith)
take_next (o ∷ os) zero h = omega arith
take_next (o ∷ os) (suc i) h = let ih = take_next os i (omega arith) in omega arith

taken_kept : (f : Order → Bool) (os : List Order) (i : ℕ) → Each (λ o. f o ≡ true) (take i os) → quantities (take i os) ≤ quantities (keep f os)
taken_kept f [] zero e = omega arith
taken_kept f [] (suc i) e = omega arith
taken_kept f (o ∷ os) zero e = omega arith
taken_kept f (o ∷ os) (suc i) e = let ih = taken_kept f os i e.1 in rw e.0 (omega arith)

kept_taken : (f : Order → Bool) (os : List Order) (i : ℕ) → Each (λ o. f o ≡ false) (drop i os) → quantities (keep f os) ≤ quantities (take i os)
kept_taken f [] zero e = omega arith
kept_taken f [] (suc i) e = omega arith
kept_taken f (o ∷ os) zero e = let ih = kept_taken f os zero e.1 in rw e.0 ih
kept_taken f (o ∷ os) (suc i) e = go (f o) (kept_taken f os i e)
  where
    go : (b : Bool) → quantities (keep f os) ≤ quantities (take i os) → quantities (cond b (o ∷ keep f os) (keep f os))
        ≤ o.quantity + quantities (take i os)
    go true ih = omega arith
    go false ih = omega arith

-- i bids and j asks are passed whole, x and y are taken of the next ones; v kWh are met, the last bid met is priced b
-- and the last ask met s
pub record Walk (bl al : List Order) (i j x y v b s : ℕ) : Type 0 where
  pub bids_in : i ≤ length bl
  pub asks_in : j ≤ length al
  pub of_bid : x ≤ quantity_at bl i
  pub of_ask : y ≤ quantity_at al j
  pub bought : v ≡ quantities (take i bl) + x
  pub sold : v ≡ quantities (take j al) + y
  -- every bid met is priced at or above every ask met
  pub meet : 0 < v → s ≤ b
  pub demanded : v ≤ demand bl b
  pub supplied : v ≤ supply al s
  pub margin_bid : 0 < v → marginal v bl ≡ b
  pub margin_ask : 0 < v → marginal v al ≡ s

pub walk_start : (bl al : List Order) → Walk bl al 0 0 0 0 0 0 0
walk_start bl al =
    record {
      bids_in = omega arith;
      asks_in = omega arith;
      of_bid = omega arith;
      of_ask = omega arith;
      bought = omega arith;
      sold = omega arith;
      meet = λ h. omega arith;
      demanded = omega arith;
      supplied = omega arith;
      margin_bid = λ h. absurd (omega arith);
      margin_ask = λ h. absurd (omega arith);
    }

-- bids down to one of them are all demanded at its price, and asks up to one supplied
demand_upto : (bl : List Order) (i : ℕ) → Falling bl → i < length bl → quantities (take (suc i) bl) ≤ demand bl (price_at bl i)
demand_upto bl i fall h =
    taken_kept (λ o. leb (price_at bl i) o.price) bl (suc i)
    (each_map (λ o. price_at bl i ≤ o.price) (λ o. leb (price_at bl i) o.price ≡ true) (take (suc i) bl) (λ o k. le-leb _ _ k)
    (pairs_upto (λ a b. b.price ≤ a.price) (λ a. omega arith) bl i no_order fall h))

supply_upto : (al : List Order) (j : ℕ) → Rising al → j < length al → quantities (take (suc j) al) ≤ supply al (price_at al j)
supply_upto al j rise h =
    taken_kept (λ o. leb o.price (price_at al j)) al (suc j)
    (each_map (λ o. o.price ≤ price_at al j) (λ o. leb o.price (price_at al j) ≡ true) (take (suc j) al) (λ o k. le-leb _ _ k)
    (pairs_upto (λ a b. a.price ≤ b.price) (λ a. omega arith) al j no_order rise h))

module _ (bl al : List Order) (i j x y v b s : ℕ) (w : Walk bl al i j x y v b s) where
  -- t more of bid i and of ask j, whose prices meet
  pub walk_takes : (t : ℕ) → Falling bl → Rising al → i < length bl → j < length al → price_at al j ≤ price_at bl i → x + t ≤ quantity_at bl i → y + t
      ≤ quantity_at al j → 0 < t
      → Walk bl al i j (x + t) (y + t) (v + t) (price_at bl i) (price_at al j)
  walk_takes t fall rise hi hj meet hx hy pos =
      let ev = w.bought in
      let eu = w.sold in
      let d = demand_upto bl i fall hi in
      let u = supply_upto al j rise hj in
      let tb = take_next bl i hi in
      let ta = take_next al j hj in
      let vb : v + t ≡ quantities (take i bl) + (x + t) = omega arith in
      let va : v + t ≡ quantities (take j al) + (y + t) = omega arith in
      record {
        bids_in = w.bids_in;
        asks_in = w.asks_in;
        of_bid = hx;
        of_ask = hy;
        bought = vb;
        sold = va;
        meet = λ _. meet;
        demanded = omega arith;
        supplied = omega arith;
        margin_bid = λ _. rw vb (marginal_at bl i (x + t) hi (omega arith) hx);
        margin_ask = λ _. rw va (marginal_at al j (y + t) hj (omega arith) hy);
      }

  -- a bid wholly taken is passed, and so is an ask
  pub walk_next_bid : i < length bl → x ≡ quantity_at bl i → Walk bl al (i + 1) j 0 y v b s
  walk_next_bid h e =
      let n = w.bought in
      let t = take_next bl i h in
      record {
        bids_in = omega arith;
        asks_in = w.asks_in;
        of_bid = omega arith;
        of_ask = w.of_ask;
        bought = rw (add-one i) (omega arith);
        sold = w.sold;
        meet = w.meet;
        demanded = w.demanded;
        supplied = w.supplied;
        margin_bid = w.margin_bid;
        margin_ask = w.margin_ask;
      }

  pub walk_next_ask : j < length al → y ≡ quantity_at al j → Walk bl al i (j + 1) x 0 v b s
  walk_next_ask h e =
      let n = w.sold in
      let t = take_next al j h in
      record {
        bids_in = w.bids_in;
        asks_in = omega arith;
        of_bid = w.of_bid;
        of_ask = omega arith;
        bought = w.bought;
        sold = rw (add-one j) (omega arith);
        meet = w.meet;
        demanded = w.demanded;
        supplied = w.supplied;
        margin_bid = w.margin_bid;
        margin_ask = w.margin_ask;
      }

  -- as much as is met trades at the last bid's price
  walk_within : v ≤ cleared_volume bl al
  walk_within = go (dec_lt 0 v)
    where
      go : Dec (0 < v) → v ≤ cleared_volume bl al
      go (yes pos) =
          let m = w.meet pos in
          let n = no-price_trades_more bl al b in
          let d = w.demanded in
          let u = w.supplied in
          let k : supply al s ≤ supply al b =
          keep-more (λ o. leb o.price s) (λ o. leb o.price b) al
          (each_all (λ o. leb o.price s ≡ true → leb o.price b ≡ true) al (λ o e. le-leb o.price b (omega (arith, leb-true o.price s e)))) in
          omega (arith, traded bl al b)
      go (no l) = omega arith

  walk_most : ((p : ℕ) → traded_at bl al p ≤ v) → cleared_volume bl al ≡ v
  unfolding cleared_volume
  walk_most h =
      let l = walk_within in
      let m = largest_below (λ o. traded_at bl al o.price) (bl ++ al) v (each_all (λ o. traded_at bl al o.price ≤ v) (bl ++ al) (λ o. h o.price)) in
      omega arith

  -- the walk ends: at the end of the bids, at the end of the asks, or where prices no longer meet
  pub walk_bids_end : length bl ≤ i → cleared_volume bl al ≡ v
  walk_bids_end h = walk_most at
    where
      all : v ≡ quantities bl + x
      all = rw (take_all i bl h) at w.bought

      at : (p : ℕ) → traded_at bl al p ≤ v
      at p = omega (arith, all, traded bl al p, keep_some (λ o. leb p o.price) bl)

  pub walk_asks_end : length al ≤ j → cleared_volume bl al ≡ v
  walk_asks_end h = walk_most at
    where
      all : v ≡ quantities al + y
      all = rw (take_all j al h) at w.sold

      at : (p : ℕ) → traded_at bl al p ≤ v
      at p = omega (arith, all, traded bl al p, keep_some (λ o. leb o.price p) al)

  pub walk_apart : Falling bl → Rising al → i < length bl → j < length al → price_at bl i < price_at al j → cleared_volume bl al ≡ v
  walk_apart fall rise hi hj l = walk_most (λ p. at p (dec_lt (price_at bl i) p))
    where
      at : (p : ℕ) → Dec (price_at bl i < p) → traded_at bl al p ≤ v
      at p (yes k) =
          let e = w.bought in
          let d : demand bl p ≤ quantities (take i bl) =
          kept_taken (λ o. leb p o.price) bl i
          (each_map (λ o. o.price ≤ price_at bl i) (λ o. leb p o.price ≡ false) (drop i bl) (λ o g. lt-leb p o.price (omega arith))
          (pairs_from (λ a b. b.price ≤ a.price) (λ a. omega arith) bl i no_order fall hi)) in
          omega (arith, traded bl al p)
      at p (no k) =
          let e = w.sold in
          let d : supply al p ≤ quantities (take j al) =
          kept_taken (λ o. leb o.price p) al j
          (each_map (λ o. price_at al j ≤ o.price) (λ o. leb o.price p ≡ false) (drop j al) (λ o g. lt-leb o.price p (omega arith))
          (pairs_from (λ a b. a.price ≤ b.price) (λ a. omega arith) al j no_order rise hj)) in
          omega (arith, traded bl al p)

-- the same by what is left of bid i and of ask j: rb and ra
pub record Walking (bl al : List Order) (i j rb ra v b s : ℕ) : Type 0 where
  pub walk : Walk bl al i j (quantity_at bl i - rb) (quantity_at al j - ra) v b s
  pub bid_left : rb ≤ quantity_at bl i
  pub ask_left : ra ≤ quantity_at al j

less-left : (q r t : ℕ) → t ≤ r → r ≤ q → (q - (r - t) ≡ q - r + t) × (q - r + t ≤ q) × (r - t ≤ q)
less-left q r t h k = (omega arith, omega arith, omega arith)

pub walking_start : (bl al : List Order) → Walking bl al 0 0 (quantity_at bl 0) (quantity_at al 0) 0 0 0
walking_start bl al =
    let nb : quantity_at bl 0 - quantity_at bl 0 ≡ 0 = omega arith in
    let na : quantity_at al 0 - quantity_at al 0 ≡ 0 = omega arith in
    record { walk = rw (nb, na) (walk_start bl al); bid_left = omega arith; ask_left = omega arith }

module _ (bl al : List Order) (i j rb ra v b s : ℕ) (w : Walking bl al i j rb ra v b s) where
  -- the smaller remainder is met; where it is 0 nothing changes
  pub walking_takes : Falling bl → Rising al → i < length bl → j < length al → price_at al j ≤ price_at bl i → (t : ℕ) → t ≡ min rb ra → 0 < t
      → Walking bl al i j (rb - t) (ra - t) (v + t) (price_at bl i) (price_at al j)
  walking_takes fall rise hi hj meet t e pos =
      let qb = quantity_at bl i in
      let qa = quantity_at al j in
      let lb = less-left qb rb t (omega arith) w.bid_left in
      let la = less-left qa ra t (omega arith) w.ask_left in
      record {
        walk = rw (lb.0, la.0) (walk_takes bl al i j (qb - rb) (qa - ra) v b s w.walk t fall rise hi hj meet lb.1 la.1 pos);
        bid_left = lb.2;
        ask_left = la.2;
      }

  pub walking_next_bid : i < length bl → rb ≡ 0 → Walking bl al (i + 1) j (quantity_at bl (i + 1)) ra v b s
  walking_next_bid h e =
      let q = quantity_at bl (i + 1) in
      let n : q - q ≡ 0 = omega arith in
      record {
        walk = rw n (walk_next_bid bl al i j (quantity_at bl i - rb) (quantity_at al j - ra) v b s w.walk h (omega arith));
        bid_left = omega arith;
        ask_left = w.ask_left;
      }

  pub walking_next_ask : j < length al → ra ≡ 0 → Walking bl al i (j + 1) rb (quantity_at al (j + 1)) v b s
  walking_next_ask h e =
      let q = quantity_at al (j + 1) in
      let n : q - q ≡ 0 = omega arith in
      record {
        walk = rw n (walk_next_ask bl al i j (quantity_at bl i - rb) (quantity_at al j - ra) v b s w.walk h (omega arith));
        bid_left = w.bid_left;
        ask_left = omega arith;
      }

  pub walking_bids_end : length bl ≤ i → cleared_volume bl al ≡ v
  walking_bids_end h = walk_bids_end bl al i j (quantity_at bl i - rb) (quantity_at al j - ra) v b s w.walk h

  pub walking_asks_end : length al ≤ j → cleared_volume bl al ≡ v
  walking_asks_end h = walk_asks_end bl al i j (quantity_at bl i - rb) (quantity_at al j - ra) v b s w.walk h

  pub walking_apart : Falling bl → Rising al → i < length bl → j < length al → price_at bl i < price_at al j → cleared_volume bl al ≡ v
  walking_apart fall rise hi hj l = walk_apart bl al i j (quantity_at bl i - rb) (quantity_at al j - ra) v b s w.walk fall rise hi hj l
