-- Laws of the margins: the walk by places, and a volume between what is better than a margin and what is at it too.
use Prim.Native.Nat.{ℕ, zero, suc, ◌+◌, ◌*◌, ◌-◌, ◌<◌, ◌≤◌, min}
use mathlib.Core.Path.{◌≡◌, refl, sym, ap, subst, ◌∙◌}
use mathlib.Core.Bool.{Bool, true, false, cond}
use mathlib.Core.List.{List, [], ◌∷◌}
use native.Mathlib.Omega.{arith}
use native.Mathlib.Nat.{not-suc-le-zero}
use native.Mathlib.Decide.{dec_le}
use lib.Dec.{eqb, leb}
use borrow.Author.Tests.{eq-eqb, eqb-true, eqb-false, le-leb, lt-leb}
use lib.ListN.{length, get_or, take}
use Rattle.measures.specs.Lists.{Each, keep}
use Rattle.measures.specs.Ranges.{most_energy, most_number}
use Rattle.measures.proofs.ListLaws.{both_ways}
use Rattle.matching.specs.Orders.{Order, quantities}
use Rattle.matching.specs.Memory.{order_at, orders_in, no_order}
use Rattle.matching.specs.Clearing.{cleared_volume, marginal}
use Rattle.matching.specs.Inner.Places.{orders_at, ahead_on, belongs, Sides, AreMargins, AtMargin}
use Rattle.matching.proofs.Laws.Orders.LaidLaws.{laid-quantities}
use Rattle.matching.proofs.Laws.Orders.AheadLaws.{Strict, Ordered, Falling, Rising, bids_fall, asks_rise}
use Rattle.matching.proofs.Laws.Clearing.VolumeLaws.{keep_some, keep_none}
use Rattle.matching.proofs.Laws.Clearing.WalkLaws.{price_at, quantity_at, Walking, walking_takes, walking_next_bid, walking_next_ask, walking_bids_end, walking_asks_end, walking_apart}
use Rattle.matching.proofs.Laws.Laying.LayingLaws.{length_mapped}

pub mapped_at : (m ps : List ℕ) (i : ℕ) → i < length ps → get_or (orders_at m ps) i no_order ≡ order_at m (get_or ps i 0)
mapped_at m [] i h = absurd (not-suc-le-zero h)
mapped_at m (p ∷ ps) zero h = refl
mapped_at m (p ∷ ps) (suc i) h = mapped_at m ps i (omega arith)

-- what the walk needs of the two sides
pub record Sorted (bl al : List Order) : Type 0 where
  pub falls : Falling bl
  pub rises : Rising al
  pub small : quantities bl ≤ most_energy

pub sorted : (m bs ks : List ℕ) (n : ℕ) → Sides m bs ks n → Sorted (orders_at m bs) (orders_at m ks)
unfolding ahead_on
sorted m bs ks n s =
    let kept = keep (belongs 1 s.period) (orders_in m n) in
    let q : quantities (orders_at m bs) ≡ quantities kept = ap quantities s.bids_stand.orders ∙ laid-quantities (ahead_on 1) kept in
    let k = keep_some (belongs 1 s.period) (orders_in m n) in
    let l = s.small in
    record {
      falls = rw s.bids_stand.orders (bids_fall s.period (orders_in m n));
      rises = rw s.asks_stand.orders (asks_rise s.period (orders_in m n));
      small = omega arith;
    }

-- no more is met than there is
taken_within : (os : List Order) (i : ℕ) → quantities (take i os) + quantity_at os i ≤ quantities os
taken_within [] zero = omega arith
taken_within [] (suc i) = omega arith
taken_within (o ∷ os) zero = omega arith
taken_within (o ∷ os) (suc i) = let h = taken_within os i in omega arith

pub walking_small : (bl al : List Order) (i j rb ra v b s : ℕ) → Walking bl al i j rb ra v b s → v + rb ≤ quantities bl
walking_small bl al i j rb ra v b s w =
    let e = w.walk.bought in
    let l = w.bid_left in
    let t = taken_within bl i in
    omega arith

-- where the walk ends
pub margins_found : (bl al : List Order) (i j rb ra v b s : ℕ) → Walking bl al i j rb ra v b s → cleared_volume bl al ≡ v → AreMargins bl al v b s
margins_found bl al i j rb ra v b s w e = record { cleared = sym e; of_bids = λ h. sym (w.walk.margin_bid h); of_asks = λ h. sym (w.walk.margin_ask h) }

-- the walk by places
pub record WalkAt (m bs ks : List ℕ) (i j rb ra v b s : ℕ) : Type 0 where
  pub bids_in : i ≤ length bs
  pub asks_in : j ≤ length ks
  pub walking : Walking (orders_at m bs) (orders_at m ks) i j rb ra v b s

module _ (m bs ks : List ℕ) (n i j rb ra v b s : ℕ) (sd : Sides m bs ks n) (g : WalkAt m bs ks i j rb ra v b s) where
  abbrev bl : List Order
  bl = orders_at m bs

  abbrev al : List Order
  al = orders_at m ks

  so : Sorted bl al
  so = sorted m bs ks n sd

  many_bids : length bl ≡ length bs
  many_bids = length_mapped (order_at m) bs

  many_asks : length al ≡ length ks
  many_asks = length_mapped (order_at m) ks

  pub walk_at_bid : (q : ℕ) → i < length bs → rb ≡ 0 → q ≡ (get_or bl (i + 1) no_order).quantity → WalkAt m bs ks (i + 1) j q ra v b s
  walk_at_bid q h e eq =
      record {
        bids_in = omega arith;
        asks_in = g.asks_in;
        walking = rw eq
            (walking_next_bid bl al i j rb ra v b s g.walking (omega (arith, many_bids)) e);
      }

  pub walk_at_ask : (q : ℕ) → j < length ks → ra ≡ 0 → q ≡ (get_or al (j + 1) no_order).quantity → WalkAt m bs ks i (j + 1) rb q v b s
  walk_at_ask q h e eq =
      record {
        bids_in = g.bids_in;
        asks_in = omega arith;
        walking = rw eq
            (walking_next_ask bl al i j rb ra v b s g.walking (omega (arith, many_asks)) e);
      }

  pub walk_at_small : v + rb ≤ most_energy
  walk_at_small = let w = walking_small bl al i j rb ra v b s g.walking in omega (arith, so.small)

  pub walk_at_bids_end : length bs ≤ i → AreMargins bl al v b s
  walk_at_bids_end h = margins_found bl al i j rb ra v b s g.walking (walking_bids_end bl al i j rb ra v b s g.walking (omega (arith, many_bids)))

  pub walk_at_asks_end : length ks ≤ j → AreMargins bl al v b s
  walk_at_asks_end h = margins_found bl al i j rb ra v b s g.walking (walking_asks_end bl al i j rb ra v b s g.walking (omega (arith, many_asks)))

  module _ (x y : Order) (hi : i < length bs) (hj : j < length ks) (ex : x ≡ order_at m (get_or bs i 0)) (ey : y ≡ order_at m (get_or ks j 0)) where
    bid_is : price_at bl i ≡ x.price
    bid_is = ap (λ (o : Order). o.price) (mapped_at m bs i hi ∙ sym ex)

    ask_is : price_at al j ≡ y.price
    ask_is = ap (λ (o : Order). o.price) (mapped_at m ks j hj ∙ sym ey)

    pub walk_at_takes : (t d u w : ℕ) → y.price ≤ x.price → (rb ≡ 0 → ⊥) → (ra ≡ 0 → ⊥) → t ≡ min rb ra → d ≡ rb - t → u ≡ ra - t
        → w ≡ min (v + t) most_number → WalkAt m bs ks i j d u w x.price y.price
    walk_at_takes t d u w le nb0 na0 et ed eu ew =
        let ev : w ≡ v + t = omega (arith, walk_at_small) in
        record {
          bids_in = g.bids_in;
          asks_in = g.asks_in;
          walking =
              rw (ed, eu, ev, ← bid_is, ← ask_is)
              (walking_takes bl al i j rb ra v b s g.walking so.falls so.rises (omega (arith, many_bids)) (omega (arith, many_asks))
              (omega (arith, bid_is, ask_is)) t et (omega arith));
        }

    pub walk_at_apart : x.price < y.price → AreMargins bl al v b s
    walk_at_apart lt =
        margins_found bl al i j rb ra v b s g.walking
        (walking_apart bl al i j rb ra v b s g.walking so.falls so.rises (omega (arith, many_bids)) (omega (arith, many_asks))
        (omega (arith, bid_is, ask_is)))

-- turns to come, at most
abbrev pub turns : ℕ → ℕ → ℕ → ℕ → ℕ → ℕ → ℕ
turns nb na i j rb ra = 2 * (nb - i + (na - j)) + min 1 (min rb ra)

-- the margin's price is one of the prices
priced : (P : ℕ → Type 0) (v : ℕ) (os : List Order) → Each (λ o. P o.price) os → 0 < v → v ≤ quantities os → P (marginal v os)
unfolding marginal
priced P v [] e pos le = absurd (omega arith)
priced P v (o ∷ os) e pos le = go (dec_le v o.quantity) (λ k l. priced P (v - o.quantity) os e.1 k l)
  where
    go : Dec (v ≤ o.quantity) → (0 < v - o.quantity → v - o.quantity ≤ quantities os → P (marginal (v - o.quantity) os))
        → P (cond (leb v o.quantity) o.price (marginal (v - o.quantity) os))
    go (yes h) ih = rw (le-leb v o.quantity h) e.0
    go (no h) ih = rw (lt-leb v o.quantity (omega arith)) (ih (omega arith) (omega arith))

-- a volume within the orders of a side lies between those better than its margin and those at it too
module _ (better : ℕ → ℕ → Bool) (st : Strict better) where
  abbrev above : ℕ → List Order → ℕ
  above p os = quantities (keep (λ o. better o.price p) os)

  abbrev level : ℕ → List Order → ℕ
  level p os = quantities (keep (λ o. eqb o.price p) os)

  first_holds : (v : ℕ) (o : Order) (os : List Order) → Each (λ x. better x.price o.price ≡ false) os → 0 < v → v ≤ o.quantity
      → (above o.price (o ∷ os) < v) × (v ≤ above o.price (o ∷ os) + level o.price (o ∷ os))
  first_holds v o os e pos le =
      let none : above o.price os ≡ 0 = keep_none (λ x. better x.price o.price) os e in
      rw (st.same o.price, eq-eqb o.price o.price refl) (omega arith, omega arith)

  later-holds : (p v : ℕ) (o : Order) (os : List Order) → better p o.price ≡ false → o.quantity < v → (above p os < v - o.quantity)
      × (v - o.quantity ≤ above p os + level p os) → (above p (o ∷ os) < v) × (v ≤ above p (o ∷ os) + level p (o ∷ os))
  later-holds p v o os w lt ih = go (better o.price p) refl (eqb o.price p) refl
    where
      go : (a : Bool) → better o.price p ≡ a → (b : Bool) → eqb o.price p ≡ b
          → (quantities (cond (better o.price p) (o ∷ keep (λ x. better x.price p) os) (keep (λ x. better x.price p) os)) < v)
          × (v ≤ quantities (cond (better o.price p) (o ∷ keep (λ x. better x.price p) os) (keep (λ x. better x.price p) os)) + quantities
          (cond (eqb o.price p) (o ∷ keep (λ x. eqb x.price p) os) (keep (λ x. eqb x.price p) os)))
      go true ea true eb = rw (ea, eb) (omega arith, omega arith)
      go true ea false eb = rw (ea, eb) (omega arith, omega arith)
      go false ea true eb = rw (ea, eb) (omega arith, omega arith)
      go false ea false eb = absurd (eqb-false o.price p eb (st.total o.price p ea w))

  margin_holds : (v : ℕ) (os : List Order) → Ordered better os → 0 < v → v ≤ quantities os → (above (marginal v os) os < v)
      × (v ≤ above (marginal v os) os + level (marginal v os) os)
  unfolding marginal
  margin_holds v [] e pos le = absurd (omega arith)
  margin_holds v (o ∷ os) e pos le = go (dec_le v o.quantity) (λ k l. margin_holds (v - o.quantity) os e.1 k l)
    where
      holds_at : (b : Bool) → leb v o.quantity ≡ b
          → (above (cond b o.price (marginal (v - o.quantity) os)) (o ∷ os) < v)
          × (v ≤ above (cond b o.price (marginal (v - o.quantity) os)) (o ∷ os) + level (cond b o.price (marginal (v - o.quantity) os)) (o ∷ os))
          → (above (cond (leb v o.quantity) o.price (marginal (v - o.quantity) os)) (o ∷ os) < v)
          × (v ≤ above (cond (leb v o.quantity) o.price (marginal (v - o.quantity) os)) (o
          ∷ os) + level (cond (leb v o.quantity) o.price (marginal (v - o.quantity) os)) (o ∷ os))
      holds_at b q s =
          subst (λ (a : Bool). (above (cond a o.price (marginal (v - o.quantity) os)) (o ∷ os) < v)
          × (v ≤ above (cond a o.price (marginal (v - o.quantity) os)) (o ∷ os) + level (cond a o.price (marginal (v - o.quantity) os)) (o ∷ os))) (sym q) s

      go : Dec (v ≤ o.quantity) → (0 < v - o.quantity → v - o.quantity ≤ quantities os → (above (marginal (v - o.quantity) os) os < v - o.quantity)
          × (v - o.quantity ≤ above (marginal (v - o.quantity) os) os + level (marginal (v - o.quantity) os) os))
          → (above (cond (leb v o.quantity) o.price (marginal (v - o.quantity) os)) (o ∷ os) < v)
          × (v ≤ above (cond (leb v o.quantity) o.price (marginal (v - o.quantity) os)) (o
          ∷ os) + level (cond (leb v o.quantity) o.price (marginal (v - o.quantity) os)) (o ∷ os))
      go (yes h) ih = holds_at true (le-leb v o.quantity h) (first_holds v o os e.0 pos h)
      go (no h) ih =
          let p = marginal (v - o.quantity) os in
          holds_at false (lt-leb v o.quantity (omega arith))
          (later-holds p v o os (priced (λ q. better q o.price ≡ false) (v - o.quantity) os e.0 (omega arith) (omega arith)) (omega arith)
          (ih (omega arith) (omega arith)))

  margin_within : (p : ℕ) (os : List Order) → above p os + level p os ≤ quantities os
  margin_within p [] = omega arith
  margin_within p (o ∷ os) = go (better o.price p) refl (eqb o.price p) refl (margin_within p os)
    where
      go : (a : Bool) → better o.price p ≡ a → (b : Bool) → eqb o.price p ≡ b → above p os + level p os ≤ quantities os
          → quantities (cond a (o ∷ keep (λ x. better x.price p) os) (keep (λ x. better x.price p) os)) + quantities
          (cond b (o ∷ keep (λ x. eqb x.price p) os) (keep (λ x. eqb x.price p) os)) ≤ o.quantity + quantities os
      go true ea true eb ih = both_ways (sym ea ∙ ap (λ (x : ℕ). better x p) (eqb-true o.price p eb) ∙ st.same p)
      go true ea false eb ih = omega arith
      go false ea true eb ih = omega arith
      go false ea false eb ih = omega arith

  pub at_margin : (v : ℕ) (os : List Order) → Ordered better os → 0 < v → v ≤ quantities os → quantities os ≤ most_energy
      → AtMargin v (keep (λ o. better o.price (marginal v os)) os) (keep (λ o. eqb o.price (marginal v os)) os)
  at_margin v os h pos le small =
      let m = margin_holds v os h pos le in
      let w = margin_within (marginal v os) os in
      record { over = m.0; within = m.1; small = omega arith }
