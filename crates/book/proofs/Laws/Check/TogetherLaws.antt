-- Open orders that may stand together: a unit's orders of a period go one way, and no two of a period cross.
use Rattle.std.proofs.Common.{◌≡◌, ℕ, ◌+◌, ◌-◌, ◌*◌, ◌<◌, ◌≤◌, Bool, true, false, not, ◌&&◌, eqb, leb, ltb, List, [], ◌∷◌, length, get_or}
use Rattle.std.proofs.Common.{set, None, refl}
use Rattle.std.proofs.Common.{sym, ap, ◌∙◌, arith, length-set, get_or-set_other, get_or-set_same, eq-eqb, eqb-true, leb-true, leb-false}
use Rattle.std.proofs.Common.{ltb-true, ltb-false}
use native.Mathlib.Decide.{ℕ_discrete, dec_lt}
use borrow.Author.Tests.{eqb-false, not-false}
use Rattle.measures.specs.Lists.{holds, all}
use Rattle.measures.proofs.ListLaws.{both_ways, false_by, not_both, all_true, holds-all, all_none, all_more, all_fails, all_at, all_by, all_ext}
use Rattle.limits.specs.Units.{periods}
use Rattle.matching.specs.Orders.{Order as OpenOrder}
use Rattle.matching.specs.Memory.{most_word, order_at}
use Rattle.matching.specs.Prices.{high_with, low_with}
use Rattle.matching.proofs.Laws.Periods.NoteLaws.{high_new, high-not, low_new, low-not}
use Rattle.book.specs.Sound.{one_direction, apart}
use Rattle.book.specs.Layout.{DAYS, CEILING, PHASE, ORDERS, order_place, UNIT, DIRECTION, PERIOD, PRICE, word, orders_part, decode}
use Rattle.book.specs.Inner.Readable.{Ranged, pair_fits, pairs_fit}
use Rattle.book.specs.Inner.Whole.{by_period, by_day, Latest, AlikeBefore, Alike, PricesNoted, PricesKept, crossless, Priced, pairs_before}
use Rattle.book.specs.Inner.Whole.{OrderStands}
use Rattle.book.proofs.Laws.Memory.RangeFacts.{order_word}
use Rattle.book.proofs.Laws.Check.ShareLaws.{order_words_lem}
use Rattle.book.proofs.Laws.Check.PairLaws.{
  one_direction-holds,
  one_direction_fact,
  apart-holds,
  apart_fact,
  pair_holds,
  pair_fact,
  pairs_by,
  pairs_fail,
}

abbrev order_in : List ℕ → ℕ → OpenOrder
order_in m k = order_at (orders_part m) k

field : (m : List ℕ) (k i : ℕ) → k < 256 → i < 6 → get_or (orders_part m) (6 * k + i) 0 ≡ word m (order_place k + i)
field m k i h l = order_word m (6 * k + i) (omega arith) ∙ ap (word m) (omega arith)

-- two orders, by their words
module _ (m : List ℕ) (a b : ℕ) (ha : a < 256) (hb : b < 256) where
  direction_holds : (word m (order_place a + UNIT) ≡ word m (order_place b + UNIT) → word m (order_place a + PERIOD) ≡ word m (order_place b + PERIOD)
      → word m (order_place a + DIRECTION)
      ≡ word m (order_place b + DIRECTION))
      → one_direction (order_in m a) (order_in m b) ≡ true
  direction_holds f =
      one_direction-holds (order_in m a) (order_in m b)
      (λ u p. field m a 2 ha (omega arith) ∙ f (sym (field m a 1 ha (omega arith)) ∙ u ∙ field m b 1 hb (omega arith)) (sym (field m a 3 ha (omega arith))
      ∙ p ∙ field m b 3 hb (omega arith)) ∙ sym (field m b 2 hb (omega arith)))

  direction_fact : one_direction (order_in m a) (order_in m b) ≡ true → word m (order_place a + UNIT) ≡ word m (order_place b + UNIT)
      → word m (order_place a + PERIOD)
      ≡ word m (order_place b + PERIOD)
      → word m (order_place a + DIRECTION) ≡ word m (order_place b + DIRECTION)
  direction_fact e u p =
      sym (field m a 2 ha (omega arith))
      ∙ one_direction_fact (order_in m a) (order_in m b) e (field m a 1 ha (omega arith) ∙ u
      ∙ sym (field m b 1 hb (omega arith))) (field m a 3 ha (omega arith) ∙ p
      ∙ sym (field m b 3 hb (omega arith)))
      ∙ field m b 2 hb (omega arith)

  apart_by : (word m (order_place a + DIRECTION) ≡ 1 → word m (order_place b + DIRECTION) ≡ 0 → word m (order_place a + PERIOD) ≡ word m (order_place b + PERIOD)
      → word m (order_place a + PRICE)
      < word m (order_place b + PRICE))
      → apart (order_in m a) (order_in m b) ≡ true
  apart_by f =
      apart-holds (order_in m a) (order_in m b)
      (λ d e p. let l = f (sym (field m a 2 ha (omega arith)) ∙ d) (sym (field m b 2 hb (omega arith)) ∙ e) (sym (field m a 3 ha (omega arith)) ∙ p
      ∙ field m b 3 hb (omega arith)) in omega (arith, field m a 4 ha (omega arith), field m b 4 hb (omega arith)))

  apart-word : apart (order_in m a) (order_in m b) ≡ true → word m (order_place a + DIRECTION) ≡ 1 → word m (order_place b + DIRECTION) ≡ 0
      → word m (order_place a + PERIOD)
      ≡ word m (order_place b + PERIOD)
      → word m (order_place a + PRICE) < word m (order_place b + PRICE)
  apart-word t d e p =
      let l = apart_fact (order_in m a) (order_in m b) t (field m a 2 ha (omega arith) ∙ d) (field m b 2 hb (omega arith) ∙ e) (field m a 3 ha (omega arith)
      ∙ p ∙ sym (field m b 3 hb (omega arith))) in
      omega (arith, field m a 4 ha (omega arith), field m b 4 hb (omega arith))

-- orders of one unit and day are of one unit
same_unit : (m : List ℕ) (i k : ℕ) → Ranged m → i < word m ORDERS → k < word m ORDERS → by_day m i ≡ by_day m k
    → word m (order_place i + UNIT) ≡ word m (order_place k + UNIT)
unfolding by_day
same_unit m i k r hi hk e =
    let a = order_words_lem m i r hi in
    let b = order_words_lem m k r hk in
    let n = r.readable.units_to in
    let x = a.unit in
    let y = b.unit in
    omega arith

-- the order at place j is of the unit and the period of that at place k
abbrev pub AlikeAt : List ℕ → ℕ → ℕ → Type 0
AlikeAt m k j = (word m (order_place j + UNIT) ≡ word m (order_place k + UNIT)) × (word m (order_place j + PERIOD) ≡ word m (order_place k + PERIOD))

-- the walk along the orders of the unit and day and those of the period before the one at place k: none passed has both
pub record Seeking (m : List ℕ) (k a b : ℕ) : Type 0 where
  pub few_day : a ≤ k
  pub few_period : b ≤ k
  pub own_day : 0 < a → by_day m (a - 1) ≡ by_day m k
  pub own_period : 0 < b → by_period m (b - 1) ≡ by_period m k
  pub none_day : (j : ℕ) → a ≤ j → j < k → AlikeAt m k j → ⊥
  pub none_period : (j : ℕ) → b ≤ j → j < k → AlikeAt m k j → ⊥

module _ (m : List ℕ) (k : ℕ) where
  same_day : (j : ℕ) → AlikeAt m k j → by_day m j ≡ by_day m k
  unfolding by_day
  same_day j e = rw (e.0, e.1)

  same_period : (j : ℕ) → AlikeAt m k j → by_period m j ≡ by_period m k
  unfolding by_period
  same_period j e = e.1

  pub seeking_starts : (a b : ℕ) → Latest (by_day m) (by_day m k) a k → Latest (by_period m) (by_period m k) b k → Seeking m k a b
  seeking_starts a b u p =
      record {
        few_day = u.to;
        few_period = p.to;
        own_day = u.own;
        own_period = p.own;
        none_day = λ j h l e. u.none j h l (same_day j e);
        none_period = λ j h l e. p.none j h l (same_period j e);
      }

  -- at an order of the unit and day and one of the period
  module _ (a b : ℕ) (s : Seeking m k (a + 1) (b + 1)) where
    at_day : by_day m a ≡ by_day m k
    at_day = let e : a ≡ a + 1 - 1 = omega arith in ap (by_day m) e ∙ s.own_day (omega arith)

    at_period : by_period m b ≡ by_period m k
    at_period = let e : b ≡ b + 1 - 1 = omega arith in ap (by_period m) e ∙ s.own_period (omega arith)

    pub seeking_more : (c d : ℕ) → (word m (order_place a + PERIOD) ≡ word m (order_place k + PERIOD) → ⊥)
        → (word m (order_place b + UNIT) ≡ word m (order_place k + UNIT) → ⊥)
        → Latest (by_day m) (by_day m a) c a → Latest (by_period m) (by_period m b) d b → Seeking m k c d
    seeking_more c d na nb u p =
        let x = s.few_day in
        let y = s.few_period in
        let z = u.to in
        let t = p.to in
        record {
          few_day = omega arith;
          few_period = omega arith;
          own_day = λ h. u.own h ∙ at_day;
          own_period = λ h. p.own h ∙ at_period;
          none_day = λ j h l. days_of j h l (ℕ_discrete j a) (dec_lt j a);
          none_period = λ j h l. periods_of j h l (ℕ_discrete j b) (dec_lt j b);
        }
      where
        days_of : (j : ℕ) → c ≤ j → j < k → Dec (j ≡ a) → Dec (j < a) → AlikeAt m k j → ⊥
        days_of j h l (yes e) q w = na (sym (ap (λ (i : ℕ). word m (order_place i + PERIOD)) e) ∙ w.1)
        days_of j h l (no e) (yes q) w = u.none j h q (same_day j w ∙ sym at_day)
        days_of j h l (no e) (no q) w = s.none_day j (omega arith) l w

        periods_of : (j : ℕ) → d ≤ j → j < k → Dec (j ≡ b) → Dec (j < b) → AlikeAt m k j → ⊥
        periods_of j h l (yes e) q w = nb (sym (ap (λ (i : ℕ). word m (order_place i + UNIT)) e) ∙ w.0)
        periods_of j h l (no e) (yes q) w = p.none j h q (same_period j w ∙ sym at_period)
        periods_of j h l (no e) (no q) w = s.none_period j (omega arith) l w

    pub alike-by_day : Ranged m → k < word m ORDERS → word m (order_place a + PERIOD) ≡ word m (order_place k + PERIOD) → AlikeBefore m k a
    alike-by_day r hk e =
        let f = s.few_day in
        record { to = omega arith; unit = same_unit m a k r (omega arith) hk at_day; period = e }

    pub alike-by_period : word m (order_place b + UNIT) ≡ word m (order_place k + UNIT) → AlikeBefore m k b
    unfolding by_period
    alike-by_period e = let f = s.few_period in record { to = omega arith; unit = e; period = at_period }

-- the order at place k beside one of its unit and period, or none
module _ (m : List ℕ) (k : ℕ) (hk : k < 256) where
  pub direction_alone : Alike m k None → true ≡ all k (λ j. one_direction (order_in m k) (order_in m j))
  direction_alone al = sym (all_by k _ (λ j l. direction_holds m k j hk (omega arith) (λ u p. absurd (al j l (sym u) (sym p)))))

  module _ (t : ℕ) (al : AlikeBefore m k t) where
    before : t < k
    before = al.to

    direction_other : (word m (order_place t + DIRECTION) ≡ word m (order_place k + DIRECTION) → ⊥) → false
        ≡ all k (λ j. one_direction (order_in m k) (order_in m j))
    direction_other n =
        let h = before in
        sym (all_fails k (λ j. one_direction (order_in m k) (order_in m j)) t h
        (false_by _ (λ e. n (sym (direction_fact m k t hk (omega arith) e (sym al.unit) (sym al.period))))))

    -- those before go one way, so the one found stands for all
    direction_same : pairs_before m k ≡ true → word m (order_place t + DIRECTION) ≡ word m (order_place k + DIRECTION) → true
        ≡ all k (λ j. one_direction (order_in m k) (order_in m j))
    unfolding pairs_before
    direction_same pb e = sym (all_by k _ (λ j l. direction_holds m k j hk (omega arith) (λ u p. sym (dirs j l (sym u) (sym p)))))
      where
        pair : (i j : ℕ) → i < k → j < i → one_direction (order_in m i) (order_in m j) ≡ true
        pair i j h l =
            one_direction-holds (order_in m i) (order_in m j)
            (pair_fact (word m PHASE) (order_in m i) (order_in m j)
            (all_at i (λ x. pair_fits (word m PHASE) (order_in m i) (order_in m x)) j
            (all_at k (λ y. all y (λ x. pair_fits (word m PHASE) (order_in m y) (order_in m x))) i pb h) l)).direction

        dirs : (j : ℕ) → j < k → word m (order_place j + UNIT) ≡ word m (order_place k + UNIT) → word m (order_place j + PERIOD) ≡ word m (order_place k + PERIOD)
            → word m (order_place j + DIRECTION) ≡ word m (order_place k + DIRECTION)
        dirs j l u p = go (dec_lt j t) (dec_lt t j)
          where
            go : Dec (j < t) → Dec (t < j) → word m (order_place j + DIRECTION) ≡ word m (order_place k + DIRECTION)
            go (yes a) b =
                let h = before in
                sym (direction_fact m t j (omega arith) (omega arith) (pair t j h a) (al.unit ∙ sym u) (al.period ∙ sym p))
                ∙ e
            go (no a) (yes b) =
                let h = before in
                direction_fact m j t (omega arith) (omega arith) (pair j t l b) (u ∙ sym al.unit) (p ∙ sym al.period) ∙ e
            go (no a) (no b) = let q : j ≡ t = omega arith in ap (λ (i : ℕ). word m (order_place i + DIRECTION)) q ∙ e

    pub direction_tested : pairs_before m k ≡ true → eqb (word m (order_place t + DIRECTION)) (word m (order_place k + DIRECTION))
        ≡ all k (λ j. one_direction (order_in m k) (order_in m j))
    direction_tested pb = go (eqb (word m (order_place t + DIRECTION)) (word m (order_place k + DIRECTION))) refl
      where
        go : (b : Bool) → eqb (word m (order_place t + DIRECTION)) (word m (order_place k + DIRECTION)) ≡ b → b
            ≡ all k (λ j. one_direction (order_in m k) (order_in m j))
        go true e = direction_same pb (eqb-true _ _ e)
        go false e = direction_other (eqb-false _ _ e)

-- the order at place k against those before it
module _ (m : List ℕ) (g : Ranged m) (k : ℕ) (h : k < word m ORDERS) (high low : List ℕ) (s : PricesNoted m k high low) where
  few : k < 256
  few = let t = g.readable.orders_to in omega arith

  term : word m (order_place k + PERIOD) < periods (word m DAYS)
  term = (order_words_lem m k g h).period

  buy_crosses : word m CEILING ≤ 10_000_000 → word m (order_place k + DIRECTION) ≡ 1
      → get_or low (word m (order_place k + PERIOD)) 0 ≤ word m (order_place k + PRICE) → false
      ≡ all k (crossless m k)
  buy_crosses c d l =
      sym (false_by _ (λ t. absurd (let z = s.most (word m (order_place k + PERIOD)) (word m (order_place k + PRICE)) term
      (let y = (order_words_lem m k g h).price.1 in omega arith)
      (λ j a e q. apart-word m k j few (let f = few in omega arith) (all_true (apart (order_in m k) (order_in m j) ∷ apart (order_in m j) (order_in m k)
      ∷ []) (all_at k (crossless m k) j t a)).0 d e (sym q)) in omega arith)))

  sell_crosses : word m (order_place k + DIRECTION) ≡ 0 → word m (order_place k + PRICE) < get_or high (word m (order_place k + PERIOD)) 0 → false
      ≡ all k (crossless m k)
  sell_crosses d l =
      sym (false_by _ (λ t. absurd (let z = s.least (word m (order_place k + PERIOD)) (word m (order_place k + PRICE)) term
      (λ j a e q. apart-word m j k (let f = few in omega arith) few (all_true (apart (order_in m k) (order_in m j) ∷ apart (order_in m j) (order_in m k)
      ∷ []) (all_at k (crossless m k) j t a)).1.0 e d q) in omega arith)))

  buy_apart : word m (order_place k + DIRECTION) ≡ 1 → word m (order_place k + PRICE) < get_or low (word m (order_place k + PERIOD)) 0 → true
      ≡ all k (crossless m k)
  buy_apart d l =
      sym (all_by k _ (λ j a. holds-all (apart (order_in m k) (order_in m j) ∷ apart (order_in m j) (order_in m k) ∷ []) (
        apart_by m k j few (let f = few in omega arith) (λ e i q. let z = s.below (word m (order_place k + PERIOD)) j term a i (sym q) in omega arith),
        (apart_by m j k (let f = few in omega arith) few (λ e i q. absurd (omega arith)), tt),
      )))

  sell_apart : word m (order_place k + DIRECTION) ≡ 0 → get_or high (word m (order_place k + PERIOD)) 0 ≤ word m (order_place k + PRICE) → true
      ≡ all k (crossless m k)
  sell_apart d l =
      sym (all_by k _ (λ j a. holds-all (apart (order_in m k) (order_in m j) ∷ apart (order_in m j) (order_in m k) ∷ []) (
        apart_by m k j few (let f = few in omega arith) (λ e i q. absurd (omega arith)),
        (apart_by m j k (let f = few in omega arith) few (λ e i q. let z = s.above (word m (order_place k + PERIOD)) j term a e q in omega arith), tt),
      )))

  -- a buy's price entered
  buy_entered : (high' : List ℕ) → length high' ≡ length high → word m (order_place k + DIRECTION) ≡ 1
      → ((q : ℕ) → (q ≡ word m (order_place k + PERIOD) → ⊥) → get_or high' q 0 ≡ get_or high q 0)
      → get_or high (word m (order_place k + PERIOD)) 0 ≤ get_or high' (word m (order_place k + PERIOD)) 0 → word m (order_place k + PRICE)
      < get_or high' (word m (order_place k + PERIOD)) 0
      → ((x : ℕ) → get_or high (word m (order_place k + PERIOD)) 0 ≤ x → word m (order_place k + PRICE) < x → get_or high' (word m (order_place k + PERIOD)) 0 ≤ x)
      → PricesNoted m (k + 1) high' low
  buy_entered high' long d same up over tight =
      record {
        high_long = rw long s.high_long;
        low_long = s.low_long;
        above = λ q j a b e i. above q j a e i (ℕ_discrete j k) (ℕ_discrete q (word m (order_place k + PERIOD))) b;
        least = λ q x a f. least q x a f (ℕ_discrete q (word m (order_place k + PERIOD)));
        below = λ q j a b e i. below q j a e i (ℕ_discrete j k) b;
        most = λ q x a l f. s.most q x a l (λ j b. f j (omega arith));
      }
    where
      above : (q j : ℕ) → q < periods (word m DAYS) → word m (order_place j + DIRECTION) ≡ 1 → word m (order_place j + PERIOD) ≡ q → Dec (j ≡ k)
          → Dec (q ≡ word m (order_place k + PERIOD)) → j < k + 1
          → word m (order_place j + PRICE) < get_or high' q 0
      above q j a e i (yes y) (yes z) b = rw z (rw y over)
      above q j a e i (yes y) (no z) b = absurd (z (sym i ∙ ap (λ (t : ℕ). word m (order_place t + PERIOD)) y))
      above q j a e i (no y) (yes z) b = let o = s.above q j a (omega arith) e i in rw z (let u = rw z at o in omega arith)
      above q j a e i (no y) (no z) b = let o = s.above q j a (omega arith) e i in omega (arith, same q z)

      least : (q x : ℕ) → q < periods (word m DAYS) → ((j : ℕ) → j < k + 1 → word m (order_place j + DIRECTION) ≡ 1 → word m (order_place j + PERIOD) ≡ q
          → word m (order_place j + PRICE) < x)
          → Dec (q ≡ word m (order_place k + PERIOD)) → get_or high' q 0 ≤ x
      least q x a f (yes z) =
          let o = s.least q x a (λ j b. f j (omega arith)) in
          rw z (tight x (rw z at o) (f k (omega arith) d (sym z)))
      least q x a f (no z) = let o = s.least q x a (λ j b. f j (omega arith)) in omega (arith, same q z)

      below : (q j : ℕ) → q < periods (word m DAYS) → word m (order_place j + DIRECTION) ≡ 0 → word m (order_place j + PERIOD) ≡ q → Dec (j ≡ k) → j < k + 1
          → get_or low q 0
          ≤ word m (order_place j + PRICE)
      below q j a e i (yes y) b = let z : word m (order_place k + DIRECTION) ≡ 0 = sym (ap (λ (t : ℕ). word m (order_place t + DIRECTION)) y)
          ∙ e in absurd (omega arith)
      below q j a e i (no y) b = s.below q j a (omega arith) e i

  -- a sale's price entered
  sell_entered : (low' : List ℕ) → length low' ≡ length low → word m (order_place k + DIRECTION) ≡ 0
      → ((q : ℕ) → (q ≡ word m (order_place k + PERIOD) → ⊥) → get_or low' q 0 ≡ get_or low q 0)
      → get_or low' (word m (order_place k + PERIOD)) 0 ≤ get_or low (word m (order_place k + PERIOD)) 0
      → get_or low' (word m (order_place k + PERIOD)) 0 ≤ word m (order_place k + PRICE)
      → ((x : ℕ) → x < get_or low (word m (order_place k + PERIOD)) 0 → x < word m (order_place k + PRICE) → x < get_or low' (word m (order_place k + PERIOD)) 0)
      → PricesNoted m (k + 1) high low'
  sell_entered low' long d same down under tight =
      record {
        high_long = s.high_long;
        low_long = rw long s.low_long;
        above = λ q j a b e i. above q j a e i (ℕ_discrete j k) b;
        least = λ q x a f. s.least q x a (λ j b. f j (omega arith));
        below = λ q j a b e i. below q j a e i (ℕ_discrete j k) (ℕ_discrete q (word m (order_place k + PERIOD))) b;
        most = λ q x a l f. most q x a l f (ℕ_discrete q (word m (order_place k + PERIOD)));
      }
    where
      below : (q j : ℕ) → q < periods (word m DAYS) → word m (order_place j + DIRECTION) ≡ 0 → word m (order_place j + PERIOD) ≡ q → Dec (j ≡ k)
          → Dec (q ≡ word m (order_place k + PERIOD)) → j < k + 1
          → get_or low' q 0 ≤ word m (order_place j + PRICE)
      below q j a e i (yes y) (yes z) b = rw z (rw y under)
      below q j a e i (yes y) (no z) b = absurd (z (sym i ∙ ap (λ (t : ℕ). word m (order_place t + PERIOD)) y))
      below q j a e i (no y) (yes z) b = let o = s.below q j a (omega arith) e i in rw z (let u = rw z at o in omega arith)
      below q j a e i (no y) (no z) b = let o = s.below q j a (omega arith) e i in omega (arith, same q z)

      most : (q x : ℕ) → q < periods (word m DAYS) → x ≤ 10_000_000
          → ((j : ℕ) → j < k + 1 → word m (order_place j + DIRECTION) ≡ 0 → word m (order_place j + PERIOD) ≡ q → x
          < word m (order_place j + PRICE))
          → Dec (q ≡ word m (order_place k + PERIOD)) → x < get_or low' q 0
      most q x a l f (yes z) =
          let o = s.most q x a l (λ j b. f j (omega arith)) in
          rw z (tight x (rw z at o) (f k (omega arith) d (sym z)))
      most q x a l f (no z) = let o = s.most q x a l (λ j b. f j (omega arith)) in omega (arith, same q z)

      above : (q j : ℕ) → q < periods (word m DAYS) → word m (order_place j + DIRECTION) ≡ 1 → word m (order_place j + PERIOD) ≡ q → Dec (j ≡ k) → j < k + 1
          → word m (order_place j + PRICE) < get_or high q 0
      above q j a e i (yes y) b = let z : word m (order_place k + DIRECTION) ≡ 1 = sym (ap (λ (t : ℕ). word m (order_place t + DIRECTION)) y)
          ∙ e in absurd (omega arith)
      above q j a e i (no y) b = s.above q j a (omega arith) e i

  is_sale : (word m (order_place k + DIRECTION) ≡ 1 → ⊥) → word m (order_place k + DIRECTION) ≡ 0
  is_sale n = let d = (order_words_lem m k g h).direction in go d (ℕ_discrete (word m (order_place k + DIRECTION)) 1)
    where
      go : word m (order_place k + DIRECTION) ≤ 1 → Dec (word m (order_place k + DIRECTION) ≡ 1) → word m (order_place k + DIRECTION) ≡ 0
      go d (yes y) = absurd (n y)
      go d (no y) = omega arith

  -- the order's price entered
  abbrev d : ℕ
  d = word m (order_place k + DIRECTION)

  abbrev p : ℕ
  p = word m (order_place k + PERIOD)

  abbrev price : ℕ
  price = word m (order_place k + PRICE)

  -- a buy tested against the lowest sell price, a sale against what is above the highest buy price
  pub buy_test : word m CEILING ≤ 10_000_000 → d ≡ 1 → leb (get_or low p 0) price ≡ not (all k (crossless m k))
  buy_test c e = go (leb (get_or low p 0) price) refl
    where
      go : (b : Bool) → leb (get_or low p 0) price ≡ b → b ≡ not (all k (crossless m k))
      go true q = ap not (buy_crosses c e (leb-true _ _ q))
      go false q = ap not (buy_apart e (leb-false _ _ q))

  pub sell_test : (d ≡ 1 → ⊥) → ltb price (get_or high p 0) ≡ not (all k (crossless m k))
  sell_test n = go (ltb price (get_or high p 0)) refl
    where
      go : (b : Bool) → ltb price (get_or high p 0) ≡ b → b ≡ not (all k (crossless m k))
      go true q = ap not (sell_crosses (is_sale n) (ltb-true _ _ q))
      go false q = ap not (sell_apart (is_sale n) (ltb-false _ _ q))

  price_entered : price < most_word → p < length high → p < length low → Dec (d ≡ 1) → Dec (price < get_or high p 0) → Dec (price < get_or low p 0)
      → PricesNoted m (k + 1) (high_with d p price high) (low_with d p price low)
  price_entered small rh rl (yes e) (yes u) w = rw (high-not d p price high (λ _. u), low-not d p price low (λ n. absurd (n e)))
      (buy_entered high refl e (λ q n. refl) (omega arith) u (λ x a b. a))
  price_entered small rh rl (yes e) (no u) w =
      let v = get_or-set_same high p (price + 1) 0 rh in
      rw (high_new d p price high e (omega arith) small, low-not d p price low (λ n. absurd (n e)))
      (buy_entered (set high p (price + 1)) (length-set high p (price + 1)) e
      (λ q n. get_or-set_other high p q (price + 1) 0 n) (omega arith) (omega arith) (λ x a b. omega arith))
  price_entered small rh rl (no n) u (yes w) =
      let v = get_or-set_same low p price 0 rl in
      rw (high-not d p price high (λ e. absurd (n e)), low_new d p price low n w)
      (sell_entered (set low p price) (length-set low p price) (is_sale n)
      (λ q z. get_or-set_other low p q price 0 z) (omega arith) (omega arith) (λ x a b. omega arith))
  price_entered small rh rl (no n) u (no w) = rw (high-not d p price high (λ e. absurd (n e)), low-not d p price low (λ _. omega arith))
      (sell_entered low refl (is_sale n) (λ q z. refl) (omega arith) (omega arith) (λ x a b. a))

  pub priced : word m CEILING ≤ 10_000_000 → (r : Bool) → r ≡ not (all k (crossless m k)) → r ≡ false
      → Priced m k true (high_with d p price high) (low_with d p price low)
  priced top r e f =
      record {
        answer = sym (not-false (all k (crossless m k)) (sym e ∙ f));
        entered = λ z. let t = term in let y = g.readable.days_to in let w = (order_words_lem m k g h).price.1 in
            let a = s.high_long in let b = s.low_long in
            price_entered (omega arith) (omega arith) (omega arith) (ℕ_discrete d 1) (dec_lt price (get_or high p 0)) (dec_lt price (get_or low p 0));
      }

-- an order that stands, or does not
module _ (m : List ℕ) (k : ℕ) (high low : List ℕ) where
  pub stands_not : (r : Bool) → r ≡ all k (λ j. one_direction (order_in m k) (order_in m j)) → r ≡ false → OrderStands m k false high low
  stands_not r e f =
      record {
        answer = sym (false_by _ (λ t. not_both _ (all_by k (λ j. one_direction (order_in m k) (order_in m j))
            (λ j h. one_direction-holds (order_in m k) (order_in m j)
            (pair_fact (word m PHASE) (order_in m k) (order_in m j) (all_at k (λ i. pair_fits (word m PHASE) (order_in m k) (order_in m i)) j t h)).direction))
            (sym e
            ∙ f)));
        entered = λ z. both_ways (sym z);
      }

  pub stands_called : (r : Bool) → r ≡ all k (λ j. one_direction (order_in m k) (order_in m j)) → r ≡ true → (word m PHASE ≡ 1 → ⊥) → OrderStands m k true high low
  stands_called r e t n =
      record {
        answer = sym (all_by k (λ j. pair_fits (word m PHASE) (order_in m k) (order_in m j))
            (λ j h. pair_holds (word m PHASE) (order_in m k) (order_in m j)
            (record {
              direction = one_direction_fact (order_in m k) (order_in m j) (all_at k (λ i. one_direction (order_in m k) (order_in m i)) j (sym e ∙ t) h);
              buy = λ z. absurd
                  (n z);
              sale = λ z. absurd (n z);
            })));
        entered = λ z y. absurd (n y);
      }

  pub stands_rolling : (r q : Bool) → r ≡ all k (λ j. one_direction (order_in m k) (order_in m j)) → r ≡ true → word m PHASE ≡ 1 → Priced m k q high low
      → OrderStands m k q high low
  unfolding pair_fits holds
  stands_rolling r q e t y d =
      record {
        answer = d.answer ∙ all_ext k _ _ (λ j h. both j (all_at k _ j (sym e ∙ t) h));
        entered = λ z x. d.entered z;
      }
    where
      both : (j : ℕ) → one_direction (order_in m k) (order_in m j) ≡ true → holds (apart (order_in m k) (order_in m j) ∷ apart (order_in m j) (order_in m k) ∷ [])
          ≡ pair_fits (word m PHASE) (order_in m k) (order_in m j)
      both j w = rw (w, eq-eqb (word m PHASE) 1 y) (go (apart (order_in m k) (order_in m j)) (apart (order_in m j) (order_in m k)))
        where
          go : (a b : Bool) → holds (a ∷ b ∷ []) ≡ (a && b)
          go true true = refl
          go true false = refl
          go false b = refl

-- the orders below k stand
pub record Stood (m : List ℕ) (k : ℕ) (high low : List ℕ) : Type 0 where
  pub passed : pairs_before m k ≡ true
  pub kept : PricesKept m k high low

pub stood_none : (m high low : List ℕ) → PricesKept m 0 high low → Stood m 0 high low
unfolding pairs_before
stood_none m high low s = record { passed = all_none _; kept = s }

module _ (m : List ℕ) (k : ℕ) (high low high' low' : List ℕ) (s : Stood m k high low) (r : Bool) (d : OrderStands m k r high' low') where
  pub stood_more : r ≡ true → Stood m (k + 1) high' low'
  unfolding pairs_before
  stood_more t = record { passed = all_more k _ s.passed (sym d.answer ∙ t); kept = d.entered t }

  pub stood_fails : k < word m ORDERS → r ≡ false → false ≡ pairs_fit (word m PHASE) (decode m).orders
  unfolding decode
  stood_fails h f = pairs_fail (word m PHASE) (orders_part m) (word m ORDERS) k h (sym d.answer ∙ f)

pub stood_ends : (m : List ℕ) (k : ℕ) (high low : List ℕ) → k ≡ word m ORDERS → Stood m k high low → true ≡ pairs_fit (word m PHASE) (decode m).orders
unfolding decode pairs_before
stood_ends m k high low e s = sym (pairs_by (word m PHASE) (orders_part m) (word m ORDERS) (rw e at s.passed))

pub pairs_none : (m : List ℕ) → word m ORDERS ≡ 0 → pairs_fit (word m PHASE) (decode m).orders ≡ true
unfolding decode
pairs_none m e = pairs_by (word m PHASE) (orders_part m) (word m ORDERS) (rw e (all_none _))
