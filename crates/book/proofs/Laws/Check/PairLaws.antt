-- Laws of orders that stand together.
use Rattle.std.proofs.Common.{◌≡◌, ℕ, ◌<◌, Bool, true, false, not, ◌&&◌, ◌||◌, eqb, ltb, List, length, get_or, sym, refl, arith, ltb-true}
use Rattle.std.proofs.Common.{lt-ltb, eq-eqb, ne_eqb, eqb-true}
use native.Mathlib.Decide.{ℕ_discrete, dec_lt}
use Rattle.measures.specs.Lists.{every, all}
use Rattle.measures.proofs.ListLaws.{and_true, and_left, and_right, or_right, not_both, false_by, all_at, all_by, every_at, every_by}
use Rattle.matching.specs.Orders.{Order as OpenOrder, buys, sells}
use Rattle.matching.specs.Memory.{order_at, orders_in, no_order}
use Rattle.matching.proofs.Laws.Orders.OrderLaws.{orders_length, orders_at_lem}
use Rattle.book.specs.Sound.{one_direction, apart, each_two}
use Rattle.book.specs.Inner.Readable.{pair_fits, pairs_fit}

-- one way, as a fact
abbrev pub OneDirection : OpenOrder → OpenOrder → Type 0
OneDirection a b = a.unit ≡ b.unit → a.period ≡ b.period → a.direction ≡ b.direction

pub one_direction-holds : (a b : OpenOrder) → OneDirection a b → one_direction a b ≡ true
one_direction-holds a b h = go (ℕ_discrete a.unit b.unit) (ℕ_discrete a.period b.period)
  where
    same : Bool
    same = eqb a.unit b.unit && eqb a.period b.period

    go : Dec (a.unit ≡ b.unit) → Dec (a.period ≡ b.period)
        → (not (eqb a.unit b.unit && eqb a.period b.period) || eqb a.direction b.direction) ≡ true
    go (yes u) (yes p) = or_right (not (eqb a.unit b.unit && eqb a.period b.period)) _ (eq-eqb _ _ (h u p))
    go (yes u) (no p) = rw (ne_eqb a.period b.period p, eq-eqb a.unit b.unit u)
    go (no u) p = rw (ne_eqb a.unit b.unit u)

pub one_direction_fact : (a b : OpenOrder) → one_direction a b ≡ true → OneDirection a b
one_direction_fact a b e u p = eqb-true _ _ (rw (eq-eqb a.unit b.unit u, eq-eqb a.period b.period p) at e)

-- apart, as a fact
abbrev pub Apart : OpenOrder → OpenOrder → Type 0
Apart a b = a.direction ≡ 1 → b.direction ≡ 0 → a.period ≡ b.period → a.price < b.price

pub apart-holds : (a b : OpenOrder) → Apart a b → apart a b ≡ true
apart-holds a b h = go (ℕ_discrete a.direction 1) (ℕ_discrete b.direction 0) (ℕ_discrete a.period b.period)
  where
    go : Dec (a.direction ≡ 1) → Dec (b.direction ≡ 0) → Dec (a.period ≡ b.period)
        → (not (buys a.direction && sells b.direction && eqb a.period b.period) || ltb a.price b.price) ≡ true
    go (yes d) (yes e) (yes p) = or_right (not (buys a.direction && sells b.direction && eqb a.period b.period)) _ (lt-ltb _ _ (h d e p))
    go (yes d) (yes e) (no p) = rw (ne_eqb a.period b.period p, eq-eqb a.direction 1 d, eq-eqb b.direction 0 e)
    go (yes d) (no e) p = rw (ne_eqb b.direction 0 e, eq-eqb a.direction 1 d)
    go (no d) e p = rw (ne_eqb a.direction 1 d)

pub apart_fact : (a b : OpenOrder) → apart a b ≡ true → Apart a b
apart_fact a b e d f p = ltb-true _ _ (rw (eq-eqb a.direction 1 d, eq-eqb b.direction 0 f, eq-eqb a.period b.period p) at e)

-- a pair, as facts
pub record Pair (phase : ℕ) (a b : OpenOrder) : Type 0 where
  pub direction : OneDirection a b
  pub buy : phase ≡ 1 → Apart a b
  pub sale : phase ≡ 1 → Apart b a

pub pair_holds : (phase : ℕ) (a b : OpenOrder) → Pair phase a b → pair_fits phase a b ≡ true
unfolding pair_fits
pair_holds phase a b f = and_true (one_direction a b) _ (one_direction-holds a b f.direction) (go (ℕ_discrete phase 1))
  where
    go : Dec (phase ≡ 1) → (not (eqb phase 1) || (apart a b && apart b a)) ≡ true
    go (yes e) = or_right (not (eqb phase 1)) _ (and_true (apart a b) (apart b a) (apart-holds a b (f.buy e)) (apart-holds b a (f.sale e)))
    go (no e) = rw (ne_eqb phase 1 e)

pub pair_fact : (phase : ℕ) (a b : OpenOrder) → pair_fits phase a b ≡ true → Pair phase a b
unfolding pair_fits
pair_fact phase a b e =
    let r : (not (eqb phase 1) || (apart a b && apart b a)) ≡ true = and_right (one_direction a b) (not (eqb phase 1) || (apart a b && apart b a)) e in
    record {
      direction = one_direction_fact a b (and_left (one_direction a b) (not (eqb phase 1) || (apart a b && apart b a)) e);
      buy = λ z. apart_fact a b (and_left (apart a b) (apart b a) (rw (eq-eqb phase 1 z) at r));
      sale = λ z. apart_fact b a (and_right (apart a b) (apart b a) (rw (eq-eqb phase 1 z) at r));
    }

pub pair_turned : (phase : ℕ) (a b : OpenOrder) → Pair phase a b → Pair phase b a
pair_turned phase a b f = record { direction = λ u p. sym (f.direction (sym u) (sym p)); buy = f.sale; sale = f.buy }

pub pair_alone : (phase : ℕ) (a : OpenOrder) → Pair phase a a
pair_alone phase a = record { direction = λ u p. refl; buy = λ z d e. absurd (omega arith); sale = λ z d e. absurd (omega arith) }

-- each two of a list
module _ (phase : ℕ) (os : List OpenOrder) where
  abbrev pub Together : Type 0
  Together = (k j : ℕ) → k < length os → j < length os → Pair phase (get_or os k no_order) (get_or os j no_order)

  pub pairs_hold : Together → pairs_fit phase os ≡ true
  unfolding pairs_fit each_two
  pairs_hold h =
      and_true (every (λ (a : OpenOrder). every (one_direction a) os) os) _
      (every_by (λ (a : OpenOrder). every (one_direction a) os) os no_order
      (λ k l. every_by (one_direction (get_or os k no_order)) os no_order
      (λ j m. one_direction-holds (get_or os k no_order) (get_or os j no_order) (h k j l m).direction)))
      (go (ℕ_discrete phase 1))
    where
      go : Dec (phase ≡ 1) → (not (eqb phase 1) || every (λ (a : OpenOrder). every (apart a) os) os) ≡ true
      go (yes e) =
          or_right (not (eqb phase 1)) _
          (every_by (λ (a : OpenOrder). every (apart a) os) os no_order
          (λ k l. every_by (apart (get_or os k no_order)) os no_order (λ j m. apart-holds (get_or os k no_order) (get_or os j no_order) ((h k j l m).buy e))))
      go (no e) = rw (ne_eqb phase 1 e)

  pub pairs_fact : pairs_fit phase os ≡ true → Together
  unfolding pairs_fit each_two
  pairs_fact e k j l m =
      let w : every (λ (a : OpenOrder). every (one_direction a) os) os
      ≡ true = and_left (every (λ (a : OpenOrder). every (one_direction a) os) os) (not (eqb phase 1)
      || every (λ (a : OpenOrder). every (apart a) os) os) e in
      let r : (not (eqb phase 1) || every (λ (a : OpenOrder). every (apart a) os) os)
      ≡ true = and_right (every (λ (a : OpenOrder). every (one_direction a) os) os) (not (eqb phase 1)
      || every (λ (a : OpenOrder). every (apart a) os) os) e in
      record {
        direction = one_direction_fact (get_or os k no_order) (get_or os j no_order)
            (every_at (one_direction (get_or os k no_order)) os j no_order (every_at (λ (a : OpenOrder). every (one_direction a) os) os k no_order w l) m);
        buy = λ z. apart_fact (get_or os k no_order) (get_or os j no_order)
            (every_at (apart (get_or os k no_order)) os j no_order
            (every_at (λ (a : OpenOrder). every (apart a) os) os k no_order (rw (eq-eqb phase 1 z) at r) l) m);
        sale = λ z. apart_fact (get_or os j no_order) (get_or os k no_order)
            (every_at (apart (get_or os j no_order)) os k no_order
            (every_at (λ (a : OpenOrder). every (apart a) os) os j no_order (rw (eq-eqb phase 1 z) at r) m) l);
      }

-- each with those before it is enough
module _ (phase : ℕ) (m : List ℕ) (n : ℕ) where
  pub pairs_by : all n (λ k. all k (λ j. pair_fits phase (order_at m k) (order_at m j))) ≡ true → pairs_fit phase (orders_in m n) ≡ true
  pairs_by e = pairs_hold phase (orders_in m n) (λ k j l h. at k j (rw (orders_length m n) at l) (rw (orders_length m n) at h))
    where
      one : (k j : ℕ) → k < n → j < k → Pair phase (order_at m k) (order_at m j)
      one k j l h = pair_fact phase _ _ (all_at k _ j (all_at n _ k e l) h)

      some : (k j : ℕ) → k < n → j < n → Dec (j < k) → Dec (k < j) → Pair phase (order_at m k) (order_at m j)
      some k j l h (yes a) d = one k j l a
      some k j l h (no a) (yes d) = pair_turned phase _ _ (one j k h d)
      some k j l h (no a) (no d) =
          let q : k ≡ j = omega arith in
          rw q (pair_alone phase (order_at m j))

      at : (k j : ℕ) → k < n → j < n → Pair phase (get_or (orders_in m n) k no_order) (get_or (orders_in m n) j no_order)
      at k j l h = rw (orders_at_lem m n k l, orders_at_lem m n j h) (some k j l h (dec_lt j k) (dec_lt k j))

  pub pairs_fail : (k : ℕ) → k < n → all k (λ j. pair_fits phase (order_at m k) (order_at m j)) ≡ false → false ≡ pairs_fit phase (orders_in m n)
  pairs_fail k l e = sym (false_by _ (λ t. not_both _ (all_by k _ (λ j h. at t j h)) e))
    where
      at : pairs_fit phase (orders_in m n) ≡ true → (j : ℕ) → j < k → pair_fits phase (order_at m k) (order_at m j) ≡ true
      at t j h =
          let lk : k < length (orders_in m n) = rw (orders_length m n) l in
          let hj : j < n = omega arith in
          let lj : j < length (orders_in m n) = rw (orders_length m n) hj in
          pair_holds phase _ _ (rw (orders_at_lem m n k l, orders_at_lem m n j hj) at (pairs_fact phase (orders_in m n) t k j lk lj))
