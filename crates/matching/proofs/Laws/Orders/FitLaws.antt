-- Laws of orders that fit: numbers that rise by neighbours, a sum along the orders, and the five tests.
use Prim.Native.Nat.{ℕ, zero, suc, ◌+◌, ◌*◌, ◌-◌, ◌<◌, ◌≤◌, min}
use mathlib.Core.Path.{◌≡◌, refl, sym, ap, ◌∙◌}
use mathlib.Core.Bool.{Bool, true, false, ◌&&◌}
use mathlib.Core.List.{List, [], ◌∷◌}
use native.Mathlib.Omega.{arith}
use native.Mathlib.Nat.{not-suc-le-zero}
use native.Mathlib.Decide.{ℕ_discrete, dec_lt, dec_le}
use borrow.Author.Tests.{lt-ltb, ltb-true, le-leb, lt-leb, leb-true}
use lib.ListN.{length, get_or, drop, drop_of_length-le, length-map, get_or-map}
use lib.Dec.{leb, ltb}
use Rattle.measures.specs.Lists.{every}
use Rattle.measures.specs.Ranges.{most_energy, most_number}
use Rattle.measures.proofs.ListLaws.{and_true, and_left, and_right, every_at, every_by, sum_of-drop}
use Rattle.matching.specs.Orders.{Order, rising, numbers, quantities}
use Rattle.matching.specs.Memory.{order_at, orders_in, no_order}
use Rattle.matching.specs.Answers.{fit, fit_below}
use Rattle.matching.proofs.Laws.Orders.OrderLaws.{orders_length, orders_at_lem}

-- each number is above the one before it
abbrev pub Climbs : List ℕ → Type 0
Climbs ns = (k : ℕ) → suc k < length ns → get_or ns k 0 < get_or ns (suc k) 0

-- then each is above all before it
climbs_far : (ns : List ℕ) → Climbs ns → (i j : ℕ) → i < j → j < length ns → get_or ns i 0 < get_or ns j 0
climbs_far ns h i zero l u = absurd (not-suc-le-zero l)
climbs_far ns h i (suc j) l u = go (λ k. climbs_far ns h i j k (omega arith)) (dec_lt i j)
  where
    up : get_or ns j 0 < get_or ns (suc j) 0
    up = h j u

    go : (i < j → get_or ns i 0 < get_or ns j 0) → Dec (i < j) → get_or ns i 0 < get_or ns (suc j) 0
    go ih (yes k) = let t = ih k in omega (arith, up)
    go ih (no k) =
        let s : get_or ns i 0 ≡ get_or ns j 0 = ap (λ (x : ℕ). get_or ns x 0) (omega arith) in
        omega (arith, up)

-- rising by neighbours is rising
pub rising_by : (ns : List ℕ) → Climbs ns → rising ns ≡ true
unfolding rising
rising_by [] h = refl
rising_by (n ∷ ns) h =
    and_true (every (ltb n) ns) (rising ns)
    (every_by (ltb n) ns 0 (λ i l. lt-ltb n (get_or ns i 0) (climbs_far (n ∷ ns) h 0 (suc i) (omega arith) (omega arith))))
    (rising_by ns (λ k l. h (suc k) (omega arith)))

-- the number at a later place is larger
pub rising_at : (ns : List ℕ) → rising ns ≡ true → (i j : ℕ) → i < j → j < length ns → get_or ns i 0 < get_or ns j 0
unfolding rising
rising_at [] e i j l u = absurd (not-suc-le-zero u)
rising_at (n ∷ ns) e i zero l u = absurd (not-suc-le-zero l)
rising_at (n ∷ ns) e zero (suc j) l u = ltb-true n (get_or ns j 0) (every_at (ltb n) ns j 0 (and_left (every (ltb n) ns) (rising ns) e) (omega arith))
rising_at (n ∷ ns) e (suc i) (suc j) l u = rising_at ns (and_right (every (ltb n) ns) (rising ns) e) i j (omega arith) (omega arith)

-- one number that is not above the one before it is enough
pub rising_fails : (ns : List ℕ) (k : ℕ) → suc k < length ns → get_or ns (suc k) 0 ≤ get_or ns k 0 → rising ns ≡ false
rising_fails ns k u h = go (rising ns) refl
  where
    go : (b : Bool) → rising ns ≡ b → b ≡ false
    go true e = let t = rising_at ns e k (suc k) (omega arith) u in absurd (omega arith)
    go false e = refl

-- numbers of orders in memory
pub numbers-length : (m : List ℕ) (n : ℕ) → length (numbers (orders_in m n)) ≡ n
numbers-length m n = length-map (orders_in m n) (λ o. o.number) ∙ orders_length m n

pub numbers_at : (m : List ℕ) (n k : ℕ) → k < n → get_or (numbers (orders_in m n)) k 0 ≡ get_or m (6 * k) 0
numbers_at m n k h = get_or-map (λ o. o.number) (orders_in m n) k no_order ∙ ap (λ (o : Order). o.number) (orders_at_lem m n k h)

-- what stands from a place on
pub quantities-more : (m : List ℕ) (n k : ℕ) → k < n → quantities (drop k (orders_in m n)) ≡ get_or m (6 * k + 5) 0 + quantities (drop (k + 1) (orders_in m n))
quantities-more m n k h =
    let l : k < length (orders_in m n) = omega (arith, orders_length m n) in
    sum_of-drop (λ o. o.quantity) (orders_in m n) k no_order l
    ∙ ap (λ (o : Order). o.quantity + quantities (drop (k + 1) (orders_in m n))) (orders_at_lem m n k h)

-- the numbers of the orders before place k rise by neighbours
abbrev pub ClimbsTo : List ℕ → ℕ → Type 0
ClimbsTo m k = (j : ℕ) → suc j < k → get_or m (6 * j) 0 < get_or m (6 * suc j) 0

-- one order more, whose number is above the one before it
pub climbs_more : (m : List ℕ) (k : ℕ) → 1 ≤ k → (order_at m (k - 1)).number < (order_at m k).number → ClimbsTo m k → ClimbsTo m (k + 1)
climbs_more m k h e c j l = go (ℕ_discrete (suc j) k)
  where
    go : Dec (suc j ≡ k) → get_or m (6 * j) 0 < get_or m (6 * suc j) 0
    go (yes q) =
        let b : k - 1 ≡ j = omega arith in
        rw (b, ← q) at e
    go (no n) = c j (omega arith)

pub climbs_rise : (m : List ℕ) (n : ℕ) → ClimbsTo m n → rising (numbers (orders_in m n)) ≡ true
climbs_rise m n c = rising_by (numbers (orders_in m n)) at
  where
    at : Climbs (numbers (orders_in m n))
    at k l =
        let u : suc k < n = omega (arith, numbers-length m n) in
        omega (arith, c k u, numbers_at m n k (omega arith), numbers_at m n (suc k) u)

pub climbs_not : (m : List ℕ) (n k : ℕ) → 1 ≤ k → k < n → (order_at m k).number ≤ (order_at m (k - 1)).number → rising (numbers (orders_in m n)) ≡ false
climbs_not m n k one l h =
    let e : suc (k - 1) ≡ k = omega arith in
    let b : get_or m (6 * suc (k - 1)) 0 ≡ get_or m (6 * k) 0 = ap (λ (i : ℕ). get_or m i 0) (omega arith) in
    rising_fails (numbers (orders_in m n)) (k - 1) (omega (arith, numbers-length m n))
    (omega (arith, numbers_at m n (k - 1) (omega arith), numbers_at m n (suc (k - 1)) (omega arith)))

-- how far the sum has come: what is summed and what stands from place k on make the whole, up to the largest number
pub record Summing (m : List ℕ) (n sum k : ℕ) : Type 0 where
  pub low : sum ≤ most_number
  pub rest : min (sum + quantities (drop k (orders_in m n))) most_number ≡ min (quantities (orders_in m n)) most_number

pub summing_more : (m : List ℕ) (n sum k t : ℕ) → k < n → t ≡ min (sum + (order_at m k).quantity) most_number → Summing m n sum k → Summing m n t (k + 1)
summing_more m n sum k t l e s = record { low = omega arith; rest = omega (arith, s.rest, quantities-more m n k l) }

pub summing_ends : (m : List ℕ) (n sum k : ℕ) → n ≤ k → Summing m n sum k → leb sum most_energy ≡ leb (quantities (orders_in m n)) most_energy
summing_ends m n sum k l s = go (dec_le (quantities (orders_in m n)) most_energy)
  where
    e : quantities (drop k (orders_in m n)) ≡ 0
    e = ap quantities (drop_of_length-le (orders_in m n) {i = k} (omega (arith, orders_length m n)))

    go : Dec (quantities (orders_in m n) ≤ most_energy) → leb sum most_energy ≡ leb (quantities (orders_in m n)) most_energy
    go (yes h) = le-leb sum most_energy (omega (arith, e, s.low, s.rest)) ∙ sym (le-leb (quantities (orders_in m n)) most_energy h)
    go (no h) = lt-leb sum most_energy (omega (arith, e, s.low, s.rest)) ∙ sym (lt-leb (quantities (orders_in m n)) most_energy (omega arith))

-- the five tests
module _ (m rows : List ℕ) (n : ℕ) where
  pub is_fit : n ≤ 256 → 6 * n ≤ length m → 6 * n ≤ length rows → rising (numbers (orders_in m n)) ≡ true → fit m n rows
      ≡ leb (quantities (orders_in m n)) most_energy
  unfolding fit
  is_fit a b c h = rw (le-leb n 256 a, le-leb (6 * n) (length m) b, le-leb (6 * n) (length rows) c, h)

-- what the five tests leave
pub record Fit (m rows : List ℕ) (n : ℕ) : Type 0 where
  pub few : n ≤ 256
  pub inside : 6 * n ≤ length m
  pub lent : 6 * n ≤ length rows
  pub rises : rising (numbers (orders_in m n)) ≡ true
  pub small : quantities (orders_in m n) ≤ most_energy

pub fit_gives : (m rows : List ℕ) (n : ℕ) → fit m n rows ≡ true → Fit m rows n
unfolding fit
fit_gives m rows n e =
    let a = leb n 256 in
    let b = leb (6 * n) (length m) in
    let c = leb (6 * n) (length rows) in
    let d = rising (numbers (orders_in m n)) in
    let e4 = and_left (a && b && c && d) (leb (quantities (orders_in m n)) most_energy) e in
    let e3 = and_left (a && b && c) d e4 in
    let e2 = and_left (a && b) c e3 in
    record {
      few = leb-true n 256 (and_left a b e2);
      inside = leb-true (6 * n) (length m) (and_right a b e2);
      lent = leb-true (6 * n) (length rows) (and_right (a && b) c e3);
      rises = and_right (a && b && c) d e4;
      small = leb-true (quantities (orders_in m n)) most_energy (and_right (a && b && c && d) (leb (quantities (orders_in m n)) most_energy) e);
    }

-- and for periods one after the other
module _ (m rows : List ℕ) (n end : ℕ) where
  pub below_is : fit m n rows ≡ true → 12 * n ≤ length rows → fit_below m n end rows ≡ leb end 744
  unfolding fit_below
  below_is e h = rw (e, le-leb (12 * n) (length rows) h)

  pub below_gives : fit_below m n end rows ≡ true → Fit m rows n × (12 * n ≤ length rows) × (end ≤ 744)
  unfolding fit_below
  below_gives e =
      let a = fit m n rows in
      let b = leb (12 * n) (length rows) in
      let t = and_left (a && b) (leb end 744) e in
      (fit_gives m rows n (and_left a b t), leb-true (12 * n) (length rows) (and_right a b t), leb-true end 744 (and_right (a && b) (leb end 744) e))
