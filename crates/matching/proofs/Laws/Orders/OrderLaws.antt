-- Laws of orders in memory: a list of them is known by its elements.
use Prim.Native.Nat.{ℕ, suc, ◌+◌, ◌*◌, ◌-◌, ◌<◌, ◌≤◌}
use mathlib.Core.Path.{◌≡◌, refl, sym, ap, ◌∙◌}
use mathlib.Core.List.{List, ◌++◌}
use native.Mathlib.Omega.{arith}
use native.Mathlib.Nat.{add-zero}
use native.Mathlib.Decide.{dec_lt}
use lib.ListN.{length, get_or, take, drop, set, length-append, length-set, length-take, length-drop, get_or-append}
use lib.Seq.{ext_get_or, get_or-set_other, get_or-set_same, get_or-take, get_or-drop, get_or-append-add, length-take-le, drop-set-lt}
use Rattle.measures.proofs.ListLaws.{table-length, table_at, table_is, table-set}
use Rattle.matching.specs.Orders.{Order, leaving}
use Rattle.matching.specs.Memory.{order_at, orders_in, no_order}

pub orders_length : (m : List ℕ) (n : ℕ) → length (orders_in m n) ≡ n
unfolding orders_in
orders_length m n = table-length n (order_at m)

pub orders_at_lem : (m : List ℕ) (n k : ℕ) → k < n → get_or (orders_in m n) k no_order ≡ order_at m k
unfolding orders_in
orders_at_lem m n k h = table_at n (order_at m) k no_order h

-- two lists of orders are equal by their elements
pub orders_ext : (m : List ℕ) (n : ℕ) (l : List Order) → length l ≡ n → ((k : ℕ) → k < n → order_at m k ≡ get_or l k no_order) → orders_in m n ≡ l
unfolding orders_in
orders_ext m n l e h = table_is n (order_at m) l no_order e h

-- an order is known by its six numbers
pub order_same : (x y : List ℕ) (j i : ℕ) → ((f : ℕ) → f < 6 → get_or x (6 * j + f) 0 ≡ get_or y (6 * i + f) 0) → order_at x j ≡ order_at y i
order_same x y j i h =
    let e0 : get_or x (6 * j) 0 ≡ get_or y (6 * i) 0 = rw (add-zero (6 * j), add-zero (6 * i)) at (h 0 (omega arith)) in
    rw (e0, h 1 (omega arith), h 2 (omega arith), h 3 (omega arith), h 4 (omega arith), h 5 (omega arith))

-- a store to the quantity at place k
module _ (m : List ℕ) (n k v : ℕ) (hk : k < n) (hm : 6 * n ≤ length m) where
  keep : (i : ℕ) → (i ≡ 6 * k + 5 → ⊥) → get_or (set m (6 * k + 5) v) i 0 ≡ get_or m i 0
  keep i ne = get_or-set_other m (6 * k + 5) i v 0 ne

  at_place : order_at (set m (6 * k + 5) v) k ≡ leaving (order_at m k) v
  at_place =
      rw (
        keep (6 * k) (omega arith),
        keep (6 * k + 1) (omega arith),
        keep (6 * k + 2) (omega arith),
        keep (6 * k + 3) (omega arith),
        keep (6 * k + 4) (omega arith),
        get_or-set_same m (6 * k + 5) v 0 (omega arith),
      )

  pub left_at : orders_in (set m (6 * k + 5) v) n ≡ set (orders_in m n) k (leaving (order_at m k) v)
  unfolding orders_in
  left_at =
      table-set n (order_at m) (order_at (set m (6 * k + 5) v)) k (leaving (order_at m k) v) no_order hk at_place
      (λ j hj ne. order_same (set m (6 * k + 5) v) m j j (λ f hf. keep (6 * j + f) (omega arith)))

-- the stores of an order to place k
module _ (m : List ℕ) (n k : ℕ) (o : Order) (hk : k < n) (hm : 6 * n ≤ length m) where
  abbrev s0 : List ℕ
  s0 = set m (6 * k) o.number

  abbrev s1 : List ℕ
  s1 = set s0 (6 * k + 1) o.unit

  abbrev s2 : List ℕ
  s2 = set s1 (6 * k + 2) o.direction

  abbrev s3 : List ℕ
  s3 = set s2 (6 * k + 3) o.period

  abbrev s4 : List ℕ
  s4 = set s3 (6 * k + 4) o.price

  abbrev six : List ℕ
  six = set s4 (6 * k + 5) o.quantity

  stays : (i : ℕ) → (i ≡ 6 * k → ⊥) → (i ≡ 6 * k + 1 → ⊥) → (i ≡ 6 * k + 2 → ⊥) → (i ≡ 6 * k + 3 → ⊥) → (i ≡ 6 * k + 4 → ⊥) → (i ≡ 6 * k + 5 → ⊥)
      → get_or six i 0 ≡ get_or m i 0
  stays i h0 h1 h2 h3 h4 h5 =
      get_or-set_other s4 (6 * k + 5) i o.quantity 0 h5
      ∙ get_or-set_other s3 (6 * k + 4) i o.price 0 h4
      ∙ get_or-set_other s2 (6 * k + 3) i o.period 0 h3
      ∙ get_or-set_other s1 (6 * k + 2) i o.direction 0 h2
      ∙ get_or-set_other s0 (6 * k + 1) i o.unit 0 h1
      ∙ get_or-set_other m (6 * k) i o.number 0 h0

  at0 : get_or six (6 * k) 0 ≡ o.number
  at0 = get_or-set_other s4 (6 * k + 5) (6 * k) o.quantity 0 (omega arith)
      ∙ get_or-set_other s3 (6 * k + 4) (6 * k) o.price 0 (omega arith)
      ∙ get_or-set_other s2 (6 * k + 3) (6 * k) o.period 0 (omega arith)
      ∙ get_or-set_other s1 (6 * k + 2) (6 * k) o.direction 0 (omega arith)
      ∙ get_or-set_other s0 (6 * k + 1) (6 * k) o.unit 0 (omega arith)
      ∙ get_or-set_same m (6 * k) o.number 0 (omega arith)

  at1 : get_or six (6 * k + 1) 0 ≡ o.unit
  at1 = get_or-set_other s4 (6 * k + 5) (6 * k + 1) o.quantity 0 (omega arith)
      ∙ get_or-set_other s3 (6 * k + 4) (6 * k + 1) o.price 0 (omega arith)
      ∙ get_or-set_other s2 (6 * k + 3) (6 * k + 1) o.period 0 (omega arith)
      ∙ get_or-set_other s1 (6 * k + 2) (6 * k + 1) o.direction 0 (omega arith)
      ∙ get_or-set_same s0 (6 * k + 1) o.unit 0 (simp length-set (omega arith))

  at2 : get_or six (6 * k + 2) 0 ≡ o.direction
  at2 = get_or-set_other s4 (6 * k + 5) (6 * k + 2) o.quantity 0 (omega arith)
      ∙ get_or-set_other s3 (6 * k + 4) (6 * k + 2) o.price 0 (omega arith)
      ∙ get_or-set_other s2 (6 * k + 3) (6 * k + 2) o.period 0 (omega arith)
      ∙ get_or-set_same s1 (6 * k + 2) o.direction 0 (simp length-set (omega arith))

  at3 : get_or six (6 * k + 3) 0 ≡ o.period
  at3 = get_or-set_other s4 (6 * k + 5) (6 * k + 3) o.quantity 0 (omega arith)
      ∙ get_or-set_other s3 (6 * k + 4) (6 * k + 3) o.price 0 (omega arith)
      ∙ get_or-set_same s2 (6 * k + 3) o.period 0 (simp length-set (omega arith))

  at4 : get_or six (6 * k + 4) 0 ≡ o.price
  at4 = get_or-set_other s4 (6 * k + 5) (6 * k + 4) o.quantity 0 (omega arith)
      ∙ get_or-set_same s3 (6 * k + 4) o.price 0 (simp length-set (omega arith))

  at5 : get_or six (6 * k + 5) 0 ≡ o.quantity
  at5 = get_or-set_same s4 (6 * k + 5) o.quantity 0 (simp length-set (omega arith))

  placed : order_at six k ≡ o
  placed = rw (at0, at1, at2, at3, at4, at5)

  pub order_written : orders_in six n ≡ set (orders_in m n) k o
  unfolding orders_in
  order_written =
      table-set n (order_at m) (order_at six) k o no_order hk placed
      (λ j hj ne. order_same six m j j (λ f hf. stays (6 * j + f) (omega arith) (omega arith) (omega arith) (omega arith) (omega arith) (omega arith)))

  pub past_written : drop (6 * n) six ≡ drop (6 * n) m
  past_written =
      drop-set-lt (6 * n) s4 (6 * k + 5) o.quantity (omega arith)
      ∙ drop-set-lt (6 * n) s3 (6 * k + 4) o.price (omega arith)
      ∙ drop-set-lt (6 * n) s2 (6 * k + 3) o.period (omega arith)
      ∙ drop-set-lt (6 * n) s1 (6 * k + 2) o.direction (omega arith)
      ∙ drop-set-lt (6 * n) s0 (6 * k + 1) o.unit (omega arith)
      ∙ drop-set-lt (6 * n) m (6 * k) o.number (omega arith)

-- the first of the orders
pub orders_take : (m : List ℕ) (n c : ℕ) → c ≤ n → orders_in m c ≡ take c (orders_in m n)
orders_take m n c h =
    let ln = orders_length m n in
    orders_ext m c (take c (orders_in m n)) (length-take-le c (orders_in m n) (omega arith))
    (λ k hk. sym (get_or-take c (orders_in m n) k no_order hk ∙ orders_at_lem m n k (omega arith)))

-- the orders behind place k moved up
module _ (m x : List ℕ) (n k : ℕ) (hk : k < n) (low : (i : ℕ) → i < 6 * k → get_or x i 0 ≡ get_or m i 0) (high : (i : ℕ) → 6 * k ≤ i → i < 6 * n - 6
    → get_or x i 0 ≡ get_or m (i + 6) 0) where
  pub moved : orders_in x (n - 1) ≡ (take k (orders_in m n) ++ drop (suc k) (orders_in m n))
  moved = orders_ext x (n - 1) ((take k (orders_in m n) ++ drop (suc k) (orders_in m n))) len at
    where
      ln : length (orders_in m n) ≡ n
      ln = orders_length m n

      lk : length (take k (orders_in m n)) ≡ k
      lk = length-take-le k (orders_in m n) (omega (arith, ln))

      len : length ((take k (orders_in m n) ++ drop (suc k) (orders_in m n))) ≡ n - 1
      len = simp (length-append, length-take, length-drop, ln) (omega arith)

      go : (j : ℕ) → j < n - 1 → Dec (j < k) → order_at x j ≡ get_or ((take k (orders_in m n) ++ drop (suc k) (orders_in m n))) j no_order
      go j hj (yes l) =
          let a : j < length (take k (orders_in m n)) = omega (arith, lk) in
          order_same x m j j (λ f hf. low (6 * j + f) (omega arith))
          ∙ sym (orders_at_lem m n j (omega arith)) ∙ sym (get_or-take k (orders_in m n) j no_order l)
          ∙ sym (get_or-append (take k (orders_in m n)) (drop (suc k) (orders_in m n)) no_order j a)
      go j hj (no l) =
          let d : j ≡ length (take k (orders_in m n)) + (j - k) = omega (arith, lk) in
          let s : suc k + (j - k) ≡ suc j = omega arith in
          order_same x m j (suc j) (λ f hf. high (6 * j + f) (omega arith) (omega arith) ∙ ap (λ (i : ℕ). get_or m i 0) (omega arith))
          ∙ sym (orders_at_lem m n (suc j) (omega arith))
          ∙ ap (λ (i : ℕ). get_or (orders_in m n) i no_order) (sym s)
          ∙ sym (get_or-drop (suc k) (orders_in m n) (j - k) no_order)
          ∙ sym (get_or-append-add (take k (orders_in m n)) (drop (suc k) (orders_in m n)) (j - k) no_order)
          ∙ ap (λ (i : ℕ). get_or ((take k (orders_in m n) ++ drop (suc k) (orders_in m n))) i no_order) (sym d)

      at : (j : ℕ) → j < n - 1 → order_at x j ≡ get_or ((take k (orders_in m n) ++ drop (suc k) (orders_in m n))) j no_order
      at j hj = go j hj (dec_lt j k)

-- what lies behind the orders stays
pub moved_past : (m x : List ℕ) (n : ℕ) → length x ≡ length m → ((i : ℕ) → 6 * n ≤ i → get_or x i 0 ≡ get_or m i 0) → drop (6 * n) x ≡ drop (6 * n) m
moved_past m x n e h =
    ext_get_or 0 (drop (6 * n) x) (drop (6 * n) m) (simp (length-drop, e) refl)
    (λ i l. get_or-drop (6 * n) x i 0 ∙ h (6 * n + i) (omega arith) ∙ sym (get_or-drop (6 * n) m i 0))
