-- What is left of an incoming order is its quantity less what crosses it, in whatever order that stands.
use Prim.Native.Nat.{ℕ, ◌+◌, ◌-◌, ◌<◌, ◌≤◌}
use mathlib.Core.Path.{◌≡◌, refl, sym, ap, ◌∙◌}
use mathlib.Core.Bool.{true, false, cond, ◌&&◌}
use mathlib.Core.List.{List}
use native.Mathlib.Omega.{arith}
use native.Mathlib.Decide.{dec_lt}
use lib.ListN.{drop, drop_of_length-le}
use lib.Dec.{ltb}
use borrow.Author.Tests.{lt-ltb, le-ltb}
use Rattle.measures.specs.Lists.{sum_of, keep}
use Rattle.measures.proofs.ListLaws.{sum_of-drop}
use Rattle.matching.specs.Orders.{Order, order_with}
use Rattle.matching.specs.Memory.{order_at, orders_in, no_order, all_there, place_in}
use Rattle.matching.specs.Rolling.{candidate, ahead_for, counterparts, meet}
use Rattle.matching.specs.Answers.{left_over}
use Rattle.matching.proofs.Laws.Lists.EachLaws.{keep-sum}
use Rattle.matching.proofs.Laws.Orders.LaidLaws.{laid-quantities}
use Rattle.matching.proofs.Laws.Orders.OrderLaws.{orders_length, orders_at_lem}
use Rattle.matching.proofs.Laws.Rolling.RollingLaws.{matches-total}

-- what of an order crosses an incoming one
abbrev pub crossing : Order → Order → ℕ
crossing i o = cond (candidate i o) o.quantity 0

pub left-crossing : (i : Order) (os : List Order) → (meet i os).left ≡ i.quantity - sum_of (crossing i) os
unfolding meet counterparts
left-crossing i os =
    let a = matches-total i.quantity (counterparts i os) in
    let b = laid-quantities (ahead_for i) (keep (candidate i) os) in
    let c = keep-sum (λ o. o.quantity) (candidate i) os in
    omega arith

-- the number of an incoming order does not count
pub left-numbered : (n k u d p price q : ℕ) (os : List Order) → (meet (order_with n u d p price q) os).left ≡ (meet (order_with k u d p price q) os).left
unfolding candidate
left-numbered n k u d p price q os = left-crossing (order_with n u d p price q) os ∙ sym (left-crossing (order_with k u d p price q) os)

-- the walk along the orders: what is left before place k, less what crosses from there on
pub record Leaving (m : List ℕ) (n : ℕ) (i : Order) (left k : ℕ) : Type 0 where
  pub at : k ≤ n
  pub rest : left - sum_of (crossing i) (drop k (orders_in m n)) ≡ (meet i (orders_in m n)).left

module _ (m : List ℕ) (n : ℕ) (i : Order) where
  pub leaving_starts : Leaving m n i i.quantity 0
  leaving_starts = record { at = omega arith; rest = sym (left-crossing i (orders_in m n)) }

  pub leaving-more : (left k t : ℕ) → k < n → t ≡ left - crossing i (order_at m k) → Leaving m n i left k → Leaving m n i t (k + 1)
  leaving-more left k t l e h =
      let a = sum_of-drop (crossing i) (orders_in m n) k no_order (omega (arith, orders_length m n)) in
      let b = ap (crossing i) (orders_at_lem m n k l) in
      record { at = omega arith; rest = omega (arith, h.rest) }

  pub leaving_ends : (left k : ℕ) → n ≤ k → Leaving m n i left k → left ≡ (meet i (orders_in m n)).left
  leaving_ends left k l h =
      let e : sum_of (crossing i) (drop k (orders_in m n)) ≡ 0 =
      ap (sum_of (crossing i)) (drop_of_length-le (orders_in m n) {i = k} (omega (arith, orders_length m n))) in
      omega (arith, h.rest)

  -- orders that stand in the memory, and those that do not
  pub left_there : all_there m n ≡ true → left_over m n i ≡ (meet i (orders_in m n)).left
  unfolding left_over place_in
  left_there e = go (dec_lt 0 n)
    where
      go : Dec (0 < n) → cond (all_there m n && ltb 0 n) (meet i (orders_in m n)).left i.quantity ≡ (meet i (orders_in m n)).left
      go (yes l) = rw (e, lt-ltb 0 n l) refl
      go (no l) = rw (e, le-ltb 0 n (omega arith)) (leaving_ends i.quantity 0 (omega arith) leaving_starts)

  pub left_absent : all_there m n ≡ false → left_over m n i ≡ i.quantity
  unfolding left_over place_in
  left_absent e = rw e refl
