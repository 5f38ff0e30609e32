-- Parts of open amounts, and what the rows of enrolled units come to over all units.
use Prim.Native.Nat.{ℕ, suc, ◌+◌, ◌-◌, ◌≤◌}
use mathlib.Core.Path.{◌≡◌, refl, sym}
use mathlib.Core.Bool.{Bool, true, false, cond, ◌&&◌}
use mathlib.Core.List.{List, [], ◌∷◌}
use native.Mathlib.Omega.{arith}
use borrow.Author.Tests.{eqb-true, eq-eqb, ne_eqb, not-false}
use lib.ListN.{get_or}
use lib.Dec.{eqb}
use Rattle.measures.specs.Lists.{Each, keep, sum_of, sum}
use Rattle.measures.specs.Sharing.{total}
use Rattle.measures.proofs.RangeLaws.{In}
use Rattle.measures.proofs.ListLaws.{sum-zero, cond_case, sum_add, sum_change, amount_le}
use Rattle.matching.specs.Orders.{Order as OpenOrder, Row}
use Rattle.matching.specs.Memory.{no_order}
use Rattle.demands.specs.Tally.{Amounts, no_amounts}
use Rattle.demands.specs.Demand3.{part_of_offers, part_of_orders}
use Rattle.demands.proofs.Laws.Tally.AgreeLaws.{remains}

-- a part of each offer's amount, over all offers, against those of which something is left
module _ (u p : ℕ) where
  abbrev pub left : Amounts → ℕ
  left a = cond (eqb a.unit u) (get_or a.amounts p 0) 0

  part_left : (a : Amounts) (x : ℕ) → x ≤ get_or a.amounts p 0 → cond (eqb a.unit u) x 0 ≤ left a
  part_left a x h = go (eqb a.unit u)
    where
      go : (c : Bool) → cond c x 0 ≤ cond c (get_or a.amounts p 0) 0
      go true = h
      go false = omega arith

  part_gone : (a : Amounts) (x : ℕ) → x ≤ get_or a.amounts p 0 → remains a ≡ false → cond (eqb a.unit u) x 0 ≡ 0
  part_gone a x h e = go (eqb a.unit u)
    where
      none : total a.amounts ≡ 0
      none = eqb-true (total a.amounts) 0 (not-false (eqb (total a.amounts) 0) e)

      go : (c : Bool) → cond c x 0 ≡ 0
      go true = omega (arith, amount_le a.amounts p, none)
      go false = refl

  pub offers_part : (f : ℕ → ℕ → ℕ) (os : List Amounts) → ((j q : ℕ) → f j q ≤ get_or (get_or os j no_amounts).amounts q 0) → part_of_offers f u p os
      ≤ sum_of left (keep remains os)
  unfolding part_of_offers
  offers_part f [] h = omega arith
  offers_part f (a ∷ os) h =
      let ih = offers_part (λ j. f (suc j)) os (λ j. h (suc j)) in
      let l = part_left a (f 0 p) (h 0 p) in
      cond_case (λ (l : List Amounts). cond (eqb a.unit u) (f 0 p) 0 + part_of_offers (λ j. f (suc j)) u p os ≤ sum_of left l) (remains a) _ _
      (λ e. omega arith)
      (λ e. omega (arith, part_gone a (f 0 p) (h 0 p) e))

  -- and of each order's in a period
  module _ (side : ℕ → Bool) where
    pub orders_part_lem : (g : ℕ → ℕ) (os : List OpenOrder) → ((i : ℕ) → g i ≤ (get_or os i no_order).quantity)
        → part_of_orders g side u p os
        ≤ sum_of (λ (o : OpenOrder). cond (eqb o.unit u && eqb o.period p && side o.direction) o.quantity 0) os
    unfolding part_of_orders
    orders_part_lem g [] h = omega arith
    orders_part_lem g (o ∷ os) h =
        let ih = orders_part_lem (λ i. g (suc i)) os (λ i. h (suc i)) in
        let l = go (eqb o.unit u && eqb o.period p && side o.direction) in
        omega arith
      where
        go : (c : Bool) → cond c (g 0) 0 ≤ cond c o.quantity 0
        go true = h 0
        go false = omega arith

-- each row has one enrolled party on a side
module _ (party : Row → ℕ) (p n : ℕ) where
  abbrev pub counted_for : ℕ → Row → ℕ
  counted_for u r = cond (eqb (party r) u && eqb r.period p) r.quantity 0

  one_party : (r : Row) → In 1 n (party r) → sum n (λ k. counted_for (k + 1) r) ≡ cond (eqb r.period p) r.quantity 0
  one_party r h =
      let k = party r - 1 in
      let q : k + 1 ≡ party r = omega arith in
      let z : sum n (λ k. 0) ≡ 0 = sum-zero n (λ k. 0) (λ k l. refl) in
      let e : counted_for (k + 1) r ≡ cond (eqb r.period p) r.quantity 0 = rw (eq-eqb (party r) (k + 1) (sym q)) in
      let c : sum n (λ k. counted_for (k + 1) r) + 0 ≡ sum n (λ k. 0) + counted_for (k + 1) r = sum_change n (λ k. counted_for (k + 1) r) (λ k. 0) k
      (omega arith) (λ j l ne. none j (omega arith)) in
      omega arith
    where
      none : (j : ℕ) → (party r ≡ j + 1 → ⊥) → counted_for (j + 1) r ≡ 0
      none j ne = rw (ne_eqb (party r) (j + 1) ne)

  pub parties_sum : (rs : List Row) → Each (λ r. In 1 n (party r)) rs → sum n (λ k. sum_of (counted_for (k + 1)) rs)
      ≡ sum_of (λ (r : Row). cond (eqb r.period p) r.quantity 0) rs
  parties_sum [] h = sum-zero n (λ k. 0) (λ k l. refl)
  parties_sum (r ∷ rs) h =
      let a = sum_add n (λ k. counted_for (k + 1) r) (λ k. sum_of (counted_for (k + 1)) rs) in
      let o = one_party r h.0 in
      let ih = parties_sum rs h.1 in
      omega arith
