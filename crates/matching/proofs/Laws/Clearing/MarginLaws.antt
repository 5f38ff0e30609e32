-- Laws of the margins: what is better than a margin is less than the volume, and with the margin it is enough.
use Prim.Native.Nat.{ℕ, ◌+◌, ◌-◌, ◌<◌, ◌≤◌}
use mathlib.Core.Path.{◌≡◌, refl, sym, ◌∙◌}
use mathlib.Core.Bool.{Bool, true, false, cond}
use mathlib.Core.List.{List, [], ◌∷◌, ◌++◌}
use native.Mathlib.Omega.{arith}
use native.Mathlib.Decide.{dec_lt}
use lib.Dec.{leb, eqb}
use borrow.Author.Tests.{leb-true, leb-false, lt-ltb, eq-eqb}
use Rattle.measures.specs.Lists.{Each, keep}
use Rattle.measures.proofs.ListLaws.{cond_case, both_ways}
use Rattle.matching.specs.Orders.{Order, quantities}
use Rattle.matching.specs.Clearing.{traded_at, largest, cleared_volume, marginal}
use Rattle.matching.proofs.Laws.Lists.EachLaws.{each_all}
use Rattle.matching.proofs.Laws.Orders.AheadLaws.{Strict, Ordered, dearer, cheaper, dearer_strict, cheaper_strict}
use Rattle.matching.proofs.Laws.Clearing.VolumeLaws.{
  demand,
  supply,
  traded,
  keep-more,
  keep_some,
  keep_none,
  largest_below,
  Reached,
  largest_reached,
}

-- what holds of each price holds of the margin's
pub marginal_of : (P : ℕ → Type 0) (os : List Order) (v : ℕ) → Each (λ o. P o.price) os → 0 < v → v ≤ quantities os → P (marginal v os)
unfolding marginal
marginal_of P [] v e pos le = absurd (omega arith)
marginal_of P (o ∷ os) v e pos le =
    cond_case P (leb v o.quantity) o.price (marginal (v - o.quantity) os) (λ _. e.0)
    (λ f. let l = leb-false v o.quantity f in marginal_of P os (v - o.quantity) e.1 (omega arith) (omega arith))

-- the orders better than a price, and those at it
abbrev pub better_than : (ℕ → ℕ → Bool) → ℕ → List Order → List Order
better_than better m os = keep (λ o. better o.price m) os

abbrev pub at_price : ℕ → List Order → List Order
at_price m os = keep (λ o. eqb o.price m) os

-- the V-th kWh lies in an order priced m
pub record Margin (better : ℕ → ℕ → Bool) (v m : ℕ) (os : List Order) : Type 0 where
  pub some : quantities (better_than better m os) < v
  pub enough : v ≤ quantities (better_than better m os) + quantities (at_price m os)

module _ (better : ℕ → ℕ → Bool) (st : Strict better) where
  -- an order in front whose price is no worse than the margin's
  margin_step : (o : Order) (B E : List Order) (v : ℕ) (s t : Bool) → o.quantity < v → (s ≡ false → t ≡ true) → quantities B < v - o.quantity
      → v - o.quantity ≤ quantities B + quantities E
      → (quantities (cond s (o ∷ B) B) < v) × (v ≤ quantities (cond s (o ∷ B) B) + quantities (cond t (o ∷ E) E))
  margin_step o B E v true true l h k n = (omega arith, omega arith)
  margin_step o B E v true false l h k n = (omega arith, omega arith)
  margin_step o B E v false true l h k n = (omega arith, omega arith)
  margin_step o B E v false false l h k n = both_ways (sym (h refl))

  pub margin : (os : List Order) (v : ℕ) → Ordered better os → 0 < v → v ≤ quantities os → Margin better v (marginal v os) os
  unfolding marginal
  margin [] v p pos le = absurd (omega arith)
  margin (o ∷ os) v p pos le =
      cond_case (λ (m : ℕ). Margin better v m (o ∷ os)) (leb v o.quantity) o.price (marginal (v - o.quantity) os)
      (λ f. here (leb-true _ _ f))
      (λ f.
      let l = leb-false v o.quantity f in
      behind (omega arith) (margin os (v - o.quantity) p.1 (omega arith) (omega arith))
      (marginal_of (λ m. better m o.price ≡ false) os (v - o.quantity) p.0 (omega arith) (omega arith)))
    where
      here : v ≤ o.quantity → Margin better v o.price (o ∷ os)
      here h =
          let n : quantities (better_than better o.price os) ≡ 0 = keep_none (λ x. better x.price o.price) os p.0 in
          let s = st.same o.price in
          let q = eq-eqb o.price o.price refl in
          record { some = rw s (omega arith); enough = rw (s, q) (omega arith) }

      behind : o.quantity < v → Margin better (v - o.quantity) (marginal (v - o.quantity) os) os → better (marginal (v - o.quantity) os) o.price
          ≡ false → Margin better v (marginal (v - o.quantity) os) (o ∷ os)
      behind l ih nb =
          let m = marginal (v - o.quantity) os in
          let r = margin_step o (better_than better m os) (at_price m os) v (better o.price m) (eqb o.price m) l (λ f. eq-eqb _ _ (st.total _ _ f nb))
          ih.some ih.enough in
          record { some = r.0; enough = r.1 }

-- neither side has less than the volume
pub volume-bids : (bl al : List Order) → cleared_volume bl al ≤ quantities bl
unfolding cleared_volume
volume-bids bl al =
    largest_below (λ o. traded_at bl al o.price) (bl ++ al) (quantities bl)
    (each_all (λ o. traded_at bl al o.price ≤ quantities bl) (bl
    ++ al) (λ o. omega (arith, traded bl al o.price, keep_some (λ x. leb o.price x.price) bl)))

pub volume-asks : (bl al : List Order) → cleared_volume bl al ≤ quantities al
unfolding cleared_volume
volume-asks bl al =
    largest_below (λ o. traded_at bl al o.price) (bl ++ al) (quantities al)
    (each_all (λ o. traded_at bl al o.price ≤ quantities al) (bl
    ++ al) (λ o. omega (arith, traded bl al o.price, keep_some (λ x. leb x.price o.price) al)))

-- some price trades the volume
pub volume-traded : (bl al : List Order) → 0 < cleared_volume bl al → Reached (λ o. traded_at bl al o.price) (bl ++ al)
unfolding cleared_volume
volume-traded bl al pos = largest_reached (λ o. traded_at bl al o.price) (bl ++ al) pos

volume-most : (bl al : List Order) → cleared_volume bl al ≡ largest (λ o. traded_at bl al o.price) (bl ++ al)
unfolding cleared_volume
volume-most bl al = refl

-- a price at which as much is demanded as lies below the margin is no higher than the margin; and so for supply
bid_margin-above : (bl : List Order) (v b p : ℕ) → Margin dearer v b bl → v ≤ demand bl p → p ≤ b
bid_margin-above bl v b p m h = go (dec_lt b p)
  where
    go : Dec (b < p) → p ≤ b
    go (yes l) =
        let k = m.some in
        let n : demand bl p ≤ quantities (better_than dearer b bl) =
        keep-more (λ o. leb p o.price) (λ o. dearer o.price b) bl
        (each_all (λ o. leb p o.price ≡ true → dearer o.price b ≡ true) bl (λ o e. lt-ltb b o.price (omega (arith, leb-true p o.price e)))) in
        absurd (omega arith)
    go (no l) = omega arith

ask_margin_below : (al : List Order) (v s p : ℕ) → Margin cheaper v s al → v ≤ supply al p → s ≤ p
ask_margin_below al v s p m h = go (dec_lt p s)
  where
    go : Dec (p < s) → s ≤ p
    go (yes l) =
        let k = m.some in
        let n : supply al p ≤ quantities (better_than cheaper s al) =
        keep-more (λ o. leb o.price p) (λ o. cheaper o.price s) al
        (each_all (λ o. leb o.price p ≡ true → cheaper o.price s ≡ true) al (λ o e. lt-ltb o.price s (omega (arith, leb-true o.price p e)))) in
        absurd (omega arith)
    go (no l) = omega arith

-- both margins of a clearing with some volume
pub record Margins (bl al : List Order) (v b s : ℕ) : Type 0 where
  pub volume : cleared_volume bl al ≡ v
  pub some : 0 < v
  pub bid : Margin dearer v b bl
  pub ask : Margin cheaper v s al
  pub meet : s ≤ b

pub margins : (bl al : List Order) → Ordered dearer bl → Ordered cheaper al → 0 < cleared_volume bl al
    → Margins bl al (cleared_volume bl al) (marginal (cleared_volume bl al) bl) (marginal (cleared_volume bl al) al)
margins bl al ob oa pos =
    let v = cleared_volume bl al in
    let r = volume-traded bl al pos in
    let e : v ≡ traded_at bl al r.order.price = volume-most bl al ∙ r.most in
    let t = traded bl al r.order.price in
    let mb = margin dearer dearer_strict bl v ob pos (volume-bids bl al) in
    let ma = margin cheaper cheaper_strict al v oa pos (volume-asks bl al) in
    let hb : v ≤ demand bl r.order.price = omega arith in
    let ha : v ≤ supply al r.order.price = omega arith in
    let kb = bid_margin-above bl v (marginal v bl) r.order.price mb hb in
    let ka = ask_margin_below al v (marginal v al) r.order.price ma ha in
    record { volume = refl; some = pos; bid = mb; ask = ma; meet = omega arith }
