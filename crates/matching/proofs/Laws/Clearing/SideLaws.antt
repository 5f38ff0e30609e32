-- Laws of one side after clearing: what fills are due, and what is left.
use Prim.Native.Nat.{ℕ, ◌+◌, ◌-◌, ◌<◌, ◌≤◌}
use mathlib.Core.Path.{◌≡◌, refl, sym, ap, ◌∙◌}
use mathlib.Core.Bool.{Bool, true, false, ◌&&◌}
use mathlib.Core.List.{List, ◌++◌, map}
use native.Mathlib.Omega.{arith}
use lib.Dec.{eqb}
use borrow.Author.Tests.{eqb-true}
use Rattle.measures.specs.Lists.{Each, Has, keep}
use Rattle.measures.specs.Sharing.{parts}
use Rattle.measures.proofs.ListLaws.{both_ways, and_true}
use Rattle.matching.specs.Orders.{Order, quantities, laid, leaving}
use Rattle.matching.specs.Clearing.{Fill, filled, fills_of, after_fills}
use Rattle.matching.proofs.Laws.Lists.EachLaws.{
  Pairs,
  each_map,
  each_both,
  each_append,
  each_keep,
  kept,
  keep-sum,
  keep_all,
  keep-keep,
  pairs_keep,
  pairs_append,
}
use Rattle.matching.proofs.Laws.Lists.SumLaws.{sum_of_has}
use Rattle.matching.proofs.Laws.Orders.LaidLaws.{laid_each, laid-keep-quantities}
use Rattle.matching.proofs.Laws.Orders.AheadLaws.{Strict}
use Rattle.matching.proofs.Laws.Clearing.MarginLaws.{Margin, better_than, at_price}
use Rattle.matching.proofs.Laws.Clearing.FillLaws.{
  amounts,
  Fits,
  filled_each,
  filled_pairs,
  side_fills,
  side-sum,
  side_fits,
  side_each,
  side_prices,
  side_better,
}
use Rattle.matching.proofs.Laws.Orders.LessenLaws.{Numbered, same_number, open_under}
use Rattle.matching.proofs.Laws.Orders.AfterLaws.{Due, after_open}

-- two orders of different numbers
abbrev pub Apart : Order → Order → Type 0
Apart a b = a.number ≡ b.number → ⊥

-- fills of two kinds of orders are apart
pub kinds_apart : (P Q : Order → Type 0) (os : List Order) → Numbered os → ((o : Order) → P o → Q o → ⊥) → (fs hs : List Fill)
    → Each (λ f. Has f.order os) fs → Each (λ f. P f.order) fs → Each (λ f. Has f.order os) hs → Each (λ f. Q f.order) hs
    → Each (λ f. Each (λ h. Apart f.order h.order) hs) fs
kinds_apart P Q os n never fs hs mf pf mh qh =
    each_both (λ f. Has f.order os) (λ f. P f.order) (λ f. Each (λ h. Apart f.order h.order) hs) fs
    (λ f m p.
    each_both (λ h. Has h.order os) (λ h. Q h.order) (λ h. Apart f.order h.order) hs
    (λ h k q e. let s : f.order ≡ h.order = same_number os f.order h.order n m k e in never h.order (rw s at p) q) mh qh)
    mf pf

pub both_due : (fs hs : List Fill) (os : List Order) → Due fs os → Due hs os → Each (λ f. Each (λ h. Apart f.order h.order) hs) fs → Due (fs ++ hs) os
both_due fs hs os d e a =
    record {
      stand = each_append (λ f. Has f.order os) fs hs d.stand e.stand;
      fit = each_append Fits fs hs d.fit e.fit;
      apart = pairs_append (λ f h. Apart f.order h.order) fs hs d.apart e.apart a;
    }

-- of the laid orders of a kind, what passes a test of prices
pub kind_quantities : (kind : Order → Bool) (ahead : Order → Order → Bool) (os : List Order) (h : ℕ → Bool)
    → quantities (keep (λ o. kind o && h o.price) os) ≡ quantities (keep (λ o. h o.price) (laid ahead (keep kind os)))
kind_quantities kind ahead os h =
    ap (λ (l : List Order). quantities l) (sym (keep-keep (λ o. h o.price) kind os))
    ∙ sym (laid-keep-quantities ahead (λ o. h o.price) (keep kind os))

-- one that passes a test has no more than all that pass
pub one_of : (t : Order → Bool) (os : List Order) (a : Order) → Has a os → t a ≡ true → a.quantity ≤ quantities (keep t os)
one_of t os a m e =
    let q : open_under t a ≡ a.quantity = rw e in
    let c = sum_of_has (open_under t) os a m in
    let k = keep-sum (λ x. x.quantity) t os in
    omega arith

module _ (better : ℕ → ℕ → Bool) (st : Strict better) (v m : ℕ) where
  -- the fills of laid orders that stand
  pub side_due : (l os : List Order) → Margin better v m l → Numbered os → Each (λ o. Has o os) l → Pairs Apart l → Due (side_fills better v m l) os
  unfolding fills_of
  side_due l os g n e p =
      let B = better_than better m l in
      let E = at_price m l in
      let ps = map (λ o. o.quantity) B in
      let qs = parts (v - quantities B) (map (λ o. o.quantity) E) in
      record {
        stand = side_each better v m l (λ o. Has o os) e;
        fit = side_fits better v m l g;
        apart =
            pairs_append (λ f h. Apart f.order h.order) (filled B ps) (filled E qs)
            (filled_pairs Apart B ps (pairs_keep Apart (λ o. better o.price m) l p))
            (filled_pairs Apart E qs (pairs_keep Apart (λ o. eqb o.price m) l p))
            (kinds_apart (λ o. better o.price m ≡ true) (λ o. eqb o.price m ≡ true) os n not_both (filled B ps) (filled E qs)
            (filled_each (λ o. Has o os) B ps (each_keep (λ o. Has o os) (λ o. better o.price m) l e))
            (filled_each (λ o. better o.price m ≡ true) B ps (kept (λ o. better o.price m) l))
            (filled_each (λ o. Has o os) E qs (each_keep (λ o. Has o os) (λ o. eqb o.price m) l e))
            (filled_each (λ o. eqb o.price m ≡ true) E qs (kept (λ o. eqb o.price m) l)));
      }
    where
      not_both : (o : Order) → better o.price m ≡ true → eqb o.price m ≡ true → ⊥
      not_both o h k =
          let s : o.price ≡ m = eqb-true _ _ k in
          let t : better m m ≡ true = rw s at h in
          both_ways (sym t ∙ st.same m)

  -- one side of all fills fs: its orders are those of a kind, laid
  module _ (kind : Order → Bool) (still : (o : Order) (q : ℕ) → kind (leaving o q) ≡ kind o) (ahead : Order → Order
      → Bool) (os : List Order) (fs : List Fill)
      (g : Margin better v m (laid ahead (keep kind os))) (n : Numbered os) (d : Due fs os)
      (more : (t : Order → Bool) → amounts (keep (λ f. t f.order) (side_fills better v m (laid ahead (keep kind os))))
      ≤ amounts (keep (λ f. t f.order) fs)) where
    abbrev side : List Order
    side = laid ahead (keep kind os)

    side_kind : Each (λ o. kind o ≡ true) side
    side_kind = laid_each ahead (λ o. kind o ≡ true) (keep kind os) (kept kind os)

    -- of the orders that pass a test of prices
    module _ (h : ℕ → Bool) where
      abbrev test : Order → Bool
      test o = kind o && h o.price

      still_test : (o : Order) (q : ℕ) → test (leaving o q) ≡ test o
      still_test o q = ap (λ (b : Bool). b && h o.price) (still o q)

      -- one that is left is part of what was there and is not filled
      left : (a : Order) → Has a (after_fills fs os) → kind a ≡ true → h a.price ≡ true
          → a.quantity + amounts (keep (λ f. test f.order) (side_fills better v m side)) ≤ quantities (keep (λ o. h o.price) side)
      left a s k p =
          let o = after_open test still_test fs os n d in
          let b = kind_quantities kind ahead os h in
          let w = more test in
          let c = one_of test (after_fills fs os) a s (and_true (kind a) (h a.price) k p) in
          omega arith

    -- none that is left is better than the margin
    pub left_behind : (a : Order) → Has a (after_fills fs os) → kind a ≡ true → 0 < a.quantity → better a.price m ≡ false
    left_behind a s k pos = go (better a.price m) refl
      where
        go : (b : Bool) → better a.price m ≡ b → b ≡ false
        go true e =
            let x = left (λ p. better p m) a s k e in
            let y = side_better better v m side (test (λ p. better p m)) (each_map (λ o. kind o ≡ true) (λ o. better o.price m ≡ true
            → test (λ p. better p m) o ≡ true) side (λ o c f. and_true (kind o) (better o.price m) c f) side_kind) in
            absurd (omega arith)
        go false e = refl

    -- with one that is left, the side has more than the volume
    pub left_over_lem : (h : ℕ → Bool) → ((p : ℕ) → better p m ≡ true → h p ≡ true) → h m ≡ true → (a : Order) → Has a (after_fills fs os) → kind a ≡ true → 0
        < a.quantity → h a.price ≡ true
        → v < quantities (keep (λ o. h o.price) side)
    left_over_lem h up at a s k pos p =
        let x = left h a s k p in
        let T : Fill → Bool = λ f. test h f.order in
        let all : keep T (side_fills better v m side) ≡ side_fills better v m side =
        keep_all T (side_fills better v m side)
        (each_both (λ f. kind f.order ≡ true) (λ f. h f.order.price ≡ true) (λ f. test h f.order
        ≡ true) (side_fills better v m side) (λ f c e. and_true (kind f.order) (h f.order.price) c e)
        (side_each better v m side (λ o. kind o ≡ true) side_kind)
        (side_prices better v m side (λ q. h q ≡ true) up (λ q e. ap h (eqb-true _ _ e) ∙ at))) in
        let y : amounts (keep T (side_fills better v m side)) ≡ amounts (side_fills better v m side) = ap amounts all in
        let z = side-sum better v m side g in
        omega arith
