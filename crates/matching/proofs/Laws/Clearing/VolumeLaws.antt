-- Laws of the cleared volume: no price trades more.
use Prim.Native.Nat.{ℕ, ◌+◌, ◌<◌, ◌≤◌, min}
use mathlib.Core.Path.{◌≡◌, refl, sym}
use mathlib.Core.Logic.{◌⊎◌, inl, inr}
use mathlib.Core.Bool.{Bool, true, false, cond}
use mathlib.Core.List.{List, [], ◌∷◌, ◌++◌}
use native.Mathlib.Omega.{arith}
use native.Mathlib.Decide.{dec_lt}
use lib.Dec.{leb}
use borrow.Author.Tests.{le-leb, lt-leb, leb-true}
use Rattle.measures.specs.Lists.{Each, Has, keep}
use Rattle.measures.proofs.ListLaws.{both_ways}
use Rattle.matching.specs.Orders.{Order, quantities}
use Rattle.matching.specs.Clearing.{traded_at, largest, cleared_volume}
use Rattle.matching.proofs.Laws.Lists.EachLaws.{each_map, each_all, append_has}

-- bids at p or above, and asks at p or below
abbrev pub demand : List Order → ℕ → ℕ
demand bl p = quantities (keep (λ o. leb p o.price) bl)

abbrev pub supply : List Order → ℕ → ℕ
supply al p = quantities (keep (λ o. leb o.price p) al)

pub traded : (bl al : List Order) (p : ℕ) → traded_at bl al p ≡ min (demand bl p) (supply al p)
unfolding traded_at
traded bl al p = refl

-- what one test keeps, a weaker one keeps too
pub keep-more : (f g : Order → Bool) (os : List Order) → Each (λ o. f o ≡ true → g o ≡ true) os → quantities (keep f os) ≤ quantities (keep g os)
keep-more f g [] e = omega arith
keep-more f g (o ∷ os) e = go (f o) (g o) e.0 (keep-more f g os e.1)
  where
    go : (s t : Bool) → (s ≡ true → t ≡ true) → quantities (keep f os) ≤ quantities (keep g os) → quantities (cond s (o ∷ keep f os) (keep f os))
        ≤ quantities (cond t (o ∷ keep g os) (keep g os))
    go true true h ih = omega arith
    go true false h ih = both_ways (sym (h refl))
    go false true h ih = omega arith
    go false false h ih = ih

pub keep_some : (f : Order → Bool) (os : List Order) → quantities (keep f os) ≤ quantities os
keep_some f [] = omega arith
keep_some f (o ∷ os) = go (f o) (keep_some f os)
  where
    go : (s : Bool) → quantities (keep f os) ≤ quantities os → quantities (cond s (o ∷ keep f os) (keep f os)) ≤ o.quantity + quantities os
    go true ih = omega arith
    go false ih = omega arith

pub keep_none : (f : Order → Bool) (os : List Order) → Each (λ o. f o ≡ false) os → quantities (keep f os) ≡ 0
keep_none f [] e = refl
keep_none f (o ∷ os) e = rw e.0 (keep_none f os e.1)

-- the largest of f: no order has more, and one has as much
pub largest_at : (f : Order → ℕ) (os : List Order) (o : Order) → Has o os → f o ≤ largest f os
unfolding largest
largest_at f [] o m = absurd m
largest_at f (x ∷ xs) o (inl q) = rw q (omega arith)
largest_at f (x ∷ xs) o (inr m) = let h = largest_at f xs o m in omega arith

pub largest_below : (f : Order → ℕ) (os : List Order) (v : ℕ) → Each (λ o. f o ≤ v) os → largest f os ≤ v
unfolding largest
largest_below f [] v e = omega arith
largest_below f (x ∷ xs) v e = let h = largest_below f xs v e.1 in let k = e.0 in omega arith

pub record Reached (f : Order → ℕ) (os : List Order) : Type 0 where
  pub order : Order
  pub stands : Has order os
  pub most : largest f os ≡ f order

pub largest_reached : (f : Order → ℕ) (os : List Order) → 0 < largest f os → Reached f os
unfolding largest
largest_reached f [] h = absurd (omega arith)
largest_reached f (x ∷ xs) h = go (λ k. largest_reached f xs k) (dec_lt (f x) (largest f xs))
  where
    go : (0 < largest f xs → Reached f xs) → Dec (f x < largest f xs) → Reached f (x ∷ xs)
    go ih (yes l) =
        let r = ih (omega arith) in
        let e = r.most in
        record { order = r.order; stands = inr r.stands; most = omega arith }
    go ih (no l) = record { order = x; stands = inl refl; most = omega arith }

-- the lowest bid at p or above
record Next (p : ℕ) (bl : List Order) : Type 0 where
  order : Order
  stands : Has order bl
  above : p ≤ order.price
  least : Each (λ o. p ≤ o.price → order.price ≤ o.price) bl

next : (p : ℕ) (bl : List Order) → Next p bl ⊎ Each (λ o. o.price < p) bl
next p [] = inr tt
next p (x ∷ xs) = go (next p xs) (dec_lt x.price p)
  where
    lower : (n : Next p xs) → p ≤ x.price → Dec (x.price < n.order.price) → Next p (x ∷ xs)
    lower n h (yes l) =
        record {
          order = x;
          stands = inl refl;
          above = h;
          least = (
            λ _. omega arith,
            each_map (λ o. p ≤ o.price → n.order.price ≤ o.price) (λ o. p
                ≤ o.price → x.price ≤ o.price) xs (λ o k g. let w = k g in omega arith) n.least,
          );
        }
    lower n h (no l) = record { order = n.order; stands = inr n.stands; above = n.above; least = (λ _. omega arith, n.least) }

    go : Next p xs ⊎ Each (λ o. o.price < p) xs → Dec (x.price < p) → Next p (x ∷ xs) ⊎ Each (λ o. o.price < p) (x ∷ xs)
    go (inl n) (yes l) = inl (record { order = n.order; stands = inr n.stands; above = n.above; least = (λ h. absurd (omega arith), n.least) })
    go (inl n) (no l) = inl (lower n (omega arith) (dec_lt x.price n.order.price))
    go (inr e) (yes l) = inr (l, e)
    go (inr e) (no l) =
        inl (record {
          order = x;
          stands = inl refl;
          above = omega arith;
          least = (
            λ _. omega arith,
            each_map (λ o. o.price < p) (λ o. p ≤ o.price
                → x.price ≤ o.price) xs (λ o k g. absurd (omega arith)) e,
          );
        })

-- "Volume V is the largest, over all prices p": prices that no order has included
pub no-price_trades_more : (bl al : List Order) (p : ℕ) → traded_at bl al p ≤ cleared_volume bl al
unfolding cleared_volume
no-price_trades_more bl al p = go (next p bl)
  where
    go : Next p bl ⊎ Each (λ o. o.price < p) bl → traded_at bl al p ≤ largest (λ o. traded_at bl al o.price) (bl ++ al)
    go (inl n) =
        let q = n.order.price in
        let a = n.above in
        let d : demand bl p ≤ demand bl q =
        keep-more (λ o. leb p o.price) (λ o. leb q o.price) bl
        (each_map (λ o. p ≤ o.price → q ≤ o.price) (λ o. leb p o.price ≡ true → leb q o.price
        ≡ true) bl (λ o k e. le-leb _ _ (k (leb-true _ _ e))) n.least) in
        let s : supply al p ≤ supply al q =
        keep-more (λ o. leb o.price p) (λ o. leb o.price q) al
        (each_all (λ o. leb o.price p ≡ true → leb o.price q ≡ true) al (λ o e. le-leb o.price q (omega (arith, leb-true o.price p e)))) in
        let m = largest_at (λ o. traded_at bl al o.price) (bl ++ al) n.order (append_has bl al n.order n.stands) in
        omega (arith, traded bl al p, traded bl al q)
    go (inr e) =
        let d : demand bl p ≡ 0 = keep_none (λ o. leb p o.price) bl (each_map (λ o. o.price < p) (λ o. leb p o.price
        ≡ false) bl (λ o h. lt-leb _ _ h) e) in
        omega (arith, traded bl al p)
