-- Laws of one side's fills: they sum to the volume, and none exceeds its order.
use Prim.Native.Nat.{ℕ, ◌+◌, ◌-◌, ◌≤◌}
use mathlib.Core.Path.{◌≡◌, refl, ap, ◌∙◌}
use mathlib.Core.Bool.{Bool, true}
use mathlib.Core.List.{List, [], ◌∷◌, ◌++◌, map}
use native.Mathlib.Omega.{arith}
use lib.Dec.{eqb}
use lib.ListN.{length, length-map}
use Rattle.measures.specs.Lists.{Each, sum_of, keep}
use Rattle.measures.specs.Sharing.{total, parts}
use Rattle.measures.proofs.ListLaws.{sum_of_append, keep_append}
use Rattle.measures.proofs.SharingLaws.{Within, parts-length, parts-sum, no-part_exceeds}
use Rattle.matching.specs.Orders.{Order, quantities}
use Rattle.matching.specs.Clearing.{Fill, filled, fills_of}
use Rattle.matching.proofs.Laws.Lists.EachLaws.{Pairs, each_append, each_keep, each_map, each_both, kept, keep_all}
use Rattle.matching.proofs.Laws.Clearing.MarginLaws.{Margin, better_than, at_price}

abbrev pub amounts : List Fill → ℕ
amounts fs = sum_of (λ f. f.amount) fs

pub total-quantities : (os : List Order) → total (map (λ o. o.quantity) os) ≡ quantities os
total-quantities [] = refl
total-quantities (o ∷ os) = ap (λ (n : ℕ). o.quantity + n) (total-quantities os)

pub filled-sum : (os : List Order) (ps : List ℕ) → length ps ≡ length os → amounts (filled os ps) ≡ total ps
unfolding filled
filled-sum [] [] e = refl
filled-sum [] (p ∷ ps) e = absurd (omega arith)
filled-sum (o ∷ os) [] e = absurd (omega arith)
filled-sum (o ∷ os) (p ∷ ps) e = ap (λ (n : ℕ). p + n) (filled-sum os ps (omega arith))

-- what holds of each order holds of each filled order
pub filled_each : (P : Order → Type 0) (os : List Order) (ps : List ℕ) → Each P os → Each (λ f. P f.order) (filled os ps)
unfolding filled
filled_each P [] ps e = tt
filled_each P (o ∷ os) [] e = tt
filled_each P (o ∷ os) (p ∷ ps) e = (e.0, filled_each P os ps e.1)

pub filled_pairs : (R : Order → Order → Type 0) (os : List Order) (ps : List ℕ) → Pairs R os → Pairs (λ f g. R f.order g.order) (filled os ps)
unfolding filled
filled_pairs R [] ps e = tt
filled_pairs R (o ∷ os) [] e = tt
filled_pairs R (o ∷ os) (p ∷ ps) e = (filled_each (R o) os ps e.0, filled_pairs R os ps e.1)

-- a fill is within its order
abbrev pub Fits : Fill → Type 0
Fits f = f.amount ≤ f.order.quantity

filled_within : (os : List Order) (ps : List ℕ) → Within ps (map (λ o. o.quantity) os) → Each Fits (filled os ps)
unfolding filled
filled_within [] ps w = tt
filled_within (o ∷ os) [] w = absurd w
filled_within (o ∷ os) (p ∷ ps) w = (w.0, filled_within os ps w.1)

-- better orders fill whole
pub filled_whole : (os : List Order) → Each (λ f. f.amount ≡ f.order.quantity) (filled os (map (λ o. o.quantity) os))
unfolding filled
filled_whole [] = tt
filled_whole (o ∷ os) = (refl, filled_whole os)

-- one side's fills at a margin m: `bid_fills` and `ask_fills` are both of this form
abbrev pub side_fills : (ℕ → ℕ → Bool) → ℕ → ℕ → List Order → List Fill
side_fills better v m os = fills_of v (better_than better m os) (at_price m os)

module _ (better : ℕ → ℕ → Bool) (v m : ℕ) (os : List Order) where
  abbrev quantities_of : List Order → List ℕ
  quantities_of l = map (λ o. o.quantity) l

  abbrev best : List Fill
  best = filled (better_than better m os) (quantities_of (better_than better m os))

  abbrev rest : List Fill
  rest = filled (at_price m os) (parts (v - quantities (better_than better m os)) (quantities_of (at_price m os)))

  pub side-sum : Margin better v m os → amounts (side_fills better v m os) ≡ v
  unfolding fills_of
  side-sum g =
      let B = better_than better m os in
      let E = at_price m os in
      let d = v - quantities B in
      let some = g.some in
      let enough = g.enough in
      let t_e = total-quantities E in
      let a : amounts best ≡ quantities B = filled-sum B (quantities_of B) (length-map B (λ o. o.quantity)) ∙ total-quantities B in
      let b : amounts rest ≡ d = filled-sum E (parts d (quantities_of E)) (parts-length d (quantities_of E) ∙ length-map E (λ o. o.quantity))
      ∙ parts-sum d (quantities_of E) (omega arith) in
      let c : amounts (best ++ rest) ≡ amounts best + amounts rest = sum_of_append (λ f. f.amount) best rest in
      omega arith

  pub side_fits : Margin better v m os → Each Fits (side_fills better v m os)
  unfolding fills_of
  side_fits g =
      let B = better_than better m os in
      let E = at_price m os in
      let d = v - quantities B in
      let some = g.some in
      let enough = g.enough in
      let t_e = total-quantities E in
      each_append Fits best rest
      (each_map (λ f. f.amount ≡ f.order.quantity) Fits best (λ f e. omega arith) (filled_whole B))
      (filled_within E (parts d (quantities_of E)) (no-part_exceeds d (quantities_of E) (omega arith) (omega arith)))

  -- what holds of each order holds of each filled one, and what tells orders apart tells filled ones apart
  pub side_each : (P : Order → Type 0) → Each P os → Each (λ f. P f.order) (side_fills better v m os)
  unfolding fills_of
  side_each P e =
      each_append (λ f. P f.order) best rest
      (filled_each P (better_than better m os) _ (each_keep P (λ o. better o.price m) os e))
      (filled_each P (at_price m os) _ (each_keep P (λ o. eqb o.price m) os e))

  -- a filled order is priced better than the margin, or at it
  pub side_prices : (P : ℕ → Type 0) → ((p : ℕ) → better p m ≡ true → P p) → ((p : ℕ) → eqb p m ≡ true → P p)
      → Each (λ f. P f.order.price) (side_fills better v m os)
  unfolding fills_of
  side_prices P h k =
      each_append (λ f. P f.order.price) best rest
      (filled_each (λ o. P o.price) (better_than better m os) _
      (each_map (λ o. better o.price m ≡ true) (λ o. P o.price) (better_than better m os) (λ o e. h o.price e)
      (kept (λ o. better o.price m) os)))
      (filled_each (λ o. P o.price) (at_price m os) _
      (each_map (λ o. eqb o.price m ≡ true) (λ o. P o.price) (at_price m os) (λ o e. k o.price e) (kept (λ o. eqb o.price m) os)))

  -- a test of orders that each better one passes finds no less than they have
  pub side_better : (g : Order → Bool) → Each (λ o. better o.price m ≡ true → g o ≡ true) os → quantities (better_than better m os)
      ≤ amounts (keep (λ f. g f.order) (side_fills better v m os))
  unfolding fills_of
  side_better g e =
      let B = better_than better m os in
      let G : Fill → Bool = λ f. g f.order in
      let all : keep G best ≡ best =
      keep_all G best (filled_each (λ o. g o ≡ true) B (quantities_of B)
      (each_both (λ o. better o.price m ≡ true) (λ o. better o.price m ≡ true → g o ≡ true) (λ o. g o ≡ true) B (λ o k h. h k)
      (kept (λ o. better o.price m) os) (each_keep (λ o. better o.price m ≡ true → g o ≡ true) (λ o. better o.price m) os e))) in
      let a : amounts best ≡ quantities B = filled-sum B (quantities_of B) (length-map B (λ o. o.quantity)) ∙ total-quantities B in
      let c : amounts (keep G (best ++ rest)) ≡ amounts (keep G best ++ keep G rest) = ap amounts (keep_append G best rest) in
      let d : amounts (keep G best ++ keep G rest) ≡ amounts (keep G best) + amounts (keep G rest) = sum_of_append (λ f. f.amount) (keep G best)
      (keep G rest) in
      let k : amounts (keep G best) ≡ amounts best = ap amounts all in
      omega arith
