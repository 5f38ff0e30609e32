-- Laws of counterparts: a scan from the last order to the first finds the one that is laid first.
use Prim.Native.Nat.{ℕ, zero, suc, ◌<◌}
use mathlib.Core.Path.{◌≡◌, refl, sym, ap, ◌∙◌}
use mathlib.Core.Bool.{Bool, true, false, cond}
use mathlib.Core.List.{List, [], ◌∷◌}
use native.Mathlib.Omega.{arith}
use borrow.Author.Tests.{eq-eqb, ne_eqb}
use lib.ListN.{length, get_or}
use lib.Dec.{eqb}
use Rattle.matching.specs.Orders.{Order, insert, laid}
use Rattle.matching.specs.Memory.{no_order}
use Rattle.matching.specs.Rolling.{candidate, ahead_for, counterparts}

-- the place of the best counterpart, or the length where there is none
unfoldable pub best : Order → List Order → ℕ
best i [] = 0
best i (o ∷ os) =
    let b = best i os in
    cond (candidate i o) (cond (eqb b (length os)) 0 (cond (ahead_for i o (get_or os b no_order)) 0 (suc b))) (suc b)

-- the orders without the one at a place
unfoldable pub without : ℕ → List Order → List Order
without b [] = []
without zero (o ∷ os) = os
without (suc b) (o ∷ os) = o ∷ without b os

-- one order more in front
counterparts_past : (i o : Order) (os : List Order) → candidate i o ≡ false → counterparts i (o ∷ os) ≡ counterparts i os
unfolding counterparts
counterparts_past i o os e = rw e

counterparts_with : (i o : Order) (os : List Order) → candidate i o ≡ true → counterparts i (o ∷ os) ≡ insert (ahead_for i) o (counterparts i os)
unfolding counterparts laid
counterparts_with i o os e = rw e

insert_none : (ahead : Order → Order → Bool) (o : Order) → insert ahead o [] ≡ o ∷ []
unfolding insert
insert_none ahead o = refl

insert-ahead : (ahead : Order → Order → Bool) (o p : Order) (ps : List Order) → ahead o p ≡ true → insert ahead o (p ∷ ps) ≡ o ∷ p ∷ ps
unfolding insert
insert-ahead ahead o p ps e = rw e

insert_behind : (ahead : Order → Order → Bool) (o p : Order) (ps : List Order) → ahead o p ≡ false → insert ahead o (p ∷ ps) ≡ p ∷ insert ahead o ps
unfolding insert
insert_behind ahead o p ps e = rw e

-- b is the place of the counterpart that is laid first, or the length where there is none
pub data Picked (i : Order) (os : List Order) (b : ℕ) : Type 0 where
  none : b ≡ length os → counterparts i os ≡ [] → Picked i os b
  some : b < length os → counterparts i os ≡ get_or os b no_order ∷ counterparts i (without b os) → Picked i os b

-- the cases of one order more
picked_past : (i o : Order) (os : List Order) (b : ℕ) → candidate i o ≡ false → Picked i os b → Picked i (o ∷ os) (suc b)
unfolding without
picked_past i o os b e (none l h) = none (ap suc l) (counterparts_past i o os e ∙ h)
picked_past i o os b e (some l h) =
    some (omega arith)
    (counterparts_past i o os e ∙ h ∙ ap (λ (cs : List Order). get_or os b no_order ∷ cs) (sym (counterparts_past i o (without b os) e)))

picked_first : (i o : Order) (os : List Order) → candidate i o ≡ true → counterparts i os ≡ [] → Picked i (o ∷ os) 0
unfolding without
picked_first i o os e h =
    some (omega arith)
    (counterparts_with i o os e ∙ ap (insert (ahead_for i) o) h ∙ insert_none (ahead_for i) o ∙ ap (λ (cs : List Order). o ∷ cs) (sym h))

module _ (i o : Order) (os : List Order) (b : ℕ) (e : candidate i o ≡ true) (l : b < length os) (h : counterparts i os ≡ get_or os b no_order
    ∷ counterparts i (without b os)) where
  picked-ahead : ahead_for i o (get_or os b no_order) ≡ true → Picked i (o ∷ os) 0
  unfolding without
  picked-ahead a =
      some (omega arith)
      (counterparts_with i o os e
      ∙ ap (insert (ahead_for i) o) h
      ∙ insert-ahead (ahead_for i) o (get_or os b no_order) (counterparts i (without b os)) a
      ∙ ap (λ (cs : List Order). o ∷ cs) (sym h))

  picked_behind : ahead_for i o (get_or os b no_order) ≡ false → Picked i (o ∷ os) (suc b)
  unfolding without
  picked_behind a =
      some (omega arith)
      (counterparts_with i o os e
      ∙ ap (insert (ahead_for i) o) h
      ∙ insert_behind (ahead_for i) o (get_or os b no_order) (counterparts i (without b os)) a
      ∙ ap (λ (cs : List Order). get_or os b no_order ∷ cs) (sym (counterparts_with i o (without b os) e)))

picked_more : (i o : Order) (os : List Order) (b : ℕ) → Picked i os b
    → Picked i (o ∷ os) (cond (candidate i o) (cond (eqb b (length os)) 0 (cond (ahead_for i o (get_or os b no_order)) 0 (suc b))) (suc b))
picked_more i o os b p = go (candidate i o) refl p
  where
    found : candidate i o ≡ true → b < length os → counterparts i os ≡ get_or os b no_order ∷ counterparts i (without b os)
        → (a : Bool) → ahead_for i o (get_or os b no_order) ≡ a → Picked i (o ∷ os) (cond a 0 (suc b))
    found e l h true f = picked-ahead i o os b e l h f
    found e l h false f = picked_behind i o os b e l h f

    go : (c : Bool) → candidate i o ≡ c → Picked i os b → Picked i (o
        ∷ os) (cond c (cond (eqb b (length os)) 0 (cond (ahead_for i o (get_or os b no_order)) 0 (suc b))) (suc b))
    go false e q = picked_past i o os b e q
    go true e (none l h) = rw (eq-eqb b (length os) l) (picked_first i o os e h)
    go true e (some l h) =
        rw (ne_eqb b (length os) (omega arith)) (found e l h (ahead_for i o (get_or os b no_order)) refl)

pub picked : (i : Order) (os : List Order) → Picked i os (best i os)
unfolding best counterparts laid
picked i [] = none refl refl
picked i (o ∷ os) = picked_more i o os (best i os) (picked i os)

-- what is found
pub found_laid-first : (i : Order) (os : List Order) → best i os < length os → counterparts i os ≡ get_or os (best i os) no_order
    ∷ counterparts i (without (best i os) os)
found_laid-first i os l = go (picked i os)
  where
    go : Picked i os (best i os) → counterparts i os ≡ get_or os (best i os) no_order ∷ counterparts i (without (best i os) os)
    go (none e h) = absurd (omega arith)
    go (some u h) = h
