-- Laws of lists that are mapped and kept.
use Prim.Native.Nat.{ℕ, ◌+◌}
use mathlib.Core.Path.{◌≡◌, refl, ap}
use mathlib.Core.Bool.{Bool, true, false, cond}
use mathlib.Core.List.{List, [], ◌∷◌, ◌++◌, map}
use Rattle.measures.specs.Lists.{Each, keep, sum_of}

pub map_join : {A B : Type 0} (f : A → B) (xs ys : List A) → map f (xs ++ ys) ≡ map f xs ++ map f ys
map_join f [] ys = refl
map_join f (x ∷ xs) ys = ap (λ l. f x ∷ l) (map_join f xs ys)

pub sum_of-map : {A B : Type 0} (f : B → ℕ) (g : A → B) (l : List A) → sum_of f (map g l) ≡ sum_of (λ x. f (g x)) l
sum_of-map f g [] = refl
sum_of-map f g (x ∷ l) = ap (λ (n : ℕ). f (g x) + n) (sum_of-map f g l)

pub each_unmap : {A B : Type 0} (P : B → Type 0) (f : A → B) (l : List A) → Each P (map f l) → Each (λ x. P (f x)) l
each_unmap P f [] h = tt
each_unmap P f (x ∷ l) h = (h.0, each_unmap P f l h.1)

pub keep-keep : {A : Type 0} (f g : A → Bool) (l : List A) → keep f (keep g l) ≡ keep g (keep f l)
keep-keep f g [] = refl
keep-keep f g (x ∷ l) = go (f x) (g x) refl refl (keep-keep f g l)
  where
    go : (y z : Bool) → f x ≡ y → g x ≡ z → keep f (keep g l) ≡ keep g (keep f l) → keep f (cond z (x ∷ keep g l) (keep g l))
        ≡ keep g (cond y (x ∷ keep f l) (keep f l))
    go true true e h ih = rw (e, h, ih)
    go true false e h ih = rw (h, ih)
    go false true e h ih = rw (e, ih)
    go false false e h ih = ih

pub keep-map : {A B : Type 0} (f : B → Bool) (g : A → B) (l : List A) → keep f (map g l) ≡ map g (keep (λ x. f (g x)) l)
keep-map f g [] = refl
keep-map f g (x ∷ l) = go (f (g x)) (keep-map f g l)
  where
    go : (y : Bool) → keep f (map g l) ≡ map g (keep (λ x. f (g x)) l) → cond y (g x ∷ keep f (map g l)) (keep f (map g l))
        ≡ map g (cond y (x ∷ keep (λ x. f (g x)) l) (keep (λ x. f (g x)) l))
    go true ih = ap (λ m. g x ∷ m) ih
    go false ih = ih
