-- Laws of sums over lists.
use Prim.Native.Nat.{ℕ, ◌+◌, ◌≤◌}
use mathlib.Core.Path.{◌≡◌, refl, ap₂}
use mathlib.Core.Bool.{Bool, true, false, cond}
use mathlib.Core.List.{List, [], ◌∷◌}
use native.Mathlib.Omega.{arith}
use Rattle.measures.specs.Lists.{Each, Has, sum_of}
use mathlib.Core.Logic.{inl, inr}

module _ {A : Type 0} where
  pub sum_of_ext : (f g : A → ℕ) (l : List A) → Each (λ x. f x ≡ g x) l → sum_of f l ≡ sum_of g l
  sum_of_ext f g [] h = refl
  sum_of_ext f g (x ∷ xs) h = ap₂ (λ (a b : ℕ). a + b) h.0 (sum_of_ext f g xs h.1)

  pub sum_of_le : (f g : A → ℕ) (l : List A) → Each (λ x. f x ≤ g x) l → sum_of f l ≤ sum_of g l
  sum_of_le f g [] h = omega arith
  sum_of_le f g (x ∷ xs) h = let e = h.0 in let t = sum_of_le f g xs h.1 in omega arith

  pub sum_of-zero : (f : A → ℕ) (l : List A) → Each (λ x. f x ≡ 0) l → sum_of f l ≡ 0
  sum_of-zero f [] h = refl
  sum_of-zero f (x ∷ xs) h = let e = h.0 in let t = sum_of-zero f xs h.1 in omega arith

  pub sum_of_plus : (f g : A → ℕ) (l : List A) → sum_of (λ x. f x + g x) l ≡ sum_of f l + sum_of g l
  sum_of_plus f g [] = omega arith
  sum_of_plus f g (x ∷ xs) = let h = sum_of_plus f g xs in omega arith

  pub sum_of_when : (c : Bool) (f : A → ℕ) (l : List A) → sum_of (λ x. cond c (f x) 0) l ≡ cond c (sum_of f l) 0
  sum_of_when true f l = refl
  sum_of_when false f [] = refl
  sum_of_when false f (x ∷ xs) = let h = sum_of_when false f xs in omega arith

  -- an element is no more than the sum
  pub sum_of_has : (f : A → ℕ) (l : List A) (x : A) → Has x l → f x ≤ sum_of f l
  sum_of_has f [] x m = absurd m
  sum_of_has f (y ∷ ys) x (inl q) = rw q (omega arith)
  sum_of_has f (y ∷ ys) x (inr m) = let h = sum_of_has f ys x m in omega arith
