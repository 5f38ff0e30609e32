-- A range as a test and as a fact.
use Prim.Native.Nat.{ℕ, ◌≤◌}
use mathlib.Core.Path.{◌≡◌, refl}
use mathlib.Core.Bool.{Bool, true, false}
use lib.Dec.{leb}
use borrow.Author.Tests.{leb-true, le-leb}
use native.Mathlib.Omega.{arith}
use Rattle.measures.specs.Ranges.{between}

-- x lies from a to b, as a fact
abbrev pub In : ℕ → ℕ → ℕ → Type 0
In a b x = (a ≤ x) × (x ≤ b)

pub inside : (a b x : ℕ) → In a b x → between a b x ≡ true
inside a b x h = simp (le-leb a x h.0, le-leb x b h.1)

pub outside : (a b x : ℕ) → (In a b x → ⊥) → between a b x ≡ false
outside a b x n = go (leb a x) (leb x b) refl refl
  where
    go : (p q : Bool) → leb a x ≡ p → leb x b ≡ q → between a b x ≡ false
    go true true e f = absurd (n (leb-true a x e, leb-true x b f))
    go true false e f = simp (e, f)
    go false true e f = simp e
    go false false e f = simp e

-- a passed test is the fact
pub within : (a b x : ℕ) → between a b x ≡ true → In a b x
within a b x e = go (leb a x) (leb x b) refl refl
  where
    no : false ≡ true → In a b x
    no z = let w : ◌≡◌ {A = ℕ} 0 1 = cc in absurd (omega arith)

    go : (p q : Bool) → leb a x ≡ p → leb x b ≡ q → In a b x
    go true true f g = (leb-true a x f, leb-true x b g)
    go true false f g = no (simp (f, g) at e)
    go false true f g = no (simp (f, g) at e)
    go false false f g = no (simp (f, g) at e)
