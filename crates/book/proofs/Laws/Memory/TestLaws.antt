-- What a test of an energy or a price says of the numbers.
use Rattle.std.proofs.Common.{◌≡◌, ℕ, ◌<◌, ◌≤◌, Bool, true, false, eqb, ltb, leb, sym, refl, ◌∙◌, arith, ltb-false, ltb-true, eqb-true, leb-false, leb-true}
use borrow.Author.Tests.{eqb-false}
use Rattle.std.proofs.Common.{Result, Ok, Err}
use Rattle.std.specs.Result.{MatchResult, is_err}
use Rattle.measures.specs.Ranges.{between}
use Rattle.matching.specs.declared.orders.Direction.{Direction}
use Rattle.matching.specs.declared.orders.Direction.TheVariants.{Sell, Buy}
use Rattle.matching.specs.Memory.{direction_number}
use Rattle.book.specs.declared.phase.Phase.{Phase}
use Rattle.book.specs.declared.phase.Phase.TheVariants.{Call, Rolling}
use Rattle.book.specs.Inner.Phases.{phase_number}
use Rattle.measures.proofs.RangeLaws.{In, inside, within}
use Rattle.measures.proofs.ListLaws.{not_both}

module _ {a b : ℕ} {r : Bool} where
  pub is_below : r ≡ ltb a b → r ≡ true → a < b
  is_below e t = ltb-true a b (sym e ∙ t)

  pub not_below_lem : r ≡ ltb a b → r ≡ false → b ≤ a
  not_below_lem e t = ltb-false a b (sym e ∙ t)

  pub within_most : r ≡ leb a b → r ≡ true → a ≤ b
  within_most e t = leb-true a b (sym e ∙ t)

  pub over_most : r ≡ leb a b → r ≡ false → b < a
  over_most e t = leb-false a b (sym e ∙ t)

module _ {a : ℕ} {r : Bool} where
  pub is_none : r ≡ eqb a 0 → r ≡ true → a ≡ 0
  is_none e t = eqb-true a 0 (sym e ∙ t)

  pub is_some : r ≡ eqb a 0 → r ≡ false → 1 ≤ a
  is_some e t = let n = eqb-false a 0 (sym e ∙ t) in omega arith

-- a fact that a test denies
module _ {a b : ℕ} {r : Bool} where
  pub deny_over : a ≤ b → r ≡ leb a b → r ≡ false → ⊥
  deny_over h e t = let l : b < a = over_most e t in omega arith

module _ {a : ℕ} {r : Bool} where
  pub deny_none : 1 ≤ a → r ≡ eqb a 0 → r ≡ true → ⊥
  deny_none h e t = let z : a ≡ 0 = is_none e t in omega arith

-- a test of a range
module _ {a b x : ℕ} {r : Bool} where
  pub is_in : r ≡ between a b x → r ≡ true → In a b x
  is_in e t = within a b x (sym e ∙ t)

  pub not_in : r ≡ between a b x → r ≡ false → In a b x → ⊥
  not_in e t h = not_both _ (inside a b x h) (sym e ∙ t)

-- a test that settles what is left
pub settles : (r b : Bool) → (r ≡ true → b ≡ true) → (r ≡ false → false ≡ b) → r ≡ b
settles true b h k = sym (h refl)
settles false b h k = k refl

-- what a conversion says where it fails, and where it does not
module _ {T E A : Type 0} (P : T → Type 0) (Q : E → Type 0) where
  pub where_err : (r : Result T E) → MatchResult r P Q → ((e : E) → Q e → A) → is_err r ≡ true → A
  where_err (Ok x) m f t = absurd (not_both _ t refl)
  where_err (Err e) m f t = f e m

  pub where_ok : (r : Result T E) → MatchResult r P Q → ((x : T) → P x → A) → is_err r ≡ false → A
  where_ok (Ok x) m f t = f x m
  where_ok (Err e) m f t = absurd (not_both _ refl t)

-- the number of a direction, and of a phase
module _ (n : ℕ) where
  pub direction_most : (d : Direction) → n ≡ direction_number d → n ≤ 1
  direction_most Sell h = omega arith
  direction_most Buy h = omega arith

  pub phase_most : (p : Phase) → phase_number p ≡ n → n ≤ 1
  phase_most Call h = omega arith
  phase_most Rolling h = omega arith
