-- The kinds of units by their numbers, and what is asked of a unit's fields.
use Rattle.std.specs.Prelude.{ℕ, ◌≡◌, false, cond, ◌&&◌, Result, MatchResult}
use Rattle.measures.specs.declared.refusals.Refusal.{Refusal}
use Rattle.measures.specs.declared.refusals.Refusal.TheVariants.{BadKind}
use Rattle.limits.specs.declared.Kind.{Kind}
use Rattle.limits.specs.declared.Kind.TheVariants.{Solar, Generator, User, Retailer}
use Rattle.limits.specs.Units.{kind_in, capacity_in, asset_in}

-- "Kinds: 1 solar generator, 2 other generator, 3 wholesale user, 4 retailer."
abbrev pub kind_number : Kind → ℕ
kind_number Solar = 1
kind_number Generator = 2
kind_number User = 3
kind_number Retailer = 4

-- the kind of this number, or the refusal where there is none
abbrev pub KindOf : ℕ → Result Kind Refusal → Type 0
KindOf n r = MatchResult r (λ kind. kind_number kind ≡ n) (λ refusal. (refusal ≡ BadKind) × (kind_in n ≡ false))

-- 3, "kind not 1 to 4"; 4, "capacity or asset out of range"; or 0
abbrev pub unit_refusal : ℕ → ℕ → ℕ → ℕ
unit_refusal kind capacity asset = cond (kind_in kind) (cond (capacity_in capacity && asset_in asset) 0 4) 3
