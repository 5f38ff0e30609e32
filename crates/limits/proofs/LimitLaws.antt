-- Laws of the limits, by cases, and their bounds.
use Prim.Native.Nat.{ℕ, ◌*◌, ◌/◌, ◌^◌, ◌≤◌, ◌<◌, min}
use mathlib.Core.Path.{◌≡◌, sym}
use mathlib.Core.Bool.{Bool, true, false, cond}
use mathlib.Core.Logic.{◌⊎◌, inl, inr}
use lib.Dec.{eqb, ltb, lit≤, lit<}
use borrow.Author.Tests.{eq-eqb, ne_eqb, le-leb, lt-leb, lt-ltb, le-ltb, ltb-true, ltb-false}
use native.Mathlib.Nat.{mul-le-mul, lt_of_le_of_lt}
use native.Mathlib.Omega.{arith}
use Rattle.measures.specs.Ranges.{between, most_energy}
use Rattle.measures.proofs.RangeLaws.{In, inside, outside}
use Rattle.limits.specs.Units.{most_days, most_capacity}
use Rattle.std.proofs.Common.{Result, Ok, Err, refl, ◌&&◌, [], ◌∷◌}
use Rattle.std.specs.Result.{is_ok}
use Rattle.measures.specs.declared.refusals.Refusal.{Refusal}
use Rattle.measures.specs.Refused.{refusal_of}
use Rattle.measures.specs.Lists.{holds}
use Rattle.measures.proofs.RefusedLaws.{number_some}
use Rattle.limits.specs.declared.Kind.{Kind}
use Rattle.limits.specs.declared.Kind.TheVariants.{Solar, Generator, User, Retailer}
use Rattle.limits.specs.Kinds.{kind_number, unit_refusal}
use Rattle.limits.specs.Units.{kind_in, capacity_in, asset_in, generator}
use Rattle.limits.specs.Limits.{Answer, refused, limits_in, limits_at, hour_limit, term_limit, volume_limit}

-- a capacity times at most 24 hours times at most 31 days
pub term-small : (c k d : ℕ) → c ≤ most_capacity → k ≤ 24 → d ≤ most_days → c * k * d ≤ 3_720_000_000
term-small c k d hc hk hd = mul-le-mul (mul-le-mul hc hk) hd

pub term_fits_lem : (c k d : ℕ) → c ≤ most_capacity → k ≤ 24 → d ≤ most_days → c * k * d < 2 ^ 64
term_fits_lem c k d hc hk hd = lt_of_le_of_lt (term-small c k d hc hk hd) (lit< tt)

-- a day is of a term where its period is: both tests give the same
day_test : (b : Bool) (p d : ℕ) → ltb (p / 24) d ≡ b → b ≡ ltb p (24 * d)
day_test true p d e = let h = ltb-true _ _ e in sym (lt-ltb _ _ (omega arith))
day_test false p d e = let h = ltb-false _ _ e in sym (le-ltb _ _ (omega arith))

pub period_divided : (p d : ℕ) → ltb (p / 24) d ≡ ltb p (24 * d)
period_divided p d = day_test _ p d refl

-- a choice of two numbers that are at most n
cond_le : (b : Bool) (x y n : ℕ) → x ≤ n → y ≤ n → cond b x y ≤ n
cond_le true x y n hx hy = hx
cond_le false x y n hx hy = hy

-- no term limit passes the largest energy
pub term-most : (kind c asset d : ℕ) → c ≤ most_capacity → d ≤ most_days → term_limit kind c asset d ≤ most_energy
unfolding term_limit
term-most kind c asset d hc hd =
    let ten = term-small c 10 d hc (lit≤ tt) hd in
    let day = term-small c 24 d hc (lit≤ tt) hd in
    cond_le (eqb kind 1) _ _ _ (omega arith) (cond_le (eqb kind 4) _ _ _ (omega arith) (omega arith))

-- no hour limit passes the capacity
pub hour_most : (kind capacity hour : ℕ) → hour_limit kind capacity hour ≤ capacity
unfolding hour_limit
hour_most kind capacity hour = cond_le (eqb kind 1) _ _ _ (cond_le (between 6 19 hour) _ _ _ (omega arith) (omega arith)) (omega arith)

-- no volume limit passes six fifths of the largest energy
pub volume-most : (kind term : ℕ) → term ≤ most_energy → volume_limit kind term ≤ most_energy * 6 / 5
unfolding volume_limit
volume-most kind term h = cond_le (between 1 2 kind) _ _ _ (omega arith) (omega arith)

-- the hour limit by cases
module _ (kind capacity hour : ℕ) where
  pub solar_day : kind ≡ 1 → In 6 19 hour → capacity ≡ hour_limit kind capacity hour
  unfolding hour_limit
  solar_day k h = simp (eq-eqb kind 1 k, inside 6 19 hour h)

  pub solar_night : kind ≡ 1 → (In 6 19 hour → ⊥) → 0 ≡ hour_limit kind capacity hour
  unfolding hour_limit
  solar_night k h = simp (eq-eqb kind 1 k, outside 6 19 hour h)

  pub not-solar : (kind ≡ 1 → ⊥) → capacity ≡ hour_limit kind capacity hour
  unfolding hour_limit
  not-solar k = simp (ne_eqb kind 1 k)

-- the term limit by cases
module _ (kind capacity asset days r : ℕ) where
  pub term-solar : kind ≡ 1 → r ≡ capacity * 10 * days → r ≡ term_limit kind capacity asset days
  unfolding term_limit
  term-solar k e = simp (eq-eqb kind 1 k) e

  pub term-retailer : kind ≡ 4 → r ≡ min (capacity * 24 * days) asset → r ≡ term_limit kind capacity asset days
  unfolding term_limit
  term-retailer k e = simp (ne_eqb kind 1 (omega arith), eq-eqb kind 4 k) e

  pub term_other : (kind ≡ 1 → ⊥) → (kind ≡ 4 → ⊥) → r ≡ capacity * 24 * days → r ≡ term_limit kind capacity asset days
  unfolding term_limit
  term_other k l e = simp (ne_eqb kind 1 k, ne_eqb kind 4 l) e

-- the volume limit by cases
module _ (kind term r : ℕ) where
  pub volume-generator : In 1 2 kind → r ≡ term * 6 / 5 → r ≡ volume_limit kind term
  unfolding volume_limit
  volume-generator k e = simp (inside 1 2 kind k) e

  pub volume_load : (In 1 2 kind → ⊥) → r ≡ term → r ≡ volume_limit kind term
  unfolding volume_limit
  volume_load k e = simp (outside 1 2 kind k) e

-- the limits called directly, by cases
module _ (days kind capacity asset period : ℕ) where
  abbrev pub Now : Answer → Type 0
  Now a = a ≡ limits_at days kind capacity asset period

  pub no_days : (In 1 most_days days → ⊥) → Now (refused 2)
  unfolding limits_at
  no_days d = simp (outside 1 most_days days d)

  pub no_kind : In 1 most_days days → (In 1 4 kind → ⊥) → Now (refused 3)
  unfolding limits_at
  no_kind d k = simp (inside 1 most_days days d, outside 1 4 kind k)

  pub no_capacity : In 1 most_days days → In 1 4 kind → (In 1 most_capacity capacity → ⊥) → Now (refused 4)
  unfolding limits_at
  no_capacity d k c = simp (inside 1 most_days days d, inside 1 4 kind k, outside 1 most_capacity capacity c)

  pub no_asset : In 1 most_days days → In 1 4 kind → In 1 most_capacity capacity → most_energy < asset → Now (refused 4)
  unfolding limits_at
  no_asset d k c a = simp (inside 1 most_days days d, inside 1 4 kind k, inside 1 most_capacity capacity c, lt-leb asset most_energy a)

  pub no_period : In 1 most_days days → In 1 4 kind → In 1 most_capacity capacity → asset ≤ most_energy → 24 * days ≤ period → Now (refused 10)
  unfolding limits_at
  no_period d k c a p = simp (
    inside 1 most_days days d,
    inside 1 4 kind k,
    inside 1 most_capacity capacity c,
    le-leb asset most_energy a,
    le-ltb period
        (24 * days) p,
  )

  pub all_in : In 1 most_days days → In 1 4 kind → In 1 most_capacity capacity → asset ≤ most_energy → period < 24 * days
      → Now (limits_in days kind capacity asset period)
  unfolding limits_at
  all_in d k c a p = simp (
    inside 1 most_days days d,
    inside 1 4 kind k,
    inside 1 most_capacity capacity c,
    le-leb asset most_energy a,
    lt-ltb period
        (24 * days) p,
  )

-- kinds 1 and 2 are generators, the others are not
pub generates : (kind : Kind) → (kind ≡ Solar) ⊎ (kind ≡ Generator) → true ≡ generator (kind_number kind)
generates kind (inl e) = rw e refl
generates kind (inr e) = rw e refl

pub draws : (kind : Kind) → (kind ≡ Solar → ⊥) → (kind ≡ Generator → ⊥) → false ≡ generator (kind_number kind)
draws Solar s g = absurd (s refl)
draws Generator s g = absurd (g refl)
draws User s g = refl
draws Retailer s g = refl

-- a unit of a known kind and in its ranges passes
kind_known : (kind : Kind) → In 1 4 (kind_number kind)
kind_known Solar = (omega arith, omega arith)
kind_known Generator = (omega arith, omega arith)
kind_known User = (omega arith, omega arith)
kind_known Retailer = (omega arith, omega arith)

pub unit_passes : (kind : Kind) (k c a : ℕ) → kind_number kind ≡ k → In 1 most_capacity c → a ≤ most_energy → 0 ≡ unit_refusal k c a
unit_passes kind k c a e h l = simp (inside 1 4 k (rw e at (kind_known kind)), inside 1 most_capacity c h, le-leb a most_energy l)

-- a unit is checked just where its fields are in range
pub checked_ok : (r : Result Kind Refusal) (kind capacity asset : ℕ) → refusal_of r ≡ unit_refusal kind capacity asset
    → is_ok r ≡ holds (kind_in kind ∷ capacity_in capacity ∷ asset_in asset ∷ [])
unfolding holds
checked_ok r kind capacity asset e = go r (kind_in kind) (capacity_in capacity) (asset_in asset) e
  where
    go : (r : Result Kind Refusal) (k c a : Bool) → refusal_of r ≡ cond k (cond (c && a) 0 4) 3 → is_ok r ≡ (k && (c && (a && true)))
    go (Ok x) true true true q = refl
    go (Ok x) true true false q = absurd (omega arith)
    go (Ok x) true false a q = absurd (omega arith)
    go (Ok x) false c a q = absurd (omega arith)
    go (Err x) true true true q = absurd (number_some x q)
    go (Err x) true true false q = refl
    go (Err x) true false a q = refl
    go (Err x) false c a q = refl

-- for the check to cite: no term limit passes the largest energy
pub ruleset term_bounds = (term-most)
