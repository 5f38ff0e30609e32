-- A tally and the book that the same calls left, side by side.
use Prim.Native.Nat.{ℕ, ◌+◌, ◌-◌, ◌<◌}
use mathlib.Core.Path.{◌≡◌, refl, ap, ◌∙◌}
use mathlib.Core.Bool.{Bool, true, cond, not, ◌&&◌}
use mathlib.Core.List.{List, map}
use native.Mathlib.Omega.{arith}
use lib.ListN.{length, length-map, get_or-map}
use lib.Dec.{eqb}
use Rattle.measures.specs.Lists.{Each, keep, sum_of}
use Rattle.measures.specs.Sharing.{total}
use Rattle.measures.proofs.RangeLaws.{In, within}
use Rattle.limits.specs.Units.{periods, generator}
use Rattle.matching.specs.Orders.{Row}
use Rattle.book.specs.Book.{Rules, Figures, EnrolledUnit, no_unit, OpenOffer, Book, unit_of, figures_of}
use Rattle.book.specs.Opening.{fresh}
use Rattle.demands.specs.Tally.{Member, Amounts, Tally, opened}
use Rattle.demands.specs.Demand3.{member_of, is_member}

-- what a tally keeps of a unit, and of an offer
abbrev pub member : EnrolledUnit → Member
member u = record { kind = u.kind; capacity = u.capacity; asset = u.asset }

abbrev pub amounts_of : OpenOffer → Amounts
amounts_of o = record { number = o.number; unit = o.unit; amounts = o.amounts }

-- whether something of an offer is left; the book drops an emptied one, the tally keeps its zeros
abbrev pub remains : Amounts → Bool
remains a = not (eqb (total a.amounts) 0)

-- what a unit sold and bought in a period, by rows
abbrev pub sold_in : List Row → ℕ → ℕ → ℕ
sold_in rs u p = sum_of (λ (r : Row). cond (eqb r.seller u && eqb r.period p) r.quantity 0) rs

abbrev pub bought_in : List Row → ℕ → ℕ → ℕ
bought_in rs u p = sum_of (λ (r : Row). cond (eqb r.buyer u && eqb r.period p) r.quantity 0) rs

-- the figures of a unit of this kind that sold s and bought d
pub record Figured (kind s d : ℕ) (f : Figures) : Type 0 where
  pub net : f.held + f.raised + cond (generator kind) d s ≡ cond (generator kind) s d + f.lowered
  pub volume : f.volume ≡ s + d

abbrev pub AllFigured : List Row → Book → Type 0
AllFigured rs b =
    (u p : ℕ) → In 1 (length b.units) u → p < periods b.rules.days
    → Figured (unit_of b u).kind (sold_in rs u p) (bought_in rs u p) (figures_of b u p)

-- a row of enrolled units
abbrev pub Parties : ℕ → Row → Type 0
Parties n r = In 1 n r.seller × In 1 n r.buyer

pub record Agree (t : Tally) (b : Book) : Type 0 where
  pub days : t.rules.days ≡ b.rules.days
  pub units : t.units ≡ map member b.units
  pub offers : keep remains t.offers ≡ map amounts_of b.offers
  pub orders : t.orders ≡ b.orders
  pub parties : Each (Parties (length b.units)) t.rows
  pub figures : AllFigured t.rows b

pub agree_start : (r : Rules) → Agree (opened r) (fresh r)
agree_start r =
    record { days = refl; units = refl; offers = refl; orders = refl; parties = tt; figures = λ u p h l. absurd (omega arith) }

module _ (t : Tally) (b : Book) (a : Agree t b) where
  pub member_of_lem : (u : ℕ) → member_of t u ≡ member (unit_of b u)
  member_of_lem u = rw a.units (get_or-map member b.units (u - 1) no_unit)

  pub units_count : length t.units ≡ length b.units
  units_count = ap length a.units ∙ length-map b.units member

  pub enrolled_in : (u : ℕ) → is_member t u ≡ true → In 1 (length b.units) u
  enrolled_in u e = rw units_count at (within 1 (length t.units) u e)
