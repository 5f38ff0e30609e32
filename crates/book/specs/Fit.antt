-- When a declaration fits (paper 01, "Limits").
use Rattle.std.specs.Prelude.{ℕ, ◌+◌, Bool, cond, ◌&&◌, ◌||◌, leb, List, [], ◌∷◌, ◌==◌, nat_le, slice_index}
use Rattle.measures.specs.Lists.{holds, sum_of, sum, all}
use Rattle.limits.specs.Units.{periods}
use Rattle.limits.specs.Limits.{hour_of, hour_limit, term_limit, volume_limit}
use Rattle.matching.specs.Orders.{Order as OpenOrder}
use Rattle.book.specs.Book.{OpenOffer, Book, unit_of, figures_of}
use Rattle.book.specs.Trades.{raises, lowers}

-- what a unit's open orders of a period come to, of those in a direction that f picks
unfoldable pub open_orders : (ℕ → Bool) → ℕ → ℕ → List OpenOrder → ℕ
open_orders f u p os =
    sum_of (λ (o : OpenOrder). cond (o.unit == u && o.period == p && f o.direction) o.quantity 0) os

-- what a unit's open offers have left in a period; "generators sell, loads buy", so an offer raises
unfoldable pub open_offers : ℕ → ℕ → List OpenOffer → ℕ
open_offers u p os = sum_of (λ (o : OpenOffer). cond (o.unit == u) (slice_index o.amounts p) 0) os

-- "still open", raising and lowering
unfoldable pub open_raising : Book → ℕ → ℕ → ℕ
open_raising b u p = open_offers u p b.offers + open_orders (raises (unit_of b u).kind) u p b.orders

unfoldable pub open_lowering : Book → ℕ → ℕ → ℕ
open_lowering b u p = open_orders (lowers (unit_of b u).kind) u p b.orders

-- "Declared today means traded today plus still open."
abbrev pub raising_today : Book → ℕ → ℕ → ℕ
raising_today b u p = (figures_of b u p).raised + open_raising b u p

abbrev pub lowering_today : Book → ℕ → ℕ → ℕ
lowering_today b u p = (figures_of b u p).lowered + open_lowering b u p

-- a declaration: what it raises and what it lowers in each period
pub record Declaration : Type 0 where
  pub raising : ℕ → ℕ
  pub lowering : ℕ → ℕ

abbrev pub nothing : Declaration
nothing = record { raising = λ p. 0; lowering = λ p. 0 }

module _ (b : Book) (u : ℕ) (d : Declaration) where
  -- "held plus raising declared today is at most the hour limit, and lowering declared today is at most held"
  unfoldable pub hour_fits : ℕ → Bool
  hour_fits p =
      nat_le ((figures_of b u p).held + (raising_today b u p + d.raising p)) (hour_limit (unit_of b u).kind (unit_of b u).capacity (hour_of p))
      && nat_le (lowering_today b u p + d.lowering p) (figures_of b u p).held

  -- "in each of its periods", that is, where it has energy
  unfoldable pub hours_fit : Bool
  hours_fit = all (periods b.rules.days) (λ p. (d.raising p + d.lowering p == 0) || hour_fits p)

  abbrev pub term_of : ℕ
  term_of = term_limit (unit_of b u).kind (unit_of b u).capacity (unit_of b u).asset b.rules.days

  -- "over the term, held plus raising declared today is at most the term limit"
  unfoldable pub term_fits : Bool
  term_fits = nat_le (sum (periods b.rules.days) (λ p. (figures_of b u p).held + (raising_today b u p + d.raising p))) term_of

  -- "volume plus everything open is at most the volume limit"
  unfoldable pub volume_fits : Bool
  volume_fits =
      leb
      (sum (periods b.rules.days) (λ p. (figures_of b u p).volume + (open_raising b u p + open_lowering b u p + (d.raising p + d.lowering p))))
      (volume_limit (unit_of b u).kind term_of)

-- "all units fit so": every period, with nothing added
unfoldable pub unit_fits : Book → ℕ → Bool
unit_fits b u = holds (all (periods b.rules.days) (hour_fits b u nothing) ∷ term_fits b u nothing ∷ volume_fits b u nothing ∷ [])
