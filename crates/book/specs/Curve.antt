-- "Curve (001 4, 8.1), a reading call: a unit and a day from 0; 48 numbers."
use Rattle.std.specs.Prelude.{ℕ, zero, suc, ◌-◌, ◌*◌, ◌/◌, cond, List, [], ◌∷◌, ◌==◌}
use Rattle.book.specs.Book.{Book, figures_of, net}
use Rattle.book.specs.Refusals.{Check, first_refusal, unsound, unknown_unit, few_points, bad_day}

abbrev pub curve_checks : Book → ℕ → ℕ → ℕ → List Check
curve_checks b u day lent = unknown_unit b u ∷ few_points lent ∷ bad_day b day ∷ []

unfoldable pub curve_refusal : Book → ℕ → ℕ → ℕ → ℕ
curve_refusal b u day lent = first_refusal (unsound b ∷ curve_checks b u day lent)

-- "Each period's net n gives floor(n / 2), then the rest"
abbrev pub first_half : ℕ → ℕ
first_half n = n / 2

abbrev pub second_half : ℕ → ℕ
second_half n = n - n / 2

-- the points of n periods from p on
unfoldable pub points_from : Book → ℕ → ℕ → ℕ → List ℕ
points_from b u p zero = []
points_from b u p (suc n) =
    first_half (net (figures_of b u p)) ∷ second_half (net (figures_of b u p)) ∷ points_from b u (suc p) n

abbrev pub points : Book → ℕ → ℕ → List ℕ
points b u day = points_from b u (24 * day) 24

-- what the curve gives: the refusal, or the 48 points
pub record Drawn : Type 0 where
  pub refusal : ℕ
  pub points : List ℕ

unfoldable pub curve : Book → ℕ → ℕ → ℕ → Drawn
curve b u day lent =
    let no = curve_refusal b u day lent in
    cond (no == 0) (record { refusal = 0; points = points b u day }) (record { refusal = no; points = [] })
