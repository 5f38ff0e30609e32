-- A take's rows written one by one.
use Rattle.std.proofs.Common.{◌≡◌, ℕ, ◌+◌, suc, ◌≤◌, Bool, true, false, not, cond, eqb, List, [], ◌∷◌, ◌++◌, length, refl}
use Rattle.std.proofs.Common.{sym, ap, ◌∙◌, add-one, arith}
use Rattle.std.specs.List.{filter, enumerate_from}
use Rattle.std.proofs.lemmas.List.{map-append, length-map}
use mathlib.Core.List.{map}
use denote.Ref.{Bor}
use Rattle.matching.specs.Orders.{Row}
use Rattle.matching.specs.Memory.{written}
use Rattle.book.specs.Take.{take_rows_from}
use Rattle.book.specs.Inner.RowsIn.{RowsPut}

-- a part with its period, as the walk over the parts reads it
abbrev pub read : ℕ × Bor ℕ → ℕ × ℕ
read y = (y.0, y.1.now)

abbrev pub is_some_part : ℕ × ℕ → Bool
is_some_part y = not (eqb y.1 0)

-- the row of a part in its period
abbrev pub row_of : ℕ → ℕ → ℕ → ℕ → ℕ × ℕ → Row
row_of way s b pr y = record { way = way; period = y.0; seller = s; buyer = b; quantity = y.1; price = pr }

module _ (way s b pr : ℕ) where
  -- a row for each part that is not 0
  rows_of_parts : (p : ℕ) (qs : List ℕ) → map (row_of way s b pr) (filter is_some_part (enumerate_from p qs)) ≡ take_rows_from p way s b pr qs
  unfolding take_rows_from
  rows_of_parts p [] = refl
  rows_of_parts p (q ∷ qs) = go (eqb q 0) (rows_of_parts (p + 1) qs ∙ ap (λ (t : ℕ). take_rows_from t way s b pr qs) (add-one p))
    where
      go : (z : Bool) → map (row_of way s b pr) (filter is_some_part (enumerate_from (p + 1) qs)) ≡ take_rows_from (suc p) way s b pr qs
          → map (row_of way s b pr)
          (cond (not z) ((p, q) ∷ filter is_some_part (enumerate_from (p + 1) qs)) (filter is_some_part (enumerate_from (p + 1) qs)))
          ≡ cond z (take_rows_from (suc p) way s b pr qs) (row_of way s b pr (p, q) ∷ take_rows_from (suc p) way s b pr qs)
      go true h = h
      go false h = ap (λ (rs : List Row). row_of way s b pr (p, q) ∷ rs) h

  -- the rows of the parts that were read
  abbrev pub rows_read : List (ℕ × Bor ℕ) → List Row
  rows_read ys = map (row_of way s b pr) (map read ys)

  pub rows_counted : (ys : List (ℕ × Bor ℕ)) → length (rows_read ys) ≡ length ys
  rows_counted ys = length-map (map read ys) (row_of way s b pr) ∙ length-map ys read

  pub rows_more : (ys : List (ℕ × Bor ℕ)) (y : ℕ × Bor ℕ) → rows_read (ys ++ (y ∷ [])) ≡ rows_read ys ++ (row_of way s b pr (read y) ∷ [])
  rows_more ys y = ap (map (row_of way s b pr)) (map-append read ys (y ∷ [])) ∙ map-append (row_of way s b pr) (map read ys) (read y ∷ [])

  pub rows_all : (m x : List ℕ) (k : ℕ) (ys : List (ℕ × Bor ℕ)) (qs : List ℕ) → map read ys ≡ filter is_some_part (enumerate_from 0 qs)
      → k ≡ length ys → x ≡ written m (rows_read ys) → RowsPut m x k (take_rows_from 0 way s b pr qs)
  rows_all m x k ys qs e n w =
      let d : rows_read ys ≡ take_rows_from 0 way s b pr qs = ap (map (row_of way s b pr)) e ∙ rows_of_parts 0 qs in
      record { count = n ∙ sym (rows_counted ys) ∙ ap (λ (rs : List Row). length rs) d; rows = w ∙ ap (written m) d }

-- there are no more rows than parts
pub few_parts : (p : ℕ) (qs : List ℕ) → length (filter is_some_part (enumerate_from p qs)) ≤ length qs
few_parts p [] = omega arith
few_parts p (q ∷ qs) = go (eqb q 0) (few_parts (p + 1) qs)
  where
    go : (z : Bool) → length (filter is_some_part (enumerate_from (p + 1) qs)) ≤ length qs
        → length (cond (not z) ((p, q) ∷ filter is_some_part (enumerate_from (p + 1) qs)) (filter is_some_part (enumerate_from (p + 1) qs)))
        ≤ length (q ∷ qs)
    go true h = omega arith
    go false h = omega arith
