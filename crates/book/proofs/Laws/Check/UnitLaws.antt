-- The hour limits of a unit, and the pass over its days.
use Rattle.std.proofs.Common.{◌≡◌, ℕ, ◌+◌, ◌*◌, ◌<◌, ◌≤◌, List, length, sym, ap, ◌∙◌, arith}
use Rattle.std.proofs.Common.{zero, suc, slice_index}
use Rattle.std.specs.Fn.{Mut, Called}
use Rattle.std.specs.Array.{IsFromFnResultFrom}
use native.Mathlib.Decide.{ℕ_discrete, dec_lt}
use Rattle.limits.specs.Limits.{hour_of, hour_limit}
use Rattle.limits.proofs.LimitLaws.{hour_most}
use Rattle.book.specs.Layout.{UNITS, unit_place, CAPACITY, day_place, word}
use Rattle.book.specs.Inner.Readable.{Ranged}
use Rattle.book.specs.Inner.Fitting.{Below}
use Rattle.book.specs.Inner.Pass.{Pass, cell_at, day_cell, unit_cell, Limited, HourLimits, HourTable}
use Rattle.book.proofs.Laws.Check.BoundLaws.{unit_words}
use Rattle.book.proofs.Laws.Check.ShareLaws.{get_d_past}
use Rattle.book.proofs.Laws.Check.PassLaws.{pass_ext}

-- no hour limit of a unit passes the largest capacity
pub limits_small : (m : List ℕ) (k : ℕ) (limits : List ℕ) → Ranged m → k < word m UNITS → HourTable m k limits → Below 5_000_000 limits
limits_small m k limits r h t i =
    let a = t.below i in
    let b = (unit_words m k r h).capacity.1 in
    omega arith

-- the hour limits that a function of the hour gave, hour by hour
module _ (kind capacity : ℕ) {F : Type 0} (g : Mut F (ℕ × Unit {0}) ℕ) (f : F) (l : List ℕ)
    (gives : (i y : ℕ) (q : F) → Called g f (i, tt) y q → (q ≡ f) × (y ≡ hour_limit kind capacity i)) where
  made_each : (i n : ℕ) → IsFromFnResultFrom g f l i n → (h : ℕ) → i ≤ h → h < i + n → slice_index l h ≡ hour_limit kind capacity h
  made_each i zero t h from to = absurd (omega arith)
  made_each i (suc n) (q, y, e, s, t) h from to =
      let later = made_each (i + 1) n (rw (gives i y q s).0 at t) h in go (ℕ_discrete h i) later
    where
      go : Dec (h ≡ i) → (i + 1 ≤ h → h < i + 1 + n → slice_index l h ≡ hour_limit kind capacity h)
          → slice_index l h ≡ hour_limit kind capacity h
      go (yes w) later = rw w (e.1 0 ∙ (gives i y q s).1)
      go (no w) later = later (omega arith) (omega arith)

  pub limits_made : length l ≡ 24 → IsFromFnResultFrom g f l 0 24 → HourLimits kind capacity 24 l
  limits_made long t =
      record {
        each = λ h k. made_each 0 24 t h (omega arith) (omega arith);
        below = λ h. below h (dec_lt h 24);
        long = long;
      }
    where
      below : (h : ℕ) → Dec (h < 24) → slice_index l h ≤ capacity
      below h (yes k) = rw (made_each 0 24 t h (omega arith) (omega arith)) (hour_most kind capacity h)
      below h (no k) = rw (get_d_past l h (omega (arith, long))) (omega arith)

cell_ext : (m : List ℕ) (i i' l l' x x' y y' : ℕ) → i ≡ i' → l ≡ l' → x ≡ x' → y ≡ y' → cell_at m i l x y ≡ cell_at m i' l' x' y'
cell_ext m i i' l l' x x' y y' ei el ex ey = rw (ei, el, ex, ey)

module _ (m : List ℕ) (k : ℕ) (x y : ℕ → ℕ) (r : Ranged m) (u : k < word m UNITS) where
  pub unit_limited : Limited (unit_cell m k x y)
  unfolding unit_cell
  unit_limited =
      record {
        limit = λ p.
            let t = hour_most (word m (unit_place k)) (word m (unit_place k + CAPACITY)) (hour_of p) in
            let c = (unit_words m k r u).capacity.1 in
            omega arith;
      }

  module _ (limits : List ℕ) (xs ys : ℕ → ℕ) (t : HourTable m k limits) where
    -- the cells of day d are those of its periods
    day_cells : (d : ℕ) → ((h : ℕ) → h < 24 → xs h ≡ x (24 * d + h)) → ((h : ℕ) → h < 24 → ys h ≡ y (24 * d + h))
        → (h : ℕ) → h < 24 → day_cell m (day_place d k) limits xs ys h ≡ unit_cell m k x y (24 * d + h)
    unfolding day_cell unit_cell
    day_cells d ex ey h l =
        let q : hour_of (24 * d + h) ≡ h = omega arith in
        cell_ext m _ _ _ _ _ _ _ _ (omega arith)
        (t.each h l ∙ ap (λ (n : ℕ). hour_limit (word m (unit_place k)) (word m (unit_place k + CAPACITY)) n) (sym q)) (ex h l) (ey h l)

    -- the pass over day d is that over its periods
    pub unit_day : (d bad marks whole volume : ℕ) → ((h : ℕ) → h < 24 → xs h ≡ x (24 * d + h)) → ((h : ℕ) → h < 24 → ys h ≡ y (24 * d + h))
        → Pass 24 (day_cell m (day_place d k) limits xs ys) bad marks whole volume → Pass 24 (λ h. unit_cell m k x y (24 * d + h)) bad marks whole volume
    unit_day d bad marks whole volume ex ey p = pass_ext 24 _ _ bad marks whole volume (day_cells d ex ey) p
