-- The figures of a sound book are small, and rows that were written are read back.
use Rattle.std.proofs.Common.{◌≡◌, ℕ, zero, suc, ◌+◌, ◌-◌, ◌*◌, ◌/◌, ◌<◌, ◌≤◌, true, leb, List, [], ◌∷◌, ◌++◌, length, get_or, drop, refl, ap, ◌∙◌, arith, leb-true}
use Rattle.measures.specs.Ranges.{most_energy}
use Rattle.measures.specs.Lists.{sum}
use Rattle.measures.proofs.RangeLaws.{In, within}
use Rattle.measures.proofs.ListLaws.{and_left, and_right, all_true, all_at, every_at, sum_at, table_at, table_is}
use Rattle.limits.specs.Units.{periods, most_capacity, most_days}
use Rattle.limits.specs.Limits.{hour_of, hour_limit, volume_limit}
use Rattle.limits.proofs.LimitLaws.{term-most, hour_most, volume-most}
use Rattle.matching.specs.Orders.{Row}
use Rattle.matching.specs.Memory.{flat_row, flat, written, row_at, rows_in}
use Rattle.book.specs.Book.{Figures, no_figures, EnrolledUnit, no_unit, Book, unit_of, figures_of}
use Rattle.book.specs.Fit.{nothing, raising_today, lowering_today, open_raising, open_lowering, hour_fits, term_of, volume_fits, unit_fits}
use Rattle.book.specs.Sound.{sound, unit_in}
use Rattle.book.specs.Layout.{DAYS, UNITS, figure_place, RAISED, LOWERED, VOLUME, word, figures_at, decode}
use Rattle.book.specs.Contract.{sound_in}
use Rattle.book.specs.Inner.RowsIn.{Small, small_figures}
use Rattle.book.proofs.Laws.Memory.RangeFacts.{units_held, unit_at_lem, days_held}
use Rattle.book.proofs.Laws.Answer.MadeLaws.{sound-book, sound_head}
use Rattle.book.proofs.Laws.Sound.RangedLaws.{sound_fits}

-- the figures of a unit in memory
pub figures_at_lem : (m : List ℕ) (u p : ℕ) → In 1 (word m UNITS) u → p < 24 * word m DAYS → figures_of (decode m) u p ≡ figures_at m (u - 1) p
figures_at_lem m u p h hp =
    ap (λ (t : EnrolledUnit). get_or t.figures p no_figures) (unit_at_lem m u h) ∙ table_at (periods (word m DAYS)) (figures_at m (u - 1)) p no_figures hp

-- what one unit's fit says of its figures
module _ (b : Book) (u : ℕ) (fit : unit_fits b u ≡ true) where
  hour_small : (p : ℕ) → p < periods b.rules.days → ((figures_of b u p).raised ≤ (unit_of b u).capacity) × ((figures_of b u p).lowered ≤ (unit_of b u).capacity)
  unfolding unit_fits hour_fits
  hour_small p hp =
      let t = all_true _ fit in
      let e = all_at (periods b.rules.days) (hour_fits b u nothing) p t.0 hp in
      let h : (figures_of b u p).held + (raising_today b u p + 0)
      ≤ hour_limit (unit_of b u).kind (unit_of b u).capacity (hour_of p) = leb-true _ _
      (and_left (leb ((figures_of b u p).held + (raising_today b u p + 0)) (hour_limit (unit_of b u).kind (unit_of b u).capacity (hour_of p)))
      (leb (lowering_today b u p + 0) (figures_of b u p).held) e) in
      let l : lowering_today b u p + 0 ≤ (figures_of b u p).held = leb-true _ _
      (and_right (leb ((figures_of b u p).held + (raising_today b u p + 0)) (hour_limit (unit_of b u).kind (unit_of b u).capacity (hour_of p)))
      (leb (lowering_today b u p + 0) (figures_of b u p).held) e) in
      let c = hour_most (unit_of b u).kind (unit_of b u).capacity (hour_of p) in
      (omega arith, omega arith)

  volume-small : (p : ℕ) → p < periods b.rules.days → (unit_of b u).capacity ≤ most_capacity → b.rules.days ≤ most_days → (figures_of b u p).volume
      ≤ most_energy * 6 / 5
  unfolding unit_fits volume_fits
  volume-small p hp hc hd =
      let t = all_true _ fit in
      let v : sum (periods b.rules.days) (λ z. (figures_of b u z).volume + (open_raising b u z + open_lowering b u z + (0 + 0)))
      ≤ volume_limit (unit_of b u).kind (term_of b u nothing) = leb-true _ _ t.1.1.0 in
      let s = sum_at (periods b.rules.days) (λ z. (figures_of b u z).volume + (open_raising b u z + open_lowering b u z + (0 + 0))) p hp in
      let c = term-most (unit_of b u).kind (unit_of b u).capacity (unit_of b u).asset b.rules.days hc hd in
      let w = volume-most (unit_of b u).kind (term_of b u nothing) c in
      omega arith

-- each unit of a sound book fits, and its capacity is in range
module _ (m : List ℕ) (e : sound_in m ≡ true) where
  capacity_most : (u : ℕ) → In 1 (word m UNITS) u → (unit_of (decode m) u).capacity ≤ most_capacity
  unfolding sound unit_in
  capacity_most u h =
      let t = all_true _ (sound-book m e) in
      let i = all_true _ (every_at (unit_in (decode m).rules.days) (decode m).units (u - 1) no_unit t.1.0 (omega (arith, units_held m))) in
      (within 1 most_capacity (unit_of (decode m) u).capacity i.1.0).1

  pub sound-small : Small m small_figures
  sound-small k p hk hp =
      let h : In 1 (word m UNITS) (k + 1) = omega arith in
      let d = days_held m in
      let hd = (sound_head m e).days in
      let c = capacity_most (k + 1) h in
      let a = hour_small (decode m) (k + 1) (sound_fits m e (k + 1) h) p (omega arith) in
      let v = volume-small (decode m) (k + 1) (sound_fits m e (k + 1) h) p (omega arith) c (omega arith) in
      let q : k + 1 - 1 ≡ k = omega arith in
      let f : figures_of (decode m) (k + 1) p ≡ figures_at m k p = figures_at_lem m (k + 1) p h hp ∙ ap (λ (t : ℕ). figures_at m t p) q in
      let x : (figures_of (decode m) (k + 1) p).raised ≡ word m (figure_place k p + RAISED) = ap (λ (z : Figures). z.raised) f in
      let y : (figures_of (decode m) (k + 1) p).lowered ≡ word m (figure_place k p + LOWERED) = ap (λ (z : Figures). z.lowered) f in
      let z : (figures_of (decode m) (k + 1) p).volume ≡ word m (figure_place k p + VOLUME) = ap (λ (z : Figures). z.volume) f in
      record { raised = omega arith; lowered = omega arith; volume = omega arith }

-- rows that were written, read back
abbrev pub no_row : Row
no_row = record { way = 0; period = 0; seller = 0; buyer = 0; quantity = 0; price = 0 }

row_same : {a b c d e f a' b' c' d' e' f' : ℕ} → a ≡ a' → b ≡ b' → c ≡ c' → d ≡ d' → e ≡ e' → f ≡ f'
    → ◌≡◌ {A = Row} (record { way = a; period = b; seller = c; buyer = d; quantity = e; price = f })
    (record { way = a'; period = b'; seller = c'; buyer = d'; quantity = e'; price = f' })
row_same ha hb hc hd he hf = rw (ha, hb, hc, hd, he, hf)

skip_row : (r : Row) (l : List ℕ) (i j : ℕ) → i ≡ suc (suc (suc (suc (suc (suc j))))) → get_or (flat_row r ++ l) i 0 ≡ get_or l j 0
skip_row r l i j e = rw e refl

row_read : (rs : List Row) (l : List ℕ) (k : ℕ) → k < length rs → row_at (flat rs ++ l) k ≡ get_or rs k no_row
unfolding flat
row_read [] l k h = absurd (omega arith)
row_read (r ∷ rs) l zero h = refl
row_read (r ∷ rs) l (suc k) h =
    row_same
    (skip_row r (flat rs ++ l) (6 * suc k) (6 * k) (omega arith))
    (skip_row r (flat rs ++ l) (6 * suc k + 1) (6 * k + 1) (omega arith))
    (skip_row r (flat rs ++ l) (6 * suc k + 2) (6 * k + 2) (omega arith))
    (skip_row r (flat rs ++ l) (6 * suc k + 3) (6 * k + 3) (omega arith))
    (skip_row r (flat rs ++ l) (6 * suc k + 4) (6 * k + 4) (omega arith))
    (skip_row r (flat rs ++ l) (6 * suc k + 5) (6 * k + 5) (omega arith))
    ∙ row_read rs l k (omega arith)

pub row_written : (d : List ℕ) (rs : List Row) (k : ℕ) → k < length rs → row_at (written d rs) k ≡ get_or rs k no_row
unfolding written
row_written d rs k h = row_read rs (drop (6 * length rs) d) k h

pub rows_written : (d : List ℕ) (rs : List Row) → rows_in (written d rs) (length rs) ≡ rs
unfolding rows_in
rows_written d rs = table_is (length rs) (row_at (written d rs)) rs no_row refl (λ k h. row_written d rs k h)
