-- The fit of a unit with what is open is that of the decoded book, and what it says of the unit's figures.
use Rattle.std.proofs.Common.{◌≡◌, ℕ, ◌+◌, ◌-◌, ◌<◌, true, cond, eqb, List, sym, ap, ◌∙◌, arith}
use Rattle.measures.specs.Lists.{all}
use Rattle.measures.proofs.ListLaws.{all_at, all_ext}
use Rattle.measures.proofs.RangeLaws.{In}
use Rattle.limits.specs.Units.{periods, generator}
use Rattle.book.specs.Book.{unit_of}
use Rattle.book.specs.Trades.{raises, lowers}
use Rattle.book.specs.Fit.{open_raising, open_lowering}
use Rattle.book.specs.Layout.{DAYS, UNITS, unit_place, word, decode}
use Rattle.book.specs.Contract.{sound_in}
use Rattle.book.specs.Inner.Readable.{Ranged, unit_whole, units_whole}
use Rattle.book.specs.Inner.Fitting.{unit_holds}
use Rattle.book.specs.Inner.Whole.{raising_direction, open_up, open_down}
use Rattle.book.proofs.Laws.Memory.RangeFacts.{kind_at}
use Rattle.book.proofs.Laws.Check.JoinLaws.{raises_by, lowers_by, direction_other, orders_open, offers_open, whole_is}
use Rattle.book.proofs.Laws.Check.SoundInLaws.{sound_words, units_by_places}
use Rattle.book.proofs.Laws.Check.VerdictLaws.{Tidy, tidy}

module _ (m : List ℕ) (k : ℕ) (h : k < word m UNITS) where
  known : In 1 (word m UNITS) (k + 1)
  known = (omega arith, omega arith)

  place : k + 1 - 1 ≡ k
  place = omega arith

  direction_of : raising_direction m k ≡ cond (generator (unit_of (decode m) (k + 1)).kind) 0 1
  unfolding raising_direction
  direction_of = ap (λ (i : ℕ). cond (generator (word m (unit_place i))) 0 1) (sym place)
      ∙ ap (λ (i : ℕ). cond (generator i) 0 1) (sym (kind_at m (k + 1) known))

  -- the direction that raises the unit, as the decoded book has it
  pub direction_is : (r : ℕ) → r ≡ cond (generator (unit_of (decode m) (k + 1)).kind) 0 1 → r ≡ raising_direction m k
  direction_is r e = e ∙ sym direction_of

  module _ (g : Ranged m) where
    up_is : (p : ℕ) → p < periods (word m DAYS) → open_up m k p ≡ open_raising (decode m) (k + 1) p
    unfolding open_up open_raising
    up_is p l =
        let few = g.readable.orders_to in
        let a = offers_open m (k + 1) p l in
        let b = orders_open m (k + 1) p (raises (unit_of (decode m) (k + 1)).kind) (raising_direction m k) (λ d. raises_by (unit_of (decode m) (k + 1)).kind d
        ∙ ap (eqb d) (sym direction_of)) few in
        omega arith

    down_is : (p : ℕ) → open_down m k p ≡ open_lowering (decode m) (k + 1) p
    unfolding open_down open_lowering
    down_is p =
        let few = g.readable.orders_to in
        sym (orders_open m (k + 1) p (lowers (unit_of (decode m) (k + 1)).kind) (1 - raising_direction m k) (λ d. lowers_by (unit_of (decode m) (k + 1)).kind d
        ∙ ap (eqb d) (sym (direction_other (generator (unit_of (decode m) (k + 1)).kind) (raising_direction m k) direction_of))) few)

    unit_is : unit_whole (decode m) (k + 1) ≡ unit_holds m k (open_up m k) (open_down m k)
    unit_is = rw place at (whole_is m (k + 1) known (open_up m k) (open_down m k) up_is (λ p l. down_is p))

-- all units
pub units_are : (m : List ℕ) → Ranged m → units_whole (decode m) ≡ all (word m UNITS) (λ k. unit_holds m k (open_up m k) (open_down m k))
units_are m g = units_by_places m ∙ all_ext (word m UNITS) _ _ (λ k h. unit_is m k h g)

-- a sound book has its marks and volumes in range
pub sound_tidy : (m : List ℕ) (k : ℕ) → sound_in m ≡ true → Ranged m → k < word m UNITS → Tidy m k
sound_tidy m k e g h =
    tidy m k (open_up m k) (open_down m k) g h
    (all_at (word m UNITS) (λ i. unit_holds m i (open_up m i) (open_down m i)) k (sym (units_are m g) ∙ (sound_words m e).whole) h)
