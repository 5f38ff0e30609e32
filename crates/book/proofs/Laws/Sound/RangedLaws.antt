-- What a sound book in memory gives of its units: each word in range, today's directions, and the limits.
use Rattle.std.proofs.Common.{◌≡◌, ℕ, ◌+◌, ◌-◌, ◌<◌, true, List, length, arith}
use Rattle.measures.proofs.ListLaws.{all_true, holds-all, all_by, all_at, every_at, table_at}
use Rattle.measures.proofs.RangeLaws.{In}
use Rattle.book.specs.Book.{no_unit}
use Rattle.book.specs.Fit.{unit_fits}
use Rattle.book.specs.Sound.{sound, unit_in}
use Rattle.book.specs.Layout.{DAYS, UNITS, word, unit_at, decode}
use Rattle.book.specs.Inner.Readable.{Ranged, unit_fields_in, marks_in}
use Rattle.book.specs.Contract.{sound_in}
use Rattle.book.proofs.Laws.Memory.RangeFacts.{units_held, unit_at_lem}
use Rattle.book.proofs.Laws.Answer.MadeLaws.{sound-book, sound_readable}

module _ (m : List ℕ) (s : sound_in m ≡ true) where
  -- each unit is in range, with today's directions
  unit_in_lem : (k : ℕ) → k < word m UNITS → unit_in (word m DAYS) (unit_at m (word m DAYS) k) ≡ true
  unfolding sound decode
  unit_in_lem k h =
      let t = all_true _ (sound-book m s) in
      let l : k < length (decode m).units = omega (arith, units_held m) in
      rw (table_at (word m UNITS) (unit_at m (word m DAYS)) k no_unit h) at (every_at (unit_in (word m DAYS)) (decode m).units k no_unit t.1.0 l)

  fields : (k : ℕ) → k < word m UNITS → unit_fields_in m k ≡ true
  unfolding unit_in unit_fields_in
  fields k h = let t = all_true _ (unit_in_lem k h) in holds-all _ (t.0, (t.1.0, (t.1.1.0, tt)))

  pub sound_ranged : Ranged m
  unfolding sound
  sound_ranged =
      let t = all_true _ (sound-book m s) in
      record { readable = sound_readable m s; units = all_by (word m UNITS) (unit_fields_in m) fields; offers = t.1.1.0; orders = t.1.1.1.0 }

  module _ (u : ℕ) (h : In 1 (word m UNITS) u) where
    pub sound_marks : marks_in (decode m) u ≡ true
    unfolding marks_in unit_in
    sound_marks = let t = all_true _ (unit_in_lem (u - 1) (omega arith)) in rw (unit_at_lem m u h) t.1.1.1.1.0

    pub sound_fits : unit_fits (decode m) u ≡ true
    unfolding sound
    sound_fits =
        let t = all_true _ (sound-book m s) in
        let e : u - 1 + 1 ≡ u = omega arith in
        rw e at (all_at (length (decode m).units) (λ k. unit_fits (decode m) (k + 1)) (u - 1) t.1.1.1.1.1.1.1.0 (omega (arith, units_held m)))
