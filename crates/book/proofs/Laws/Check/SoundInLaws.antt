-- Whether memory holds a sound book: the tests that the code makes, one by one, are the definition's.
use Rattle.std.proofs.Common.{◌≡◌, ℕ, ◌+◌, ◌<◌, ◌≤◌, Bool, true, false, not, ◌&&◌, ◌||◌, eqb, leb, List, length, sym, refl, ap, ◌∙◌, arith}
use Rattle.std.proofs.Common.{eq-eqb, eqb-true, le-leb, leb-true}
use Rattle.measures.specs.Lists.{every, all}
use Rattle.measures.proofs.ListLaws.{
  both_ways,
  and_true,
  and_left,
  and_right,
  all_true,
  holds-all,
  false_by,
  not_both,
  all_at,
  all_by,
  every-table,
  table-length,
}
use Rattle.book.specs.Book.{Figures, EnrolledUnit, unit_of}
use Rattle.book.specs.Fit.{unit_fits}
use Rattle.book.specs.Sound.{head_in, unit_in, offer_in, order_in, numbers_differ, one_direction, apart, each_two, sound}
use Rattle.book.specs.Layout.{DAYS, PHASE, UNITS, LAYOUT, layout_number, figures_start, book_words, word, unit_at, decode, laid_out}
use Rattle.book.specs.Contract.{sound_in}
use Rattle.book.specs.Inner.Readable.{Ranged, unit_fields_in, units_fields_in, marks_in, unit_whole, units_whole, pairs_fit}
use Rattle.book.proofs.Laws.Memory.RangeFacts.{head_facts, readable, units_held, unit_at_lem, phase_held}

-- a unit in memory is in range if its fields and its directions are
module _ (m : List ℕ) (k : ℕ) (h : k < word m UNITS) where
  at : unit_of (decode m) (k + 1) ≡ unit_at m (word m DAYS) k
  at = unit_at_lem m (k + 1) (omega arith, omega arith) ∙ ap (unit_at m (word m DAYS)) (omega arith)

  pub unit_parts : unit_in (word m DAYS) (unit_at m (word m DAYS) k) ≡ true → (unit_fields_in m k ≡ true) × (marks_in (decode m) (k + 1) ≡ true)
  unfolding unit_in unit_fields_in marks_in
  unit_parts e =
      let t = all_true _ e in (
        holds-all _ (t.0, (t.1.0, (t.1.1.0, tt))),
        ap (λ (u : EnrolledUnit). every (λ (f : Figures). leb f.mark 3) u.figures) at
            ∙ t.1.1.1.1.0,
      )

  pub unit_joined : unit_fields_in m k ≡ true → marks_in (decode m) (k + 1) ≡ true → unit_in (word m DAYS) (unit_at m (word m DAYS) k) ≡ true
  unfolding unit_in unit_fields_in marks_in
  unit_joined e w =
      let t = all_true _ e in
      holds-all _ (
        t.0,
        (
          t.1.0,
          (
            t.1.1.0,
            (
              eq-eqb _ _ (table-length _ _),
              (sym (ap (λ (u : EnrolledUnit). every (λ (f : Figures). leb f.mark 3) u.figures) at) ∙ w, tt),
            ),
          ),
        ),
      )

-- the tests in the order in which the code makes them
pub record SoundWords (m : List ℕ) : Type 0 where
  pub long : book_words (word m DAYS) ≤ length m
  pub layout : word m LAYOUT ≡ layout_number
  pub head : head_in (decode m) ≡ true
  pub units : units_fields_in m ≡ true
  pub offers : every (offer_in (decode m)) (decode m).offers ≡ true
  pub orders : every (order_in (decode m)) (decode m).orders ≡ true
  pub numbers : numbers_differ (decode m) ≡ true
  pub pairs : pairs_fit (word m PHASE) (decode m).orders ≡ true
  pub whole : units_whole (decode m) ≡ true

units_every : (m : List ℕ) → every (unit_in (decode m).rules.days) (decode m).units
    ≡ all (word m UNITS) (λ k. unit_in (word m DAYS) (unit_at m (word m DAYS) k))
unfolding decode
units_every m = every-table (unit_in (word m DAYS)) (word m UNITS) (unit_at m (word m DAYS))

pub sound_words : (m : List ℕ) → sound_in m ≡ true → SoundWords m
unfolding sound_in sound pairs_fit units_whole unit_whole
sound_words m e =
    let a = and_left (laid_out m) (sound (decode m)) e in
    let t = all_true _ (and_right (laid_out m) (sound (decode m)) e) in
    let us : all (word m UNITS) (λ k. unit_in (word m DAYS) (unit_at m (word m DAYS) k)) ≡ true = sym (units_every m) ∙ t.1.0 in
    let part : (k : ℕ) → k < word m UNITS → (unit_fields_in m k ≡ true)
    × (marks_in (decode m) (k + 1) ≡ true) = λ k h. unit_parts m k h (all_at (word m UNITS) (λ i. unit_in (word m DAYS) (unit_at m (word m DAYS) i)) k us h) in
    record {
      long = leb-true _ _ (and_left (leb (book_words (word m DAYS)) (length m)) (eqb (word m LAYOUT) layout_number) a);
      layout = eqb-true _ _ (and_right (leb (book_words (word m DAYS)) (length m)) (eqb (word m LAYOUT) layout_number) a);
      head = t.0;
      units = all_by (word m UNITS) (unit_fields_in m) (λ k h. (part k h).0);
      offers = t.1.1.0;
      orders = t.1.1.1.0;
      numbers = t.1.1.1.1.0;
      pairs = and_true (each_two one_direction (decode m).orders) _ t.1.1.1.1.1.0 (rw (phase_held m) at t.1.1.1.1.1.1.0);
      whole = all_by (length (decode m).units) (λ k. marks_in (decode m) (k + 1) && unit_fits (decode m) (k + 1))
          (λ k h. and_true (marks_in (decode m) (k + 1)) (unit_fits (decode m) (k + 1)) (part k (rw (units_held m) at h)).1
          (all_at (length (decode m).units) (λ i. unit_fits (decode m) (i + 1)) k t.1.1.1.1.1.1.1.0 h));
    }

pub sound-joined : (m : List ℕ) → SoundWords m → sound_in m ≡ true
unfolding sound_in sound pairs_fit units_whole unit_whole
sound-joined m s =
    let fit : (k : ℕ) → k < length (decode m).units → (marks_in (decode m) (k + 1) && unit_fits (decode m) (k + 1))
    ≡ true = λ k h. all_at (length (decode m).units) (λ i. marks_in (decode m) (i + 1) && unit_fits (decode m) (i + 1)) k s.whole h in
    and_true (laid_out m) (sound (decode m))
    (and_true (leb (book_words (word m DAYS)) (length m)) (eqb (word m LAYOUT) layout_number) (le-leb _ _ s.long) (eq-eqb _ _ s.layout))
    (holds-all _ (
      s.head,
      (
        units_every m ∙ all_by (word m UNITS) _ (λ k h. unit_joined m k h (all_at (word m UNITS) (unit_fields_in m) k s.units h)
            (and_left (marks_in (decode m) (k + 1)) (unit_fits (decode m) (k + 1)) (fit k (rw (units_held m) h)))),
        (
          s.offers,
          (
            s.orders,
            (
              s.numbers,
              (
                and_left (each_two one_direction (decode m).orders) (not (eqb (word m PHASE) 1) || each_two apart (decode m).orders) s.pairs,
                (
                  rw (phase_held m) (and_right (each_two one_direction (decode m).orders) (not (eqb (word m PHASE) 1)
                      || each_two apart (decode m).orders) s.pairs),
                  (all_by (length (decode m).units) _ (λ k h. and_right (marks_in (decode m) (k + 1)) (unit_fits (decode m) (k + 1)) (fit k h)), tt),
                ),
              ),
            ),
          ),
        ),
      ),
    ))

pub sound_fails : (m : List ℕ) → (SoundWords m → ⊥) → false ≡ sound_in m
sound_fails m n = sym (false_by _ (λ e. n (sound_words m e)))

-- orders that stand together and the fit of the units decide where all else holds
pub sound_by_open : (m : List ℕ) → book_words (word m DAYS) ≤ length m → word m LAYOUT ≡ layout_number → head_in (decode m) ≡ true → units_fields_in m ≡ true
    → every (offer_in (decode m)) (decode m).offers ≡ true
    → every (order_in (decode m)) (decode m).orders ≡ true → numbers_differ (decode m) ≡ true
    → (pairs_fit (word m PHASE) (decode m).orders && units_whole (decode m)) ≡ sound_in m
sound_by_open m l y h u f o n = go (pairs_fit (word m PHASE) (decode m).orders) (units_whole (decode m)) refl refl
  where
    go : (a b : Bool) → pairs_fit (word m PHASE) (decode m).orders ≡ a → units_whole (decode m) ≡ b → (a && b) ≡ sound_in m
    go true true p e = sym (sound-joined m (record { long = l; layout = y; head = h; units = u; offers = f; orders = o; numbers = n; pairs = p; whole = e }))
    go true false p e = sound_fails m (λ s. not_both _ s.whole e)
    go false b p e = sound_fails m (λ s. not_both _ s.pairs p)

-- all units, by places
pub units_by_places : (m : List ℕ) → units_whole (decode m) ≡ all (word m UNITS) (λ k. unit_whole (decode m) (k + 1))
unfolding units_whole
units_by_places m = ap (λ (n : ℕ). all n (λ k. unit_whole (decode m) (k + 1))) (units_held m)

-- too short, seen before the days are read
pub never_short : (m : List ℕ) → length m < figures_start → SoundWords m → ⊥
never_short m h s = let l = s.long in omega arith

-- what the tests passed give to those after them
pub ranged : (m : List ℕ) → book_words (word m DAYS) ≤ length m → head_in (decode m) ≡ true → units_fields_in m ≡ true
    → every (offer_in (decode m)) (decode m).offers ≡ true
    → every (order_in (decode m)) (decode m).orders ≡ true → Ranged m
ranged m l h u f o = record { readable = readable m (head_facts m h) l; units = u; offers = f; orders = o }

pub and_true-left : (a b : Bool) → a ≡ true → (a && b) ≡ b
and_true-left true b e = refl
and_true-left false b e = absurd (both_ways (sym e))
