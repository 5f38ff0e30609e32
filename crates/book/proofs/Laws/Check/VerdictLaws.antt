-- What the pass over all periods of a unit says of its fit.
use Rattle.std.proofs.Common.{◌≡◌, ℕ, ◌+◌, ◌<◌, ◌≤◌, Bool, true, false, cond, eqb, ltb, leb, List, refl, sym, arith, ltb-true, ltb-false}
use Rattle.std.proofs.Common.{le-leb, leb-true, le-ltb, lt-ltb}
use borrow.Author.Tests.{lt-leb}
use Rattle.measures.specs.Lists.{sum, all}
use Rattle.measures.proofs.ListLaws.{false_by, not_both, and_true, and_left, and_right, all_true, holds-all, all_at, all_by, sum_at}
use Rattle.limits.specs.Units.{periods}
use Rattle.limits.specs.Limits.{hour_of, hour_limit}
use Rattle.book.specs.Refusals.{first_refusal}
use Rattle.book.specs.Layout.{DAYS, UNITS, unit_place, CAPACITY, figure_place, RAISED, LOWERED, MARK, VOLUME, word}
use Rattle.book.specs.Inner.Readable.{Ranged}
use Rattle.book.specs.Inner.Fitting.{mark_holds, hour_holds, term_part, volume_part, term_at, volume_at, unit_holds, most_low, SumsCame, UnitCame}
use Rattle.book.specs.Inner.Pass.{Low, UnitPass, unit_cell}
use Rattle.book.specs.declared.pass.Sums.{Sums}
use Rattle.book.proofs.Laws.Check.BoundLaws.{volume_at-most}

-- marks and volumes in range
pub record Tidy (m : List ℕ) (k : ℕ) : Type 0 where
  pub marks : all (periods (word m DAYS)) (mark_holds m k) ≡ true
  pub traded : (p : ℕ) → p < periods (word m DAYS) → Low (word m (figure_place k p + VOLUME))

-- what the sums come to where an hour is a fault, and where none is
pub hour_past : (m : List ℕ) (k : ℕ) (s : Sums) → most_low < s.bad → SumsCame m k s 19
unfolding first_refusal
hour_past m k s h = rw (lt-ltb most_low s.bad h)

module _ (m : List ℕ) (k : ℕ) (s : Sums) (low : s.bad ≤ most_low) where
  pub term_past : term_at m k < s.whole → SumsCame m k s 20
  unfolding first_refusal
  term_past h = rw (le-ltb most_low s.bad low, lt-ltb _ _ h)

  pub volume_past : s.whole ≤ term_at m k → volume_at m k < s.volume → SumsCame m k s 21
  unfolding first_refusal
  volume_past t h = rw (le-ltb most_low s.bad low, le-ltb _ _ t, lt-ltb _ _ h)

  pub nothing_past : s.whole ≤ term_at m k → s.volume ≤ volume_at m k → SumsCame m k s 0
  unfolding first_refusal
  nothing_past t v = rw (le-ltb most_low s.bad low, le-ltb _ _ t, le-ltb _ _ v)

module _ (m : List ℕ) (k : ℕ) (x y : ℕ → ℕ) where
  abbrev n : ℕ
  n = periods (word m DAYS)

  abbrev HourFacts : ℕ → Type 0
  HourFacts p =
      (word m (figure_place k p) + (word m (figure_place k p + RAISED) + x p) ≤ hour_limit (word m (unit_place k)) (word m (unit_place k + CAPACITY)) (hour_of p))
      × (word m (figure_place k p + LOWERED) + y p ≤ word m (figure_place k p))

  hour_facts : (p : ℕ) → hour_holds m k p (x p) (y p) ≡ true → HourFacts p
  unfolding hour_holds
  hour_facts p e =
      let a = leb (word m (figure_place k p) + (word m (figure_place k p + RAISED) + x p))
      (hour_limit (word m (unit_place k)) (word m (unit_place k + CAPACITY)) (hour_of p)) in
      let b = leb (word m (figure_place k p + LOWERED) + y p) (word m (figure_place k p)) in
      (leb-true _ _ (and_left a b e), leb-true _ _ (and_right a b e))

  hour_by : (p : ℕ) → HourFacts p → hour_holds m k p (x p) (y p) ≡ true
  unfolding hour_holds
  hour_by p f = and_true _ _ (le-leb _ _ f.0) (le-leb _ _ f.1)

  -- what the definition says, as facts
  record Whole : Type 0 where
    marks : (p : ℕ) → p < n → word m (figure_place k p + MARK) ≤ 3
    hours : (p : ℕ) → p < n → HourFacts p
    term : sum n (λ p. term_part m k p (x p)) ≤ term_at m k
    most : sum n (λ p. volume_part m k p (x p) (y p)) ≤ volume_at m k

  facts : unit_holds m k x y ≡ true → Whole
  unfolding unit_holds mark_holds
  facts t =
      let a = all_true _ t in
      record {
        marks = λ p h. leb-true _ _ (all_at n _ p a.0 h);
        hours = λ p h. hour_facts p (all_at n (λ p. hour_holds m k p (x p) (y p)) p a.1.0 h);
        term = leb-true _ _ a.1.1.0;
        most = leb-true _ _ a.1.1.1.0;
      }

  whole_by : Whole → unit_holds m k x y ≡ true
  unfolding unit_holds mark_holds
  whole_by w =
      holds-all _ (
        all_by _ _ (λ p h. le-leb _ _ (w.marks p h)),
        (
          all_by _ _ (λ p h. hour_by p (w.hours p h)),
          (
            le-leb _ _ w.term,
            (le-leb _ _ w.most, tt),
          ),
        ),
      )

  module _ (r : Ranged m) (u : k < word m UNITS) where
    traded-low : Whole → (p : ℕ) → p < n → Low (word m (figure_place k p + VOLUME))
    unfolding volume_part
    traded-low w p h =
        let s : word m (figure_place k p + VOLUME) + (x p + y p) ≤ sum n (λ i. volume_part m k i (x i) (y i)) = sum_at n
        (λ i. volume_part m k i (x i) (y i)) p h in
        let a = w.most in
        let b = volume_at-most m k r u in
        omega arith

    pub tidy : unit_holds m k x y ≡ true → Tidy m k
    unfolding mark_holds
    tidy t = let w = facts t in record { marks = all_by _ _ (λ p h. le-leb _ _ (w.marks p h)); traded = traded-low w }

    module _ (s : Sums) (p : UnitPass m k x y s) where
      abbrev bad : ℕ
      bad = s.bad

      abbrev marks : ℕ
      marks = s.marks

      abbrev whole : ℕ
      whole = s.whole

      abbrev volume : ℕ
      volume = s.volume

      low_by : ((i : ℕ) → i < n → HourFacts i) → ((i : ℕ) → i < n → Low (word m (figure_place k i + VOLUME))) → Low bad
      unfolding unit_cell
      low_by f t = p.faults.back (record { cells = λ i h. record { most = (f i h).0; least = (f i h).1; traded = t i h } })

      hours_in : Low bad → (i : ℕ) → i < n → HourFacts i
      unfolding unit_cell
      hours_in l i h = let c = (p.faults.there l).cells i h in (c.most, c.least)

      marks_low : Whole → marks < 4
      unfolding unit_cell
      marks_low w = p.marked.back (record { marks = λ i h. let a = w.marks i h in omega arith })

      marks_in_lem : marks < 4 → (i : ℕ) → i < n → word m (figure_place k i + MARK) ≤ 3
      unfolding unit_cell
      marks_in_lem l i h = let z : word m (figure_place k i + MARK) < 4 = (p.marked.there l).marks i h in omega arith

      term_is : Low bad → whole ≡ sum n (λ i. term_part m k i (x i))
      unfolding unit_cell term_part
      term_is l = p.term l

      most_is : Low bad → volume ≡ sum n (λ i. volume_part m k i (x i) (y i))
      unfolding unit_cell volume_part
      most_is l = p.most l

      unfit_bad : 1_099_511_627_775 < bad → false ≡ unit_holds m k x y
      unfit_bad h = sym (false_by _ (λ t. let w = facts t in let l = low_by w.hours (traded-low w) in omega arith))

      pub unfit_marks : 3 < marks → false ≡ unit_holds m k x y
      unfit_marks h = sym (false_by _ (λ t. let l = marks_low (facts t) in omega arith))

      module _ (t v : ℕ) (l : bad ≤ 1_099_511_627_775) (et : t ≡ term_at m k) (ev : v ≡ volume_at m k) where
        low : Low bad
        low = omega arith

        unfit_term : t < whole → false ≡ unit_holds m k x y
        unfit_term h = sym (false_by _ (λ z. let w = (facts z).term in let s = term_is low in omega arith))

        unfit_volume : v < volume → false ≡ unit_holds m k x y
        unfit_volume h = sym (false_by _ (λ z. let w = (facts z).most in let s = most_is low in omega arith))

        term_in : whole ≤ t → sum n (λ i. term_part m k i (x i)) ≤ term_at m k
        term_in a = let s = term_is low in omega arith

        most_in : volume ≤ v → sum n (λ i. volume_part m k i (x i) (y i)) ≤ volume_at m k
        most_in a = let s = most_is low in omega arith

        fit : marks ≤ 3 → whole ≤ t → volume ≤ v → true ≡ unit_holds m k x y
        fit h a b = sym (whole_by (record { marks = marks_in_lem (omega arith); hours = hours_in low; term = term_in a; most = most_in b }))

        -- the same with the number of what does not fit, where marks and volumes are in range
        module _ (g : Tidy m k) where
          hours-all : all n (λ i. hour_holds m k i (x i) (y i)) ≡ true
          hours-all = all_by n _ (λ i h. hour_by i (hours_in low i h))

          came_term : t < whole → UnitCame m k x y 20
          unfolding first_refusal
          came_term h =
              let s : term_at m k < sum n (λ i. term_part m k i (x i)) = let z = term_is low in omega arith in
              record { clean = λ c. rw (hours-all, lt-leb _ _ s); dirty = λ c. absurd (not_both _ g.marks c) }

          came_volume : whole ≤ t → v < volume → UnitCame m k x y 21
          unfolding first_refusal
          came_volume a h =
              let s : volume_at m k < sum n (λ i. volume_part m k i (x i) (y i)) = let z = most_is low in omega arith in
              record { clean = λ c. rw (hours-all, le-leb _ _ (term_in a), lt-leb _ _ s); dirty = λ c. absurd (not_both _ g.marks c) }

          came_fits : whole ≤ t → volume ≤ v → UnitCame m k x y 0
          unfolding first_refusal
          came_fits a b =
              record { clean = λ c. rw (hours-all, le-leb _ _ (term_in a), le-leb _ _ (most_in b)); dirty = λ c. absurd (not_both _ g.marks c) }

      came_bad : Tidy m k → 1_099_511_627_775 < bad → UnitCame m k x y 19
      unfolding first_refusal
      came_bad g h = record { clean = λ c. rw not-all; dirty = λ c. absurd (not_both _ g.marks c) }
        where
          not-all : all n (λ i. hour_holds m k i (x i) (y i)) ≡ false
          not-all =
              false_by _ (λ t.
              let l = low_by (λ i q. hour_facts i (all_at n (λ i. hour_holds m k i (x i) (y i)) i t q)) g.traded in
              omega arith)

      -- what the sums come to decides
      module _ (q : ℕ) (came : SumsCame m k s q) where
        pub sums_decide : marks ≤ 3 → eqb q 0 ≡ unit_holds m k x y
        unfolding first_refusal
        sums_decide h =
            go (ltb 1_099_511_627_775 bad) (ltb (term_at m k) whole) (ltb (volume_at m k) volume) refl refl refl came
          where
            go : (a b c : Bool) → ltb 1_099_511_627_775 bad ≡ a → ltb (term_at m k) whole ≡ b → ltb (volume_at m k) volume ≡ c
                → q ≡ cond (ltb 1_099_511_627_775 bad) 19 (cond (ltb (term_at m k) whole) 20 (cond (ltb (volume_at m k) volume) 21 0)) → eqb q 0 ≡ unit_holds m k x y
            go true b c ea eb ec e = rw (rw ea at e) (unfit_bad (ltb-true _ _ ea))
            go false true c ea eb ec e = rw (rw (ea, eb) at e) (unfit_term _ _ (ltb-false _ _ ea) refl refl (ltb-true _ _ eb))
            go false false true ea eb ec e = rw (rw (ea, eb, ec) at e) (unfit_volume _ _ (ltb-false _ _ ea) refl refl (ltb-true _ _ ec))
            go false false false ea eb ec e =
                rw (rw (ea, eb, ec) at e) (fit _ _ (ltb-false _ _ ea) refl refl h (ltb-false _ _ eb) (ltb-false _ _ ec))

        pub sums_came : Tidy m k → UnitCame m k x y q
        unfolding first_refusal
        sums_came g =
            go (ltb 1_099_511_627_775 bad) (ltb (term_at m k) whole) (ltb (volume_at m k) volume) refl refl refl came
          where
            go : (a b c : Bool) → ltb 1_099_511_627_775 bad ≡ a → ltb (term_at m k) whole ≡ b → ltb (volume_at m k) volume ≡ c
                → q ≡ cond (ltb 1_099_511_627_775 bad) 19 (cond (ltb (term_at m k) whole) 20 (cond (ltb (volume_at m k) volume) 21 0)) → UnitCame m k x y q
            go true b c ea eb ec e = rw (rw ea at e) (came_bad g (ltb-true _ _ ea))
            go false true c ea eb ec e = rw (rw (ea, eb) at e) (came_term _ _ (ltb-false _ _ ea) refl refl g (ltb-true _ _ eb))
            go false false true ea eb ec e =
                rw (rw (ea, eb, ec) at e) (came_volume _ _ (ltb-false _ _ ea) refl refl g (ltb-false _ _ eb) (ltb-true _ _ ec))
            go false false false ea eb ec e =
                rw (rw (ea, eb, ec) at e) (came_fits _ _ (ltb-false _ _ ea) refl refl g (ltb-false _ _ eb) (ltb-false _ _ ec))
