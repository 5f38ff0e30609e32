-- What "fits" says, and when a unit still fits after a call (specs/Fit.antt).
use Rattle.std.proofs.Common.{◌≡◌, ℕ, ◌+◌, ◌<◌, ◌≤◌, Bool, true, false, ◌||◌, eqb, leb, refl, ap, le_trans, arith, eqb-true, le-leb, leb-true}
use Rattle.measures.specs.Lists.{sum}
use Rattle.measures.proofs.ListLaws.{and_true, and_left, and_right, or_other, all_true, holds-all, all_at, all_by, sum_mono}
use Rattle.limits.specs.Units.{periods}
use Rattle.limits.specs.Limits.{hour_of, hour_limit, term_limit, volume_limit}
use Rattle.book.specs.Book.{Book, unit_of, figures_of}
use Rattle.book.specs.Fit.{
  Declaration,
  nothing,
  open_raising,
  open_lowering,
  raising_today,
  lowering_today,
  hour_fits,
  hours_fit,
  term_fits,
  volume_fits,
  unit_fits,
}

-- the figures that the limits bound, with a declaration added
module _ (b : Book) (u : ℕ) (d : Declaration) (p : ℕ) where
  abbrev pub raised_to : ℕ
  raised_to = (figures_of b u p).held + (raising_today b u p + d.raising p)

  abbrev pub lowered_to : ℕ
  lowered_to = lowering_today b u p + d.lowering p

  abbrev pub volume_to : ℕ
  volume_to = (figures_of b u p).volume + (open_raising b u p + open_lowering b u p + (d.raising p + d.lowering p))

abbrev pub hour_of_unit : Book → ℕ → ℕ → ℕ
hour_of_unit b u p = hour_limit (unit_of b u).kind (unit_of b u).capacity (hour_of p)

abbrev pub term_of_unit : Book → ℕ → ℕ
term_of_unit b u = term_limit (unit_of b u).kind (unit_of b u).capacity (unit_of b u).asset b.rules.days

-- unit u fits with the declaration d added
pub record Fits (b : Book) (u : ℕ) (d : Declaration) : Type 0 where
  pub raising : (p : ℕ) → p < periods b.rules.days → raised_to b u d p ≤ hour_of_unit b u p
  pub lowering : (p : ℕ) → p < periods b.rules.days → lowered_to b u d p ≤ (figures_of b u p).held
  pub term : sum (periods b.rules.days) (raised_to b u d) ≤ term_of_unit b u
  pub volume : sum (periods b.rules.days) (volume_to b u d) ≤ volume_limit (unit_of b u).kind (term_of_unit b u)

module _ (b : Book) (u : ℕ) (d : Declaration) where
  pub hour_fits_lem : (p : ℕ) → hour_fits b u d p ≡ true → (raised_to b u d p ≤ hour_of_unit b u p) × (lowered_to b u d p ≤ (figures_of b u p).held)
  unfolding hour_fits
  hour_fits_lem p e =
      let x = leb (raised_to b u d p) (hour_of_unit b u p) in
      let y = leb (lowered_to b u d p) (figures_of b u p).held in
      (leb-true _ _ (and_left x y e), leb-true _ _ (and_right x y e))

  pub term_fits_lem : term_fits b u d ≡ true → sum (periods b.rules.days) (raised_to b u d) ≤ term_of_unit b u
  unfolding term_fits
  term_fits_lem e = leb-true _ _ e

  pub volume_fits_lem : volume_fits b u d ≡ true → sum (periods b.rules.days) (volume_to b u d) ≤ volume_limit (unit_of b u).kind (term_of_unit b u)
  unfolding volume_fits
  volume_fits_lem e = leb-true _ _ e

  -- what the three passed checks say, of a unit that fits
  pub fits_with : Fits b u nothing → hours_fit b u d ≡ true → term_fits b u d ≡ true → volume_fits b u d ≡ true → Fits b u d
  unfolding hours_fit
  fits_with f hours term volume =
      record { raising = λ p h. (at p h).0; lowering = λ p h. (at p h).1; term = term_fits_lem term; volume = volume_fits_lem volume }
    where
      at : (p : ℕ) → p < periods b.rules.days → (raised_to b u d p ≤ hour_of_unit b u p) × (lowered_to b u d p ≤ (figures_of b u p).held)
      at p h = go (eqb (d.raising p + d.lowering p) 0) refl
        where
          test : (eqb (d.raising p + d.lowering p) 0 || hour_fits b u d p) ≡ true
          test = all_at (periods b.rules.days) (λ p. eqb (d.raising p + d.lowering p) 0 || hour_fits b u d p) p hours h

          go : (t : Bool) → eqb (d.raising p + d.lowering p) 0 ≡ t → (raised_to b u d p ≤ hour_of_unit b u p) × (lowered_to b u d p ≤ (figures_of b u p).held)
          go true e =
              let z : d.raising p + d.lowering p ≡ 0 = eqb-true _ _ e in
              let r : raised_to b u nothing p ≤ hour_of_unit b u p = f.raising p h in
              let l : lowered_to b u nothing p ≤ (figures_of b u p).held = f.lowering p h in
              (omega arith, omega arith)
          go false e = hour_fits_lem p (or_other (eqb (d.raising p + d.lowering p) 0) (hour_fits b u d p) test e)

module _ (b : Book) (u : ℕ) where
  pub unit_fits_lem : unit_fits b u ≡ true → Fits b u nothing
  unfolding unit_fits
  unit_fits_lem e =
      let t = all_true _ e in
      record {
        raising = λ p h. (hour_fits_lem b u nothing p (all_at (periods b.rules.days) (hour_fits b u nothing) p t.0 h)).0;
        lowering = λ p h. (hour_fits_lem b u nothing p (all_at (periods b.rules.days) (hour_fits b u nothing) p t.0 h)).1;
        term = term_fits_lem b u nothing t.1.0;
        volume = volume_fits_lem b u nothing t.1.1.0;
      }

  pub fits_unit : Fits b u nothing → unit_fits b u ≡ true
  unfolding unit_fits hour_fits term_fits volume_fits
  fits_unit f =
      holds-all _ (all_by (periods b.rules.days) (hour_fits b u nothing) hour, (le-leb _ _ f.term, (le-leb _ _ f.volume, tt)))
    where
      hour : (p : ℕ) → p < periods b.rules.days → hour_fits b u nothing p ≡ true
      hour p h =
          and_true (leb (raised_to b u nothing p) (hour_of_unit b u p)) (leb (lowered_to b u nothing p) (figures_of b u p).held)
          (le-leb _ _ (f.raising p h)) (le-leb _ _ (f.lowering p h))

-- from b to b' unit u rises and trades no more than d says, and still holds what it lowers
pub record Moved (b b' : Book) (u : ℕ) (d : Declaration) : Type 0 where
  pub days : b'.rules.days ≡ b.rules.days
  pub kind : (unit_of b' u).kind ≡ (unit_of b u).kind
  pub capacity : (unit_of b' u).capacity ≡ (unit_of b u).capacity
  pub asset : (unit_of b' u).asset ≡ (unit_of b u).asset
  pub raising : (p : ℕ) → p < periods b.rules.days → raised_to b' u nothing p ≤ raised_to b u d p
  pub lowering : (p : ℕ) → p < periods b.rules.days → lowered_to b u d p ≤ (figures_of b u p).held → lowered_to b' u nothing p ≤ (figures_of b' u p).held
  pub volume : (p : ℕ) → p < periods b.rules.days → volume_to b' u nothing p ≤ volume_to b u d p

pub fits_after : (b b' : Book) (u : ℕ) (d : Declaration) → Moved b b' u d → Fits b u d → Fits b' u nothing
fits_after b b' u d m f =
    record {
      raising = λ p h. rw (m.kind, m.capacity) (le_trans (m.raising p (before p h)) (f.raising p (before p h)));
      lowering = λ p h. m.lowering p (before p h) (f.lowering p (before p h));
      term = omega (
        arith,
        term_same,
        days (raised_to b' u nothing),
        sum_mono (periods b.rules.days) (raised_to b' u nothing) (raised_to b u d)
            m.raising,
        f.term,
      );
      volume = omega (
        arith,
        volume_same,
        days (volume_to b' u nothing),
        sum_mono (periods b.rules.days) (volume_to b' u nothing) (volume_to b u d)
            m.volume,
        f.volume,
      );
    }
  where
    before : (p : ℕ) → p < periods b'.rules.days → p < periods b.rules.days
    before p h = rw m.days at h

    days : (f : ℕ → ℕ) → sum (periods b'.rules.days) f ≡ sum (periods b.rules.days) f
    days f = ap (λ (n : ℕ). sum (periods n) f) m.days

    term_same : term_of_unit b' u ≡ term_of_unit b u
    term_same = cc (m.days, m.kind, m.capacity, m.asset)

    volume_same : volume_limit (unit_of b' u).kind (term_of_unit b' u) ≡ volume_limit (unit_of b u).kind (term_of_unit b u)
    volume_same = cc (m.kind, term_same)
