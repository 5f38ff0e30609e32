-- Laws of the curve: its checks by cases, a sound book's figures, and the points one after the other.
use Rattle.std.proofs.Common.{◌≡◌, ℕ, suc, ◌+◌, ◌-◌, ◌*◌, ◌/◌, ◌<◌, ◌≤◌, Bool, true, false, eqb, List, [], ◌∷◌, ◌++◌, length, get_or, take, drop, set, refl}
use Rattle.std.proofs.Common.{sym, ap, ◌∙◌, append_assoc, add-one, arith, length-set, take-append-drop, take-suc-set, drop-set-lt, ltb-false, ltb-true, le-ltb, lt-ltb, ne_eqb}
use borrow.Author.Tests.{not-false}
use Rattle.measures.proofs.RangeLaws.{In, inside, outside, within}
use Rattle.measures.specs.Ranges.{between}
use Rattle.measures.proofs.ListLaws.{table_at, cond-true, cond-false, and_true, both_ways}
use Rattle.limits.specs.Units.{periods, most_capacity}
use Rattle.limits.specs.Limits.{hour_of}
use Rattle.limits.proofs.LimitLaws.{hour_most}
use Rattle.matching.proofs.Laws.Lists.EachLaws.{each_at}
use Rattle.book.specs.Book.{Figures, EnrolledUnit, Book, no_unit, no_figures, unit_of, figures_of, net}
use Rattle.book.specs.Fit.{nothing}
use Rattle.book.specs.Sound.{sound}
use Rattle.book.specs.Refusals.{first_refusal}
use Rattle.book.specs.Curve.{Drawn, curve, curve_refusal, curve_checks, first_half, second_half, points_from, points}
use Rattle.book.specs.Layout.{DAYS, UNITS, figure_place, RAISED, LOWERED, word, figures_at, decode, laid_out, net_in}
use Rattle.std.proofs.Common.{Ok, Err, cond}
use Rattle.std.specs.Result.{IsErrAnd}
use Rattle.measures.specs.declared.refusals.Refusal.{Refusal}
use Rattle.measures.specs.Refused.{number_of}
use Rattle.measures.proofs.RefusedLaws.{number_some}
use Rattle.book.specs.Contract.{Answer, sound_in, curve_on, Curved}
use Rattle.book.specs.Inner.Readable.{Netted}
use Rattle.book.proofs.Laws.Memory.RangeFacts.{units_held, unit_at_lem, days_held}
use Rattle.book.proofs.Laws.Answer.MadeLaws.{sound-book, sound-laid, chain_sound, chain_unsound, handed_on}
use Rattle.book.proofs.Laws.Answer.RefusalLaws.{none_applies}
use Rattle.book.proofs.Laws.Sound.SoundLaws.{UnitRanges, Sound, sound_facts}
use Rattle.book.proofs.Laws.Sound.FitLaws.{Fits}

-- the checks by cases
module _ (m : List ℕ) (u day lent : ℕ) where
  pub no_such_unit : (In 1 (word m UNITS) u → ⊥) → 6 ≡ first_refusal (curve_checks (decode m) u day lent)
  unfolding first_refusal
  no_such_unit n = rw (units_held m, outside 1 (word m UNITS) u n)

  pub few_points_lem : In 1 (word m UNITS) u → lent < 48 → 7 ≡ first_refusal (curve_checks (decode m) u day lent)
  unfolding first_refusal
  few_points_lem h l = rw (units_held m, inside 1 (word m UNITS) u h, lt-ltb lent 48 l)

  pub no_such_day : In 1 (word m UNITS) u → 48 ≤ lent → word m DAYS ≤ day → 10 ≡ first_refusal (curve_checks (decode m) u day lent)
  unfolding first_refusal decode
  no_such_day h l d = rw (units_held m, inside 1 (word m UNITS) u h, le-ltb lent 48 l, le-ltb day (word m DAYS) d)

  pub drawn : In 1 (word m UNITS) u → 48 ≤ lent → day < word m DAYS → 0 ≡ first_refusal (curve_checks (decode m) u day lent)
  unfolding first_refusal decode
  drawn h l d = rw (units_held m, inside 1 (word m UNITS) u h, le-ltb lent 48 l, lt-ltb day (word m DAYS) d)

-- the figures of a unit, in memory
pub figures_at_lem : (m : List ℕ) (u p : ℕ) → In 1 (word m UNITS) u → p < periods (word m DAYS) → figures_of (decode m) u p ≡ figures_at m (u - 1) p
figures_at_lem m u p h l =
    ap (λ (x : EnrolledUnit). get_or x.figures p no_figures) (unit_at_lem m u h)
    ∙ table_at (periods (word m DAYS)) (figures_at m (u - 1)) p no_figures l

-- a sound book's figures come to a net
pub sound_netted : (m : List ℕ) (k : ℕ) → sound_in m ≡ true → k < word m UNITS → Netted m k
sound_netted m k e h = record { held = λ p l. (at p l).0; lowered = λ p l. (at p l).1 }
  where
    i : In 1 (word m UNITS) (k + 1)
    i = (omega arith, omega arith)

    s : Sound (decode m)
    s = sound_facts (decode m) (sound-book m e)

    f : Fits (decode m) (k + 1) nothing
    f = s.fits (k + 1) (rw (units_held m) i)

    r : UnitRanges (decode m).rules.days (unit_of (decode m) (k + 1))
    r = each_at (UnitRanges (decode m).rules.days) (decode m).units (k + 1 - 1) no_unit s.formed.units (rw (units_held m) (omega arith))

    at : (p : ℕ) → p < periods (word m DAYS) → (word m (figure_place k p) + word m (figure_place k p + RAISED) ≤ most_capacity)
        × (word m (figure_place k p + LOWERED) ≤ word m (figure_place k p))
    at p l =
        let lp : p < periods (decode m).rules.days = rw (days_held m) l in
        let a = f.raising p lp in
        let b = f.lowering p lp in
        let c = hour_most (unit_of (decode m) (k + 1)).kind (unit_of (decode m) (k + 1)).capacity (hour_of p) in
        let d = r.capacity in
        let q : k + 1 - 1 ≡ k = omega arith in
        let g : figures_of (decode m) (k + 1) p ≡ figures_at m k p = figures_at_lem m (k + 1) p i l ∙ ap (λ (x : ℕ). figures_at m x p) q in
        let x = ap (λ (y : Figures). y.held) g in
        let y = ap (λ (z : Figures). z.raised) g in
        let z = ap (λ (w : Figures). w.lowered) g in
        (omega arith, omega arith)

-- one hour more
pub points-more : (b : Book) (u p n : ℕ) → points_from b u p (n + 1) ≡ first_half (net (figures_of b u p)) ∷ second_half (net (figures_of b u p))
    ∷ points_from b u (p + 1) n
unfolding points_from
points-more b u p n = rw (add-one n, add-one p)

pub points_none : (b : Book) (u p : ℕ) → points_from b u p 0 ≡ []
unfolding points_from
points_none b u p = refl

-- where writing stands: the points before hour h, and those to come
pub record Drawing (b : Book) (u p : ℕ) (pts₀ pts : List ℕ) (h : ℕ) : Type 0 where
  pub at : h ≤ 24
  pub long : length pts ≡ length pts₀
  pub written : take (2 * h) pts ++ (points_from b u (p + h) (24 - h) ++ drop 48 pts) ≡ points_from b u p 24 ++ drop 48 pts₀

-- two stores, one behind the other
put_two : (l : List ℕ) (i v w : ℕ) (ys : List ℕ) → i + 1 < 48 → 48 ≤ length l → take (i + 2) (set (set l i v) (i + 1) w)
    ++ (ys ++ drop 48 (set (set l i v) (i + 1) w)) ≡ take i l ++ ((v ∷ w ∷ ys) ++ drop 48 l)
put_two l i v w ys h k =
    let a : i < length l = omega arith in
    let b : i + 1 < length (set l i v) = rw (length-set l i v) (omega arith) in
    let two : i + 2 ≡ suc (i + 1) = omega arith in
    let t1 : take (i + 1) (set l i v) ≡ take i l ++ (v ∷ []) = rw (add-one i) (take-suc-set l i v a) in
    let t2 : take (i + 2) (set (set l i v) (i + 1) w) ≡ take (i + 1) (set l i v) ++ (w ∷ []) = ap (λ (n : ℕ). take n (set (set l i v) (i + 1) w)) two
    ∙ take-suc-set (set l i v) (i + 1) w b in
    let d : drop 48 (set (set l i v) (i + 1) w) ≡ drop 48 l = drop-set-lt 48 (set l i v) (i + 1) w h ∙ drop-set-lt 48 l i v (omega arith) in
    rw (t2, t1, d) (append_assoc (take i l ++ (v ∷ [])) (w ∷ []) (ys ++ drop 48 l) ∙ append_assoc (take i l) (v ∷ []) (w ∷ (ys ++ drop 48 l)))

pub drawing_more : (b : Book) (u p : ℕ) (pts₀ pts : List ℕ) (h n : ℕ) → Drawing b u p pts₀ pts h → h < 24 → 48 ≤ length pts₀ → n
    ≡ net (figures_of b u (p + h))
    → Drawing b u p pts₀ (set (set pts (2 * h) (n / 2)) (2 * h + 1) (n - n / 2)) (h + 1)
drawing_more b u p pts₀ pts h n g l k e = record {
  at = omega arith;
  long = length-set (set pts (2 * h) (n / 2)) (2 * h + 1) (n - n / 2) ∙ length-set pts (2 * h) (n / 2) ∙ g.long;
  written =
      let ln = g.long in
      let q : 2 * (h + 1) ≡ 2 * h + 2 = omega arith in
      let r : 24 - h ≡ (24 - (h + 1)) + 1 = omega arith in
      let s : p + h + 1 ≡ p + (h + 1) = omega arith in
      let m : points_from b u (p + h) (24 - h) ≡ (n / 2) ∷ (n - n / 2) ∷ points_from b u (p + (h + 1)) (24 - (h + 1)) =
      ap (points_from b u (p + h)) r ∙ points-more b u (p + h) (24 - (h + 1)) ∙ rw (← e, s) in
      rw q (put_two pts (2 * h) (n / 2) (n - n / 2) (points_from b u (p + (h + 1)) (24 - (h + 1))) (omega arith) (omega arith))
      ∙ ap (λ (x : List ℕ). take (2 * h) pts ++ (x ++ drop 48 pts)) (sym m) ∙ g.written;
}

pub drawing_ends : (b : Book) (u p : ℕ) (pts₀ pts : List ℕ) (h : ℕ) → Drawing b u p pts₀ pts h → 24 ≤ h → pts ≡ points_from b u p 24 ++ drop 48 pts₀
drawing_ends b u p pts₀ pts h g l =
    let e : h ≡ 24 = (let a = g.at in omega arith) in
    let f = rw e at g.written in
    sym (take-append-drop 48 pts) ∙ ap (λ (x : List ℕ). take 48 pts ++ (x ++ drop 48 pts)) (sym (points_none b u (p + 24))) ∙ f

-- the net in memory is that of the book's figures
pub net-figures : (m : List ℕ) (k p : ℕ) → k < word m UNITS → p < periods (word m DAYS) → net_in m k p ≡ net (figures_of (decode m) (k + 1) p)
net-figures m k p h l =
    let q : k ≡ k + 1 - 1 = omega arith in
    ap (λ (x : ℕ). net (figures_at m x p)) q ∙ ap net (sym (figures_at_lem m (k + 1) p (omega arith, omega arith) l))

-- the contract of the curve: not a sound book, a check that applies, or the points
module _ (m pts : List ℕ) (u day : ℕ) where
  on_sound : sound_in m ≡ true → curve_on m u day (length pts) ≡ curve (decode m) u day (length pts)
  unfolding curve_on
  on_sound e = cond-true (laid_out m) (curve (decode m) u day (length pts)) _ (sound-laid m e) refl

  pub curved_refused : (r : Refusal) → curve_on m u day (length pts) ≡ record { refusal = number_of r; points = [] } → Curved m pts u day (Err r) pts
  curved_refused r e = record {
    answer = rw (e, ne_eqb (number_of r) 0 (number_some r)) refl;
    refused = λ h. refl;
    accepted = λ h. absurd (number_some r (sym (ap (λ (d : Drawn). d.refusal) e) ∙ h));
  }

  unsound_drawn : sound_in m ≡ false → curve_on m u day (length pts) ≡ record { refusal = 1; points = [] }
  unfolding sound_in curve_on curve curve_refusal
  unsound_drawn e = go (laid_out m) (sound (decode m)) refl refl
    where
      go : (a s : Bool) → laid_out m ≡ a → sound (decode m) ≡ s → curve_on m u day (length pts) ≡ record { refusal = 1; points = [] }
      go false s ea es = cond-false (laid_out m) (curve (decode m) u day (length pts)) _ ea refl
      go true false ea es = cond-true (laid_out m) (curve (decode m) u day (length pts)) _ ea
          (rw (chain_unsound (decode m) (curve_checks (decode m) u day (length pts)) es) refl)
      go true true ea es = both_ways (sym (and_true (laid_out m) (sound (decode m)) ea es) ∙ e)

  pub curved_unsound : (a : Answer) (r : Refusal) → IsErrAnd a (λ y. y ≡ r) → number_of r ≡ cond (sound_in m) 0 1 → Curved m pts u day a pts
  curved_unsound a r i e = go (sound_in m) refl e
    where
      go : (s : Bool) → sound_in m ≡ s → number_of r ≡ cond s 0 1 → Curved m pts u day a pts
      go true p q = absurd (number_some r q)
      go false p q =
          handed_on (λ x. Curved m pts u day x pts) a r i
          (curved_refused r (unsound_drawn p ∙ ap (λ (n : ℕ). record { refusal = n; points = [] }) (sym q)))

  pub curved_checked : (a : Answer) (r : Refusal) → IsErrAnd a (λ y. y ≡ r) → sound_in m ≡ true
      → number_of r ≡ first_refusal (curve_checks (decode m) u day (length pts)) → Curved m pts u day a pts
  unfolding curve curve_refusal
  curved_checked a r i e f =
      handed_on (λ x. Curved m pts u day x pts) a r i
      (curved_refused r
      (on_sound e
      ∙ rw (chain_sound (decode m) (curve_checks (decode m) u day (length pts)) (sound-book m e), ← f)
      (cond-false (eqb (number_of r) 0) _ _ (ne_eqb (number_of r) 0 (number_some r)) refl)))

  pub curved_drawn : (pts' : List ℕ) → sound_in m ≡ true → 0 ≡ first_refusal (curve_checks (decode m) u day (length pts)) → pts' ≡ points (decode m) u day
      ++ drop 48 pts → Curved m pts u day (Ok (record { number = 0; count = 0 })) pts'
  unfolding curve curve_refusal
  curved_drawn pts' e f w =
      let c : curve_on m u day (length pts) ≡ record { refusal = 0; points = points (decode m) u day } =
      on_sound e ∙ rw (chain_sound (decode m) (curve_checks (decode m) u day (length pts)) (sound-book m e), ← f) refl in
      record {
        answer = rw c refl;
        refused = λ h. absurd (h (ap (λ (d : Drawn). d.refusal) c));
        accepted = λ h. w ∙ ap (λ (d : Drawn). d.points ++ drop 48 pts) (sym c);
      }

-- what passed checks say
pub curve_passed : (m : List ℕ) (u day lent : ℕ) → 0 ≡ first_refusal (curve_checks (decode m) u day lent) → (In 1 (word m UNITS) u) × (48 ≤ lent) × (day < word m DAYS)
unfolding decode
curve_passed m u day lent e =
    let t = none_applies (curve_checks (decode m) u day lent) (omega arith, (omega arith, (omega arith, tt))) (sym e) in
    let k : between 1 (length (decode m).units) u ≡ true = not-false _ t.0 in
    (within 1 (word m UNITS) u (rw (units_held m) at k), ltb-false lent 48 t.1.0, ltb-true day (word m DAYS) (not-false _ t.1.1.0))
