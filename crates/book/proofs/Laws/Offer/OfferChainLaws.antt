-- Chains of checks, and what the checks of an offer leave where none applies.
use Rattle.std.proofs.Common.{◌≡◌, ℕ, ◌*◌, ◌<◌, ◌≤◌, Bool, true, false, cond, not, ◌&&◌, eqb}
use Rattle.std.proofs.Common.{List, [], ◌∷◌, ◌++◌, length, sym, refl, ap, ◌∙◌, arith, eq-eqb, eqb-true, leb-false}
use native.Mathlib.Decide.{dec_lt}
use borrow.Author.Tests.{not-false}
use Rattle.measures.specs.Ranges.{most_energy}
use Rattle.measures.specs.Lists.{every, Each}
use Rattle.measures.specs.Sharing.{total}
use Rattle.measures.proofs.ListLaws.{cond-false, not_both, and_left, and_right}
use Rattle.measures.proofs.RangeLaws.{In, within}
use Rattle.limits.specs.Units.{periods}
use Rattle.book.specs.Book.{Book, known}
use Rattle.book.specs.Sound.{energy_in}
use Rattle.book.specs.Layout.{DAYS, UNITS, OFFERS, word, decode}
use Rattle.book.specs.Refusals.{
  Check,
  first_refusal,
  unknown_unit,
  unknown_partner,
  bad_price,
  bad_amounts,
  wrong_partner,
  offers_full,
  numbers_used,
  hour_misfit,
  term_misfit,
  volume_misfit,
}
use Rattle.book.specs.Offer.{offer_checks, raising_amounts}
use Rattle.book.proofs.Laws.Memory.RangeFacts.{units_held, offers_held}
use Rattle.book.proofs.Laws.Offer.OfferCheckLaws.{partner_not}

-- a chain that gives 0 has no check that applies, since no check has number 0
pub first_passed : (cs : List Check) → every (λ (c : Check). not (eqb c.number 0)) cs ≡ true → first_refusal cs ≡ 0
    → Each (λ (c : Check). c.applies ≡ false) cs
unfolding first_refusal
first_passed [] h e = tt
first_passed (c ∷ cs) h e =
    go c.applies refl e (λ z. first_passed cs (and_right (not (eqb c.number 0)) (every (λ (d : Check). not (eqb d.number 0)) cs) h) z)
  where
    go : (b : Bool) → c.applies ≡ b → cond b c.number (first_refusal cs) ≡ 0 → (first_refusal cs ≡ 0 → Each (λ (d : Check). d.applies ≡ false) cs)
        → (c.applies ≡ false) × Each (λ (d : Check). d.applies ≡ false) cs
    go true eb z ih =
        absurd (not_both _ (and_left (not (eqb c.number 0)) (every (λ (d : Check). not (eqb d.number 0)) cs) h) (ap not (eq-eqb c.number 0 z)))
    go false eb z ih = (eb, ih z)

-- behind checks that do not apply the rest decides
pub first_go : (cs ds : List Check) → Each (λ (c : Check). c.applies ≡ false) cs → first_refusal (cs ++ ds) ≡ first_refusal ds
unfolding first_refusal
first_go [] ds h = refl
first_go (c ∷ cs) ds h = cond-false c.applies c.number (first_refusal (cs ++ ds)) h.0 (first_go cs ds h.1)

-- a check that applies decides
pub first_stop : (cs ds : List Check) → (first_refusal cs ≡ 0 → ⊥) → first_refusal (cs ++ ds) ≡ first_refusal cs
unfolding first_refusal
first_stop [] ds n = absurd (n refl)
first_stop (c ∷ cs) ds n = go c.applies n (λ k. first_stop cs ds k)
  where
    go : (b : Bool) → (cond b c.number (first_refusal cs) ≡ 0 → ⊥) → ((first_refusal cs ≡ 0 → ⊥) → first_refusal (cs ++ ds) ≡ first_refusal cs)
        → cond b c.number (first_refusal (cs ++ ds)) ≡ cond b c.number (first_refusal cs)
    go true k ih = refl
    go false k ih = ih k

-- the three parts of an offer's checks
abbrev pub terms_of : Book → ℕ → ℕ → ℕ → List ℕ → List Check
terms_of b u v q l = unknown_unit b u ∷ unknown_partner b v ∷ bad_price b q ∷ bad_amounts b l ∷ []

abbrev pub room_of : Book → ℕ → ℕ → List Check
room_of b u v = wrong_partner b u v ∷ offers_full b ∷ numbers_used b ∷ []

abbrev pub fit_of : Book → ℕ → List ℕ → List Check
fit_of b u l = hour_misfit b u (raising_amounts l) ∷ term_misfit b u (raising_amounts l) ∷ volume_misfit b u (raising_amounts l) ∷ []

module _ (b : Book) (u v q : ℕ) (l : List ℕ) where
  pub offer_terms_lem : (r : ℕ) → r ≡ first_refusal (terms_of b u v q l) → (r ≡ 0 → ⊥) → r ≡ first_refusal (offer_checks b u v q l)
  offer_terms_lem r e n = e ∙ sym (first_stop (terms_of b u v q l) (room_of b u v ++ fit_of b u l) (λ z. n (e ∙ z)))

  terms_free : first_refusal (terms_of b u v q l) ≡ 0 → Each (λ (c : Check). c.applies ≡ false) (terms_of b u v q l)
  terms_free z = first_passed (terms_of b u v q l) refl z

  -- t, r and f are what the parts came to
  module _ (t : ℕ) (et : t ≡ first_refusal (terms_of b u v q l)) (z : t ≡ 0) (r : ℕ) (er : r ≡ first_refusal (room_of b u v)) where
    pub offer_room_lem : (r ≡ 0 → ⊥) → r ≡ first_refusal (offer_checks b u v q l)
    offer_room_lem n =
        er ∙ sym (first_stop (room_of b u v) (fit_of b u l) (λ y. n (er ∙ y)))
        ∙ sym (first_go (terms_of b u v q l) (room_of b u v ++ fit_of b u l) (terms_free (sym et ∙ z)))

    pub offer_fit_lem : r ≡ 0 → (f : ℕ) → f ≡ first_refusal (fit_of b u l) → f ≡ first_refusal (offer_checks b u v q l)
    offer_fit_lem y f ef =
        ef ∙ sym (first_go (room_of b u v) (fit_of b u l) (first_passed (room_of b u v) refl (sym er ∙ y)))
        ∙ sym (first_go (terms_of b u v q l) (room_of b u v ++ fit_of b u l) (terms_free (sym et ∙ z)))

-- what the first part leaves
pub record Terms (m : List ℕ) (u v : ℕ) (l : List ℕ) : Type 0 where
  pub unit : In 1 (word m UNITS) u
  pub partner : v ≤ word m UNITS
  pub whole : length l ≡ 24 * word m DAYS
  pub energy : In 1 most_energy (total l)

amounts_are : (m l : List ℕ) → not (eqb (length l) (periods (decode m).rules.days) && energy_in (total l)) ≡ false → (length l ≡ 24 * word m DAYS)
    × In 1 most_energy (total l)
unfolding decode
amounts_are m l e =
    let t : (eqb (length l) (24 * word m DAYS) && energy_in (total l)) ≡ true = not-false _ e in (
      eqb-true (length l) (24 * word m DAYS) (and_left (eqb (length l) (24 * word m DAYS)) (energy_in (total l)) t),
      within 1 most_energy (total l)
          (and_right (eqb (length l) (24 * word m DAYS)) (energy_in (total l)) t),
    )

pub terms_left : (m : List ℕ) (u v q : ℕ) (l : List ℕ) (r : ℕ) → r ≡ first_refusal (terms_of (decode m) u v q l) → r ≡ 0 → Terms m u v l
terms_left m u v q l r e z =
    let t = terms_free (decode m) u v q l (sym e ∙ z) in
    let k : known (decode m) u ≡ true = not-false _ t.0 in
    let a = amounts_are m l t.1.1.1.0 in
    record {
      unit = within 1 (word m UNITS) u (rw (units_held m) at k);
      partner = go t.1.0 (dec_lt (word m UNITS) v);
      whole = a.0;
      energy = a.1;
    }
  where
    go : (not (eqb v 0) && not (known (decode m) v)) ≡ false → Dec (word m UNITS < v) → v ≤ word m UNITS
    go f (yes h) = absurd (not_both _ (partner_not m v h) f)
    go f (no h) = omega arith

-- where the checks of an offer give 0 there is a place, and an amount for each period
pub offer_passed : (m : List ℕ) (u v q : ℕ) (l : List ℕ) → 0 ≡ first_refusal (offer_checks (decode m) u v q l) → (word m OFFERS < 8) × (length l ≡ 24 * word m DAYS)
offer_passed m u v q l e =
    let t = first_passed (offer_checks (decode m) u v q l) refl (sym e) in
    let f : length (decode m).offers < 8 = leb-false 8 (length (decode m).offers) t.1.1.1.1.1.0 in
    (rw (offers_held m) at f, (amounts_are m l t.1.1.1.0).0)
