-- The checks of an offer on a book in memory, one by one and in their chain.
use Rattle.std.proofs.Common.{◌≡◌, ℕ, ◌*◌, ◌<◌, ◌≤◌, Bool, true, false, not, ◌&&◌, eqb, leb, List, [], ◌∷◌, length, sym, refl, ◌∙◌, arith, eq-eqb, ne_eqb, le-leb}
use native.Mathlib.Decide.{ℕ_discrete}
use borrow.Author.Tests.{lt-leb}
use Rattle.measures.specs.Ranges.{between, most_energy}
use Rattle.measures.specs.Sharing.{total}
use Rattle.measures.proofs.ListLaws.{cond-true, cond-false, not_both}
use Rattle.measures.proofs.RangeLaws.{In, inside, outside}
use Rattle.limits.specs.Units.{periods}
use Rattle.book.specs.Book.{known}
use Rattle.book.specs.Sound.{energy_in, bilateral_sides}
use Rattle.book.specs.Layout.{DAYS, FLOOR, CEILING, GIVEN, UNITS, OFFERS, word, decode}
use Rattle.book.specs.Inner.Readable.{sides_in}
use Rattle.book.specs.Refusals.{Check, check, first_refusal, unknown_unit, unknown_partner, bad_price, bad_amounts, wrong_partner, offers_full, numbers_used}
use Rattle.book.proofs.Laws.Memory.RangeFacts.{units_held, offers_held, sides_alone, sides_known}

-- a chain whose first check applies, or does not
pub first-take : (n : ℕ) (c : Bool) (cs : List Check) → c ≡ true → first_refusal (check n c ∷ cs) ≡ n
unfolding first_refusal
first-take n c cs e = cond-true c n (first_refusal cs) e refl

pub first_skip : (n : ℕ) (c : Bool) (cs : List Check) → c ≡ false → first_refusal (check n c ∷ cs) ≡ first_refusal cs
unfolding first_refusal
first_skip n c cs e = cond-false c n (first_refusal cs) e refl

pub first_none : first_refusal [] ≡ 0
unfolding first_refusal
first_none = refl

-- names, price and amounts
module _ (m : List ℕ) where
  unit_known : (u : ℕ) → In 1 (word m UNITS) u → not (known (decode m) u) ≡ false
  unit_known u h = rw (units_held m) (rw (inside 1 (word m UNITS) u h) refl)

  unit_not : (u : ℕ) → (In 1 (word m UNITS) u → ⊥) → not (known (decode m) u) ≡ true
  unit_not u h = rw (units_held m) (rw (outside 1 (word m UNITS) u h) refl)

  partner_known : (v : ℕ) → v ≤ word m UNITS → (not (eqb v 0) && not (known (decode m) v)) ≡ false
  partner_known v h = go (ℕ_discrete v 0)
    where
      go : Dec (v ≡ 0) → (not (eqb v 0) && not (known (decode m) v)) ≡ false
      go (yes e) = rw (eq-eqb v 0 e) refl
      go (no e) = rw (ne_eqb v 0 e) (unit_known v (omega arith))

  pub partner_not : (v : ℕ) → word m UNITS < v → (not (eqb v 0) && not (known (decode m) v)) ≡ true
  partner_not v h = rw (ne_eqb v 0 (omega arith)) (unit_not v (omega arith))

  price_in : (q : ℕ) → In (word m FLOOR) (word m CEILING) q → not (between (decode m).rules.floor (decode m).rules.ceiling q) ≡ false
  unfolding decode
  price_in q h = rw (inside (word m FLOOR) (word m CEILING) q h) refl

  amounts_in : (l : List ℕ) → length l ≡ 24 * word m DAYS → In 1 most_energy (total l)
      → not (eqb (length l) (periods (decode m).rules.days) && energy_in (total l))
      ≡ false
  unfolding decode
  amounts_in l e h = rw (eq-eqb (length l) (24 * word m DAYS) e, inside 1 most_energy (total l) h) refl

  amounts_long : (l : List ℕ) → (length l ≡ 24 * word m DAYS → ⊥) → not (eqb (length l) (periods (decode m).rules.days) && energy_in (total l)) ≡ true
  unfolding decode
  amounts_long l e = rw (ne_eqb (length l) (24 * word m DAYS) e) refl

  amounts_out : (l : List ℕ) → length l ≡ 24 * word m DAYS → (In 1 most_energy (total l) → ⊥)
      → not (eqb (length l) (periods (decode m).rules.days) && energy_in (total l)) ≡ true
  unfolding decode
  amounts_out l e h = rw (eq-eqb (length l) (24 * word m DAYS) e, outside 1 most_energy (total l) h) refl

-- the first four checks
module _ (m : List ℕ) (u v q : ℕ) (l : List ℕ) where
  abbrev pub term_checks : List Check
  term_checks = unknown_unit (decode m) u ∷ unknown_partner (decode m) v ∷ bad_price (decode m) q ∷ bad_amounts (decode m) l ∷ []

  pub terms_partner : In 1 (word m UNITS) u → word m UNITS < v → 6 ≡ first_refusal term_checks
  terms_partner h k = sym (first_skip _ _ _ (unit_known m u h) ∙ first-take _ _ _ (partner_not m v k))

  module _ (h : In 1 (word m UNITS) u) (k : v ≤ word m UNITS) where
    module _ (p : In (word m FLOOR) (word m CEILING) q) where
      three : (b : Bool) → first_refusal (unknown_unit (decode m) u ∷ unknown_partner (decode m) v ∷ bad_price (decode m) q ∷ check 9 b ∷ [])
          ≡ first_refusal (check 9 b ∷ [])
      three b = first_skip _ _ _ (unit_known m u h) ∙ first_skip _ _ _ (partner_known m v k) ∙ first_skip _ _ _ (price_in m q p)

      pub terms_long : (length l ≡ 24 * word m DAYS → ⊥) → 9 ≡ first_refusal term_checks
      terms_long e = sym (three _ ∙ first-take _ _ _ (amounts_long m l e))

      pub terms_energy : length l ≡ 24 * word m DAYS → (In 1 most_energy (total l) → ⊥) → 9 ≡ first_refusal term_checks
      terms_energy e t = sym (three _ ∙ first-take _ _ _ (amounts_out m l e t))

      pub terms_pass : length l ≡ 24 * word m DAYS → In 1 most_energy (total l) → 0 ≡ first_refusal term_checks
      terms_pass e t = sym (three _ ∙ first_skip _ _ _ (amounts_in m l e t) ∙ first_none)

-- sides and room
module _ (m : List ℕ) (u v : ℕ) (k : v ≤ word m UNITS) where
  abbrev pub room_checks : List Check
  room_checks = wrong_partner (decode m) u v ∷ offers_full (decode m) ∷ numbers_used (decode m) ∷ []

  sides_wrong : sides_in (decode m) u v ≡ false → (not (eqb v 0) && not (bilateral_sides (decode m) u v)) ≡ true
  sides_wrong e = go (ℕ_discrete v 0)
    where
      go : Dec (v ≡ 0) → (not (eqb v 0) && not (bilateral_sides (decode m) u v)) ≡ true
      go (yes z) = absurd (not_both _ (sym (sides_alone (decode m) u v z)) e)
      go (no z) = rw (ne_eqb v 0 z, sides_known m u v z k, e) refl

  sides_fine : sides_in (decode m) u v ≡ true → (not (eqb v 0) && not (bilateral_sides (decode m) u v)) ≡ false
  sides_fine e = go (ℕ_discrete v 0)
    where
      go : Dec (v ≡ 0) → (not (eqb v 0) && not (bilateral_sides (decode m) u v)) ≡ false
      go (yes z) = rw (eq-eqb v 0 z) refl
      go (no z) = rw (ne_eqb v 0 z, sides_known m u v z k, e) refl

  full : 8 ≤ word m OFFERS → leb 8 (length (decode m).offers) ≡ true
  full h = rw (offers_held m) (le-leb 8 (word m OFFERS) h)

  place : word m OFFERS < 8 → leb 8 (length (decode m).offers) ≡ false
  place h = rw (offers_held m) (lt-leb 8 (word m OFFERS) h)

  used : 65_535 ≤ word m GIVEN → leb 65_535 (decode m).given ≡ true
  unfolding decode
  used h = le-leb 65_535 (word m GIVEN) h

  unused : word m GIVEN < 65_535 → leb 65_535 (decode m).given ≡ false
  unfolding decode
  unused h = lt-leb 65_535 (word m GIVEN) h

  pub room_sides : sides_in (decode m) u v ≡ false → 12 ≡ first_refusal room_checks
  room_sides e = sym (first-take _ _ _ (sides_wrong e))

  pub room_full : sides_in (decode m) u v ≡ true → 8 ≤ word m OFFERS → 17 ≡ first_refusal room_checks
  room_full e h = sym (first_skip _ _ _ (sides_fine e) ∙ first-take _ _ _ (full h))

  pub room_used : sides_in (decode m) u v ≡ true → word m OFFERS < 8 → 65_535 ≤ word m GIVEN → 18 ≡ first_refusal room_checks
  room_used e h g = sym (first_skip _ _ _ (sides_fine e) ∙ first_skip _ _ _ (place h) ∙ first-take _ _ _ (used g))

  pub room_pass : sides_in (decode m) u v ≡ true → word m OFFERS < 8 → word m GIVEN < 65_535 → 0 ≡ first_refusal room_checks
  room_pass e h g = sym (first_skip _ _ _ (sides_fine e) ∙ first_skip _ _ _ (place h) ∙ first_skip _ _ _ (unused g) ∙ first_none)
