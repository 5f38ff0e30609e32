-- The checks of a take on a sound book in memory, one by one.
use Rattle.std.proofs.Common.{◌≡◌, ℕ, ◌+◌, ◌<◌, ◌≤◌, min, Bool, true, false, cond, not, ltb, List, [], ◌∷◌, ◌++◌, None, sym, refl, ap, ◌∙◌, arith, le-ltb}
use Rattle.measures.specs.Ranges.{most_energy}
use Rattle.measures.specs.Lists.{Each, table}
use Rattle.measures.specs.Sharing.{total}
use Rattle.measures.proofs.RangeLaws.{In, inside}
use Rattle.measures.proofs.ListLaws.{all_true, all_at}
use Rattle.limits.specs.Units.{periods}
use Rattle.book.specs.Book.{OpenOffer, known, offer_of, offer_open}
use Rattle.book.specs.Sound.{sound, energy_in, offer_in}
use Rattle.book.specs.Refusals.{Check, check, first_refusal, can_take}
use Rattle.book.specs.Layout.{DAYS, UNITS, OFFERS, offer_place, UNIT, word, amount_at, offer_at, decode}
use Rattle.book.specs.Contract.{sound_in}
use Rattle.book.specs.Inner.RowsIn.{takes, party_checks, OpenAt}
use Rattle.book.specs.Inner.Search.{OfferHas, OfferFound}
use Rattle.book.proofs.Laws.Memory.RangeFacts.{units_held, OfferWords, offer_facts, offers_every}
use Rattle.book.proofs.Laws.Answer.MadeLaws.{sound-book, sound_readable}
use Rattle.book.proofs.Laws.Take.FoundLaws.{found_offer, found_none}

-- a chain of checks
pub first_hit : (n : ℕ) (b : Bool) (cs : List Check) → b ≡ true → n ≡ first_refusal (check n b ∷ cs)
unfolding first_refusal
first_hit n b cs e = rw e refl

pub first_skip : (n : ℕ) (b : Bool) (cs : List Check) {r : ℕ} → b ≡ false → r ≡ first_refusal cs → r ≡ first_refusal (check n b ∷ cs)
unfolding first_refusal
first_skip n b cs e h = rw e h

abbrev pub AllFalse : List Check → Type 0
AllFalse [] = Unit {0}
AllFalse (c ∷ cs) = (c.applies ≡ false) × AllFalse cs

pub all-false : (cs : List Check) → Each (λ (c : Check). c.number ≡ 0 → ⊥) cs → 0 ≡ first_refusal cs → AllFalse cs
unfolding first_refusal
all-false [] n e = tt
all-false (c ∷ cs) n e = go (λ g. all-false cs n.1 g) c.applies refl e
  where
    go : (0 ≡ first_refusal cs → AllFalse cs) → (b : Bool) → c.applies ≡ b → 0 ≡ cond b c.number (first_refusal cs) → (c.applies ≡ false) × AllFalse cs
    go ih true f g = absurd (n.0 (sym g))
    go ih false f g = (f, ih g)

pub first-after : (cs ds : List Check) → AllFalse cs → first_refusal ds ≡ first_refusal (cs ++ ds)
unfolding first_refusal
first-after [] ds f = refl
first-after (c ∷ cs) ds f = rw f.0 (first-after cs ds f.1)

pub first-before : (cs ds : List Check) → (first_refusal cs ≡ 0 → ⊥) → first_refusal cs ≡ first_refusal (cs ++ ds)
unfolding first_refusal
first-before [] ds n = absurd (n refl)
first-before (c ∷ cs) ds n = go (λ g. first-before cs ds g) c.applies refl n
  where
    go : ((first_refusal cs ≡ 0 → ⊥) → first_refusal cs ≡ first_refusal (cs ++ ds)) → (b : Bool) → c.applies ≡ b → (cond b c.number (first_refusal cs) ≡ 0 → ⊥)
        → cond c.applies c.number (first_refusal cs) ≡ cond c.applies c.number (first_refusal (cs ++ ds))
    go ih true f g = rw f refl
    go ih false f g = rw f (ih g)

-- the offer at a place of a sound book
pub offer_sound : (m : List ℕ) (j : ℕ) → sound_in m ≡ true → j < word m OFFERS → OfferWords m j
unfolding sound
offer_sound m j s h =
    let t = all_true _ (sound-book m s) in
    offer_facts m j (all_at (word m OFFERS) (λ i. offer_in (decode m) (offer_at m (word m DAYS) i)) j (sym (offers_every m) ∙ t.1.1.0) h)

module _ (m : List ℕ) (u n q lent : ℕ) where
  is_known : In 1 (word m UNITS) u → not (known (decode m) u) ≡ false
  is_known h = rw (units_held m) (rw (inside 1 (word m UNITS) u h) refl)

  is_energy : In 1 most_energy q → not (energy_in q) ≡ false
  is_energy h = rw (inside 1 most_energy q h) refl

  module _ (hu : In 1 (word m UNITS) u) where
    module _ (hl : 4464 ≤ lent) (hq : In 1 most_energy q) where
      skip_energy : (x : ℕ) (cs : List Check) → x ≡ first_refusal cs → x
          ≡ first_refusal (check 6 (not (known (decode m) u)) ∷ check 7 (ltb lent 4464) ∷ check 9 (not (energy_in q)) ∷ cs)
      skip_energy x cs e =
          first_skip 6 (not (known (decode m) u)) (check 7 (ltb lent 4464) ∷ check 9 (not (energy_in q)) ∷ cs) (is_known hu)
          (first_skip 7 (ltb lent 4464) (check 9 (not (energy_in q)) ∷ cs) (le-ltb lent 4464 hl) (first_skip 9 (not (energy_in q)) cs (is_energy hq) e))

      pub party_none : OfferFound m n None → 11 ≡ first_refusal (party_checks (decode m) u n q lent)
      unfolding party_checks
      party_none f = skip_energy 11 _ (first_hit 11 (not (offer_open (decode m) n)) _ (rw (found_none m n f) refl))

      module _ (r : ℕ) (f : OfferHas m n r) where
        skip_found : (x : ℕ) (cs : List Check) → x ≡ first_refusal cs → x
            ≡ first_refusal (check 6 (not (known (decode m) u)) ∷ check 7 (ltb lent 4464) ∷ check 9 (not (energy_in q)) ∷ check 11 (not (offer_open (decode m) n))
            ∷ cs)
        skip_found x cs e =
            skip_energy x (check 11 (not (offer_open (decode m) n))
            ∷ cs) (first_skip 11 (not (offer_open (decode m) n)) cs (rw (found_offer m n r f).1 refl) e)

        can_take_lem : can_take (decode m) (offer_of (decode m) n) u q ≡ takes m r u q
        unfolding takes
        can_take_lem = ap (λ (o : OpenOffer). can_take (decode m) o u q) (found_offer m n r f).0

        pub party_cannot : takes m r u q ≡ false → 12 ≡ first_refusal (party_checks (decode m) u n q lent)
        unfolding party_checks
        party_cannot e = skip_found 12 _ (first_hit 12 (not (can_take (decode m) (offer_of (decode m) n) u q)) [] (ap not (can_take_lem ∙ e)))

        pub party_passed : takes m r u q ≡ true → 0 ≡ first_refusal (party_checks (decode m) u n q lent)
        unfolding party_checks first_refusal
        party_passed e = skip_found 0 (check 12 (not (can_take (decode m) (offer_of (decode m) n) u q))
            ∷ []) (first_skip 12 (not (can_take (decode m) (offer_of (decode m) n) u q)) [] (ap not (can_take_lem ∙ e)) refl)

-- on a sound book the sum that stops behind the largest energy is the total
pub open_at : (m : List ℕ) (n r t : ℕ) → sound_in m ≡ true → OfferHas m n r
    → t ≡ min (total (table (periods (word m DAYS)) (amount_at m r))) (most_energy + 1) → OpenAt m n r t
open_at m n r t s f e = let o = (offer_sound m r s f.there).whole in record { has = f; whole = omega arith }

-- what asking whether a unit can take needs
pub can_asks : (m : List ℕ) (u n r t : ℕ) → sound_in m ≡ true → OpenAt m n r t → In 1 (word m UNITS) u
    → (r < 8) × (1 ≤ word m (offer_place r + UNIT)) × (word m (offer_place r + UNIT) ≤ word m UNITS)
    × (1 ≤ u) × (u ≤ word m UNITS) × (t ≡ total (table (periods (word m DAYS)) (amount_at m r)))
can_asks m u n r t s f hu =
    let o = offer_sound m r s f.has.there in
    let g = sound_readable m s in
    let a = f.has.there in
    (omega (arith, a, g.offers_to), o.unit.0, o.unit.1, hu.0, hu.1, f.whole)
