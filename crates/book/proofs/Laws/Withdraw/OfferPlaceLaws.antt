-- Open offers in memory: the checks of a withdraw, and the offers without one.
use Rattle.std.proofs.Common.{◌≡◌, ℕ, ◌+◌, ◌<◌, true, cond, not, eqb, List, ◌++◌, take, drop, refl}
use Rattle.std.proofs.Common.{None, ◌∙◌, arith, eq-eqb, ne_eqb}
use Rattle.measures.specs.Lists.{keep}
use Rattle.measures.proofs.RangeLaws.{In, inside}
use Rattle.book.specs.Book.{OpenOffer, no_offer}
use Rattle.book.specs.Layout.{UNITS, OFFERS, offer_place, UNIT, TAKEN, word, decode}
use Rattle.book.specs.Refusals.{first_refusal}
use Rattle.book.specs.Contract.{sound_in}
use Rattle.book.specs.Withdraw.{withdraw_checks}
use Rattle.book.specs.Inner.Search.{OfferHas, OfferFound}
use Rattle.book.proofs.Laws.Memory.RangeFacts.{units_held, offers_held, offer_number}
use Rattle.book.proofs.Laws.Memory.KeptLaws.{number_gone}
use Rattle.book.proofs.Laws.Cancel.CancelLaws.{sound_rises}
use Rattle.book.proofs.Laws.Take.FoundLaws.{found_offer, found_none}

-- the offer at place j goes
pub offer_gone : (m : List ℕ) → sound_in m ≡ true → (n j : ℕ) → j < word m OFFERS → word m (offer_place j) ≡ n
    → keep (λ (o : OpenOffer). not (eqb o.number n)) (decode m).offers ≡ take j (decode m).offers ++ drop (j + 1) (decode m).offers
offer_gone m s n j hj e =
    number_gone (λ (o : OpenOffer). o.number) (decode m).offers no_offer refl (sound_rises m s).0 n j (omega (arith, offers_held m))
    (offer_number m j hj ∙ e)

-- the checks
module _ (m : List ℕ) (n u : ℕ) (h : In 1 (word m UNITS) u) where
  pub withdraw_absent : OfferFound m n None → 11 ≡ first_refusal (withdraw_checks (decode m) u n)
  unfolding first_refusal
  withdraw_absent f = rw (units_held m) (rw (inside 1 (word m UNITS) u h, found_none m n f) refl)

  module _ (j : ℕ) (f : OfferHas m n j) where
    pub withdraw_other : (word m (offer_place j + UNIT) ≡ u → ⊥) → 11 ≡ first_refusal (withdraw_checks (decode m) u n)
    unfolding first_refusal
    withdraw_other ne =
        let t = found_offer m n j f in
        rw (units_held m) (rw (inside 1 (word m UNITS) u h, t.0, t.1, ne_eqb (word m (offer_place j + UNIT)) u ne) refl)

    module _ (g : word m (offer_place j + UNIT) ≡ u) where
      by_mark : (r : ℕ) → r ≡ cond (eqb (word m (offer_place j + TAKEN)) 1) 13 0 → r ≡ first_refusal (withdraw_checks (decode m) u n)
      unfolding first_refusal
      by_mark r e =
          let t = found_offer m n j f in
          rw (units_held m) (rw (inside 1 (word m UNITS) u h, t.0, t.1, eq-eqb (word m (offer_place j + UNIT)) u g) e)

      pub withdraw_taken : word m (offer_place j + TAKEN) ≡ 1 → 13 ≡ first_refusal (withdraw_checks (decode m) u n)
      withdraw_taken t = by_mark 13 (rw (eq-eqb (word m (offer_place j + TAKEN)) 1 t) refl)

      pub withdraw_passes : (word m (offer_place j + TAKEN) ≡ 1 → ⊥) → 0 ≡ first_refusal (withdraw_checks (decode m) u n)
      withdraw_passes t = by_mark 0 (rw (ne_eqb (word m (offer_place j + TAKEN)) 1 t) refl)
