-- Offer leaves a sound book.
use Prim.Native.Nat.{ℕ, ◌<◌}
use mathlib.Core.Path.{◌≡◌, refl}
use mathlib.Core.Bool.{true, not, ◌&&◌}
use mathlib.Core.List.{List, [], ◌∷◌}
use native.Mathlib.Omega.{arith}
use native.Mathlib.Decide.{ℕ_discrete}
use lib.ListN.{length}
use lib.Dec.{eqb}
use borrow.Author.Tests.{leb-false, eqb-true, eq-eqb, ne_eqb, not-false, not-true}
use Rattle.measures.specs.Ranges.{most_energy}
use Rattle.measures.specs.Sharing.{total}
use Rattle.measures.proofs.RangeLaws.{In, within}
use Rattle.measures.proofs.ListLaws.{and_left, and_right}
use Rattle.limits.specs.Units.{periods, generator}
use Rattle.book.specs.Book.{OpenOffer, Book, most_offers, most_numbers, known, unit_of, next_number}
use Rattle.book.specs.Fit.{Declaration, nothing}
use Rattle.book.specs.Sound.{energy_in, bilateral_sides, sound}
use Rattle.book.specs.Refusals.{unsound, unknown_unit, unknown_partner, bad_price, bad_amounts, wrong_partner, offers_full, numbers_used, hour_misfit, term_misfit, volume_misfit}
use Rattle.book.specs.Offer.{raising_amounts, offer_refusal, offering}
use Rattle.book.proofs.Laws.Sound.FitLaws.{Fits, fits_with, fits_after}
use Rattle.book.proofs.Laws.Sound.SoundLaws.{Sides, OfferRanges, Sound, sound_facts, sound-holds}
use Rattle.book.proofs.Laws.Answer.RefusalLaws.{NoneApplies, none_applies, decided-sound, second_passed}
use Rattle.book.proofs.Laws.Sound.DeclareLaws.{with_offer, formed_offer, moved_offer}

module _ (b : Book) (unit partner price : ℕ) (amounts : List ℕ) where
  abbrev new_offer : OpenOffer
  new_offer = record { number = next_number b; unit = unit; partner = partner; price = price; taken = 0; amounts = amounts }

  -- what an accepted offer passed
  pub record OfferPassed : Type 0 where
    pub ranges : OfferRanges (with_offer b new_offer) new_offer
    pub room : length b.offers < most_offers
    pub left : b.given < most_numbers
    pub fits : Fits b unit (raising_amounts amounts)

  pub offer_passed : Sound b → offer_refusal b unit partner price amounts ≡ 0 → OfferPassed
  unfolding offer_refusal
  offer_passed s z =
      record {
        ranges = record {
          number = omega arith;
          unit = named;
          sides = sides;
          price = within b.rules.floor b.rules.ceiling price (not-false _ t.1.1.1.0);
          taken = omega arith;
          amounts = eqb-true _ _ (and_left (eqb (length amounts) (periods b.rules.days)) (energy_in (total amounts)) listed);
          energy = within 1 most_energy (total amounts) (and_right (eqb (length amounts) (periods b.rules.days)) (energy_in (total amounts)) listed);
        };
        room = leb-false _ _ t.1.1.1.1.1.1.0;
        left = leb-false _ _ t.1.1.1.1.1.1.1.0;
        fits =
            fits_with b unit (raising_amounts amounts) (s.fits unit named) (not-false _ t.1.1.1.1.1.1.1.1.0)
            (not-false _ t.1.1.1.1.1.1.1.1.1.0)
            (not-false _ t.1.1.1.1.1.1.1.1.1.1.0);
      }
    where
      d : Declaration
      d = raising_amounts amounts

      t : NoneApplies
          (unsound b ∷ unknown_unit b unit ∷ unknown_partner b partner ∷ bad_price b price ∷ bad_amounts b amounts ∷ wrong_partner b unit partner
          ∷ offers_full b ∷ numbers_used b ∷ hour_misfit b unit d ∷ term_misfit b unit d ∷ volume_misfit b unit d ∷ [])
      t = none_applies _ (omega arith) z

      named : In 1 (length b.units) unit
      named = within 1 (length b.units) unit (not-false _ t.1.0)

      listed : (eqb (length amounts) (periods b.rules.days) && energy_in (total amounts)) ≡ true
      listed = not-false _ t.1.1.1.1.0

      sides : (partner ≡ 0 → ⊥) → Sides (with_offer b new_offer) new_offer
      sides n =
          let g = generator (unit_of b unit).kind in
          let l = not (generator (unit_of b partner).kind) in
          let both = second_passed (eqb partner 0) (bilateral_sides b unit partner) t.1.1.1.1.1.0 (ne_eqb _ _ n) in
          record {
            partner = within 1 (length b.units) partner (second_passed (eqb partner 0) (known b partner) t.1.1.0 (ne_eqb _ _ n));
            sells = and_left g l both;
            buys = not-true _ (and_right g l both);
          }

  pub offering-sound : sound b ≡ true → sound (offering b unit partner price amounts).book ≡ true
  unfolding offering
  offering-sound e = decided-sound (offer_refusal b unit partner price amounts) b _ e (λ z. sound-holds (with_offer b new_offer) (more (offer_passed s z)))
    where
      s : Sound b
      s = sound_facts b e

      more : OfferPassed → Sound (with_offer b new_offer)
      more a =
          record {
            formed = formed_offer b new_offer s.formed a.ranges refl a.room a.left;
            fits = λ v i. fit v i (ℕ_discrete unit v);
          }
        where
          fit : (v : ℕ) → In 1 (length b.units) v → Dec (unit ≡ v) → Fits (with_offer b new_offer) v nothing
          fit v i (yes q) =
              fits_after b (with_offer b new_offer) v (raising_amounts amounts)
              (moved_offer b v (raising_amounts amounts) new_offer (λ p. rw (eq-eqb unit v q) (omega arith))) (rw q at a.fits)
          fit v i (no q) = fits_after b (with_offer b new_offer) v nothing (moved_offer b v nothing new_offer (λ p. rw (ne_eqb unit v q) (omega arith)))
              (s.fits v i)
