-- What a take leaves of the offers, by their numbers (specs/InPlace.antt).
use Rattle.std.proofs.Common.{◌≡◌, ℕ, ◌<◌, Bool, true, false, cond, eqb, List, [], ◌∷◌, length, get_or, sym, refl, ap, ◌∙◌, arith, ne_eqb, eqb-true}
use Rattle.measures.specs.Sharing.{total, parts, less_each}
use Rattle.measures.proofs.LessLaws.{less-parts}
use Rattle.book.specs.Book.{OpenOffer, no_offer, Book, offer_of, with_offers}
use Rattle.book.specs.Take.{taken_parts, take_refusal, take_rows, offer_less, offers_less, taking}
use Rattle.book.specs.Refusals.{Outcome}
use Rattle.book.specs.Layout.{decode}
use Rattle.book.specs.Calls.{call_take}
use Rattle.book.specs.InPlace.{EveryTake}
use Rattle.book.proofs.Laws.Answer.MadeLaws.{decided-accepted, outcome-accepted}
use Rattle.book.proofs.Laws.Answer.RefusalLaws.{not-refused, first_passed}
use Rattle.book.proofs.Laws.Sound.SoundLaws.{sound_facts}
use Rattle.book.proofs.Laws.Rows.TradeLaws.{kept_rows}
use Rattle.book.proofs.Laws.Take.TakeLaws.{offers_numbered, offer_numbered}
use Rattle.book.proofs.Laws.Take.TakingLaws.{TakePassed, take_passed}

-- the offers with the parts taken off that of the number n
module _ (n : ℕ) (ps : List ℕ) where
  -- those of another number
  others_stay : (k : ℕ) → (k ≡ n → ⊥) → (os : List OpenOffer) → offers_numbered k (offers_less n ps os) ≡ offers_numbered k os
  unfolding offers_less
  others_stay k d [] = refl
  others_stay k d (o ∷ os) = go (eqb o.number n) refl (others_stay k d os)
    where
      go : (t : Bool) → eqb o.number n ≡ t → offers_numbered k (offers_less n ps os) ≡ offers_numbered k os
          → offers_numbered k (cond t (cond (eqb (total (less_each o.amounts ps)) 0) os (offer_less o ps ∷ os)) (o ∷ offers_less n ps os))
          ≡ offers_numbered k (o ∷ os)
      go true e ih = here (eqb (total (less_each o.amounts ps)) 0)
        where
          other : eqb o.number k ≡ false
          other = ne_eqb o.number k (λ x. d (sym x ∙ eqb-true o.number n e))

          here : (z : Bool) → offers_numbered k (cond z os (offer_less o ps ∷ os)) ≡ offers_numbered k (o ∷ os)
          here true = rw other refl
          here false = rw other refl
      go false e ih = ap (λ (l : List OpenOffer). cond (eqb o.number k) (o ∷ l) l) ih

  -- its own, while something is left of it
  own-less : (os : List OpenOffer) → 0 < length (offers_numbered n os) → (total (less_each (offer_numbered n os).amounts ps) ≡ 0 → ⊥)
      → offer_numbered n (offers_less n ps os) ≡ offer_less (offer_numbered n os) ps
  unfolding offers_less
  own-less [] h l = absurd (omega arith)
  own-less (o ∷ os) h l = go (eqb o.number n) refl h l (own-less os)
    where
      others : List OpenOffer
      others = offers_numbered n os

      go : (t : Bool) → eqb o.number n ≡ t → 0 < length (cond t (o ∷ others) others)
          → (total (less_each (get_or (cond t (o ∷ others) others) 0 no_offer).amounts ps) ≡ 0 → ⊥)
          → (0 < length others → (total (less_each (offer_numbered n os).amounts ps) ≡ 0 → ⊥)
          → offer_numbered n (offers_less n ps os) ≡ offer_less (offer_numbered n os) ps)
          → offer_numbered n (cond t (cond (eqb (total (less_each o.amounts ps)) 0) os (offer_less o ps ∷ os)) (o ∷ offers_less n ps os))
          ≡ offer_less (get_or (cond t (o ∷ others) others) 0 no_offer) ps
      go true e h l ih = rw (ne_eqb (total (less_each o.amounts ps)) 0 l, e) refl
      go false e h l ih = rw e (ih h l)

-- the book of an accepted take
module _ (b : Book) (u n q lent : ℕ) (z : (taking b u n q lent).refusal ≡ 0) where
  abbrev ps : List ℕ
  ps = taken_parts b n q

  passes : take_refusal b u n q lent ≡ 0
  unfolding taking
  passes = not-refused (take_refusal b u n q lent) b _ z

  passed : TakePassed b u n q
  unfolding take_refusal
  passed = take_passed b u n q lent (sound_facts b (first_passed b _ passes)) passes

  offers_are : (taking b u n q lent).book.offers ≡ offers_less n ps b.offers
  unfolding taking
  offers_are =
      let less = with_offers b (offers_less n ps b.offers) in
      let rs = take_rows b (offer_of b n) u ps in
      ap (λ (o : Outcome). o.book.offers) (decided-accepted (take_refusal b u n q lent) b _ passes)
      ∙ ap (λ (x : Book). x.offers) (kept_rows rs less).rest

  own : q < total (offer_of b n).amounts → (offer_of (taking b u n q lent).book n).amounts ≡ less_each (offer_of b n).amounts (parts q (offer_of b n).amounts)
  own h =
      ap (λ (os : List OpenOffer). (offer_numbered n os).amounts) offers_are
      ∙ ap (λ (o : OpenOffer). o.amounts) (own-less n ps b.offers passed.found
      (λ e. omega (arith, less-parts q (offer_of b n).amounts passed.some passed.enough)))

  others : (k : ℕ) → (k ≡ n → ⊥) → (offer_of (taking b u n q lent).book k).amounts ≡ (offer_of b k).amounts
  others k d =
      ap (λ (os : List OpenOffer). (offer_numbered k os).amounts) offers_are
      ∙ ap (λ (os : List OpenOffer). (get_or os 0 no_offer).amounts) (others_stay n ps k d b.offers)

pub take_in_place : EveryTake
take_in_place m rows u n q a m' rows' made z =
    let is = outcome-accepted m (call_take u n q (length rows)) z in
    let y : (taking (decode m) u n q (length rows)).refusal ≡ 0 = ap (λ (o : Outcome). o.refusal) (sym is) ∙ z in
    let book : decode m' ≡ (taking (decode m) u n q (length rows)).book = made.accepted z ∙ ap (λ (o : Outcome). o.book) is in
    record {
      own = λ h. ap (λ (b : Book). (offer_of b n).amounts) book ∙ own (decode m) u n q (length rows) y h;
      others = λ k d. ap (λ (b : Book). (offer_of b k).amounts) book ∙ others (decode m) u n q (length rows) y k d;
    }
