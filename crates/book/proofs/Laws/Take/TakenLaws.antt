-- A take's rows by the side of the offer's unit, and what is left of the offers.
use Rattle.std.proofs.Common.{◌≡◌, ℕ, zero, suc, ◌+◌, ◌<◌, ◌≤◌, Bool, true, false, cond, not, eqb}
use Rattle.std.proofs.Common.{List, [], ◌∷◌, length, get_or, set, sym, refl, ap, ◌∙◌, arith, eq-eqb, ne_eqb}
use Rattle.measures.specs.Lists.{keep}
use Rattle.measures.specs.Sharing.{total}
use Rattle.measures.proofs.ListLaws.{cond-true, cond-false}
use Rattle.limits.specs.Units.{generator}
use Rattle.matching.specs.Orders.{Row}
use Rattle.matching.specs.Memory.{written}
use Rattle.book.specs.Book.{OpenOffer, no_offer, unit_of}
use Rattle.book.specs.Take.{take_rows_from, take_rows, offer_less, offers_less}
use Rattle.book.specs.Layout.{DAYS, offer_place, UNIT, PARTNER, PRICE, word, offer_at, decode}
use Rattle.book.specs.Inner.RowsIn.{RowsPut}

pub way_listing : (partner : ℕ) → partner ≡ 0 → ◌≡◌ {A = ℕ} 2 (cond (eqb partner 0) 2 1)
way_listing partner e = sym (cond-true (eqb partner 0) 2 1 (eq-eqb partner 0 e) refl)

pub way_bilateral : (partner : ℕ) → (partner ≡ 0 → ⊥) → ◌≡◌ {A = ℕ} 1 (cond (eqb partner 0) 2 1)
way_bilateral partner n = sym (cond-false (eqb partner 0) 2 1 (ne_eqb partner 0 n) refl)

-- the generator sells
module _ (m : List ℕ) (j u w k : ℕ) (ps l x : List ℕ) (hw : w ≡ cond (eqb (word m (offer_place j + PARTNER)) 0) 2 1) where
  pub rows-sold : generator (unit_of (decode m) (word m (offer_place j + UNIT))).kind ≡ true
      → RowsPut l x k (take_rows_from 0 w (word m (offer_place j + UNIT)) u (word m (offer_place j + PRICE)) ps)
      → RowsPut l x k (take_rows (decode m) (offer_at m (word m DAYS) j) u ps)
  unfolding take_rows
  rows-sold e r =
      let q : take_rows_from 0 w (word m (offer_place j + UNIT)) u (word m (offer_place j + PRICE)) ps ≡ take_rows (decode m) (offer_at m (word m DAYS) j) u ps =
      ap (λ (t : ℕ). take_rows_from 0 t (word m (offer_place j + UNIT)) u (word m (offer_place j + PRICE)) ps) hw
      ∙ sym (cond-true (generator (unit_of (decode m) (word m (offer_place j + UNIT))).kind) _ _ e refl) in
      record { count = r.count ∙ ap (λ (rs : List Row). length rs) q; rows = r.rows ∙ ap (λ (rs : List Row). written l rs) q }

  pub rows-bought : generator (unit_of (decode m) (word m (offer_place j + UNIT))).kind ≡ false
      → RowsPut l x k (take_rows_from 0 w u (word m (offer_place j + UNIT)) (word m (offer_place j + PRICE)) ps)
      → RowsPut l x k (take_rows (decode m) (offer_at m (word m DAYS) j) u ps)
  unfolding take_rows
  rows-bought e r =
      let q : take_rows_from 0 w u (word m (offer_place j + UNIT)) (word m (offer_place j + PRICE)) ps ≡ take_rows (decode m) (offer_at m (word m DAYS) j) u ps =
      ap (λ (t : ℕ). take_rows_from 0 t u (word m (offer_place j + UNIT)) (word m (offer_place j + PRICE)) ps) hw
      ∙ sym (cond-false (generator (unit_of (decode m) (word m (offer_place j + UNIT))).kind) _ _ e refl) in
      record { count = r.count ∙ ap (λ (rs : List Row). length rs) q; rows = r.rows ∙ ap (λ (rs : List Row). written l rs) q }

-- the first offer of a number stays, with less, or goes
module _ (n : ℕ) (ps : List ℕ) where
  pub less_stays : (os : List OpenOffer) (j : ℕ) → j < length os → eqb (get_or os j no_offer).number n ≡ true
      → ((i : ℕ) → i < j → eqb (get_or os i no_offer).number n ≡ false)
      → (total (offer_less (get_or os j no_offer) ps).amounts ≡ 0 → ⊥) → offers_less n ps os ≡ set os j (offer_less (get_or os j no_offer) ps)
  unfolding offers_less
  less_stays [] j h e u t = absurd (omega arith)
  less_stays (o ∷ os) zero h e u t = cond-true (eqb o.number n) _ _ e (cond-false (eqb (total (offer_less o ps).amounts) 0) _ _ (ne_eqb _ _ t) refl)
  less_stays (o ∷ os) (suc j) h e u t =
      cond-false (eqb o.number n) _ _ (u 0 (omega arith)) (ap (λ (l : List OpenOffer). o
      ∷ l) (less_stays os j (omega arith) e (λ i k. u (suc i) (omega arith)) t))

  keep_others : (os : List OpenOffer) → ((i : ℕ) → i < length os → eqb (get_or os i no_offer).number n ≡ false) → os
      ≡ keep (λ (o : OpenOffer). not (eqb o.number n)) os
  keep_others [] u = refl
  keep_others (o ∷ os) u = rw (u 0 (omega arith)) (ap (λ (l : List OpenOffer). o ∷ l) (keep_others os (λ i k. u (suc i) (omega arith))))

  pub less_goes : (os : List OpenOffer) (j : ℕ) → j < length os → eqb (get_or os j no_offer).number n ≡ true
      → ((i : ℕ) → i < length os → (i ≡ j → ⊥) → eqb (get_or os i no_offer).number n ≡ false)
      → total (offer_less (get_or os j no_offer) ps).amounts ≡ 0 → offers_less n ps os ≡ keep (λ (o : OpenOffer). not (eqb o.number n)) os
  unfolding offers_less
  less_goes [] j h e u t = absurd (omega arith)
  less_goes (o ∷ os) zero h e u t =
      cond-true (eqb o.number n) _ _ e (cond-true (eqb (total (offer_less o ps).amounts) 0) _ _ (eq-eqb _ _ t) refl)
      ∙ keep_others os (λ i k. u (suc i) (omega arith) (omega arith)) ∙ rw e refl
  less_goes (o ∷ os) (suc j) h e u t =
      cond-false (eqb o.number n) _ _ (u 0 (omega arith) (omega arith)) (ap (λ (l : List OpenOffer). o
      ∷ l) (less_goes os j (omega arith) e (λ i k z. u (suc i) (omega arith) (omega arith)) t))
      ∙ rw (u 0 (omega arith) (omega arith)) refl

  -- no offer more
  pub less-few : (os : List OpenOffer) → length (offers_less n ps os) ≤ length os
  unfolding offers_less
  less-few [] = omega arith
  less-few (o ∷ os) = go (eqb o.number n) (eqb (total (offer_less o ps).amounts) 0) (less-few os)
    where
      go : (a z : Bool) → length (offers_less n ps os) ≤ length os
          → length (cond a (cond z os (offer_less o ps ∷ os)) (o ∷ offers_less n ps os)) ≤ length (o ∷ os)
      go true true k = omega arith
      go true false k = omega arith
      go false z k = omega arith
