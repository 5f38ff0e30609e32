-- The open offer of a number, by its place in memory, and who can take it.
use Rattle.std.proofs.Common.{◌≡◌, ℕ, ◌+◌, ◌<◌, ◌≤◌, Bool, true, false, not, cond, eqb, leb, List, get_or, None, refl}
use Rattle.std.proofs.Common.{sym, ◌∙◌, arith, eq-eqb, ne_eqb, le-leb}
use mathlib.Core.Bool.{beq}
use native.Mathlib.Decide.{ℕ_discrete}
use borrow.Author.Tests.{lt-leb}
use Rattle.measures.specs.Lists.{table}
use Rattle.measures.specs.Sharing.{total}
use Rattle.measures.proofs.ListLaws.{cond-true, cond-false, and_true, and_left-false, and_right_false, and_holding}
use Rattle.limits.specs.Units.{periods, generator}
use Rattle.book.specs.Book.{OpenOffer, no_offer, unit_of, offer_of, offer_open}
use Rattle.book.specs.Refusals.{same_side}
use Rattle.book.specs.Layout.{DAYS, OFFERS, offer_place, UNIT, PARTNER, word, amount_at, offer_at, decode}
use Rattle.book.specs.Inner.RowsIn.{takes}
use Rattle.book.specs.Inner.Search.{OfferHas, OfferFound}
use Rattle.book.proofs.Laws.Memory.KeptLaws.{first_kept, none_kept}
use Rattle.book.proofs.Laws.Memory.RangeFacts.{offers_held, offer_at_lem, offer_number}

module _ (m : List ℕ) (n r : ℕ) (f : OfferHas m n r) where
  pub unmet_before : (i : ℕ) → i < r → eqb (get_or (decode m).offers i no_offer).number n ≡ false
  unmet_before i l =
      let t = f.there in
      let u : i < word m OFFERS = omega arith in
      ne_eqb _ _ (λ e. f.before i l (sym (offer_number m i u) ∙ e))

  pub met_there : eqb (get_or (decode m).offers r no_offer).number n ≡ true
  met_there = eq-eqb _ _ (offer_number m r f.there ∙ f.here)

  pub found_offer : (offer_of (decode m) n ≡ offer_at m (word m DAYS) r) × (offer_open (decode m) n ≡ true)
  found_offer =
      let k = first_kept (λ (o : OpenOffer). o.number) no_offer (decode m).offers _ _ (offers_held m) (offer_number m) n r f in
      (k.0 ∙ offer_at_lem m r f.there, k.1)

-- no offer has the number
pub found_none : (m : List ℕ) (n : ℕ) → OfferFound m n None → offer_open (decode m) n ≡ false
found_none m n f = none_kept (λ (o : OpenOffer). o.number) no_offer (decode m).offers _ _ (offers_held m) (offer_number m) n f

-- who can take the offer at place j
module _ (m : List ℕ) (j u q whole : ℕ) (hw : whole ≡ total (table (periods (word m DAYS)) (amount_at m j))) where
  pub takes_other : (word m (offer_place j + PARTNER) ≡ 0 → ⊥) → (word m (offer_place j + PARTNER) ≡ u → ⊥) → false ≡ takes m j u q
  unfolding takes
  takes_other p n = sym (cond-false (eqb (word m (offer_place j + PARTNER)) 0) _ _ (ne_eqb _ _ p)
      (and_left-false (eqb (word m (offer_place j + PARTNER)) u) (eqb q (total (table (periods (word m DAYS)) (amount_at m j)))) (ne_eqb _ _ n)))

  pub takes_unlike : (word m (offer_place j + PARTNER) ≡ 0 → ⊥) → (q ≡ whole → ⊥) → false ≡ takes m j u q
  unfolding takes
  takes_unlike p n = sym (cond-false (eqb (word m (offer_place j + PARTNER)) 0) _ _ (ne_eqb _ _ p)
      (and_right_false (eqb (word m (offer_place j + PARTNER)) u) (eqb q (total (table (periods (word m DAYS)) (amount_at m j))))
      (ne_eqb q (total (table (periods (word m DAYS)) (amount_at m j))) (λ e. n (omega arith)))))

  pub takes_whole : (word m (offer_place j + PARTNER) ≡ 0 → ⊥) → word m (offer_place j + PARTNER) ≡ u → q ≡ whole → true ≡ takes m j u q
  unfolding takes
  takes_whole p e n = sym (cond-false (eqb (word m (offer_place j + PARTNER)) 0) _ _ (ne_eqb _ _ p)
      (and_true (eqb (word m (offer_place j + PARTNER)) u) (eqb q (total (table (periods (word m DAYS)) (amount_at m j)))) (eq-eqb _ _ e)
      (eq-eqb q (total (table (periods (word m DAYS)) (amount_at m j))) (omega arith))))

  takes_over : word m (offer_place j + PARTNER) ≡ 0 → whole < q → false ≡ takes m j u q
  unfolding takes
  takes_over p l = sym (cond-true (eqb (word m (offer_place j + PARTNER)) 0) _ _ (eq-eqb _ _ p)
      (and_right_false (not (same_side (decode m) (word m (offer_place j + UNIT)) u)) (leb q (total (table (periods (word m DAYS)) (amount_at m j))))
      (lt-leb q (total (table (periods (word m DAYS)) (amount_at m j))) (omega arith))))

  -- of neither kind of offer is more taken than is left
  pub takes_past : whole < q → false ≡ takes m j u q
  takes_past l = go (ℕ_discrete (word m (offer_place j + PARTNER)) 0)
    where
      go : Dec (word m (offer_place j + PARTNER) ≡ 0) → false ≡ takes m j u q
      go (yes p) = takes_over p l
      go (no p) = takes_unlike p (λ e. omega arith)

  takes_by_side : word m (offer_place j + PARTNER) ≡ 0 → q ≤ whole → not (same_side (decode m) (word m (offer_place j + UNIT)) u) ≡ takes m j u q
  unfolding takes
  takes_by_side p l = sym (cond-true (eqb (word m (offer_place j + PARTNER)) 0) _ _ (eq-eqb _ _ p)
      (and_holding (not (same_side (decode m) (word m (offer_place j + UNIT)) u)) (leb q (total (table (periods (word m DAYS)) (amount_at m j))))
      (le-leb q (total (table (periods (word m DAYS)) (amount_at m j))) (omega arith))))

  pub takes_sides : word m (offer_place j + PARTNER) ≡ 0 → q ≤ whole → (a b : Bool)
      → a ≡ generator (unit_of (decode m) (word m (offer_place j + UNIT))).kind
      → b ≡ generator (unit_of (decode m) u).kind → not (beq a b) ≡ takes m j u q
  takes_sides p l a b e g =
      rw (e, g) (go (generator (unit_of (decode m) (word m (offer_place j + UNIT))).kind) (generator (unit_of (decode m) u).kind)
      ∙ takes_by_side p l)
    where
      go : (x y : Bool) → not (beq x y) ≡ not (cond x y (not y))
      go true true = refl
      go true false = refl
      go false true = refl
      go false false = refl
