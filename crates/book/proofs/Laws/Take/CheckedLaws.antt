-- The checks of a take, joined: before the fit, and the fit.
use Rattle.std.proofs.Common.{◌≡◌, ℕ, ◌+◌, ◌<◌, ◌≤◌, Bool, true, false, cond, not, ◌&&◌, eqb, leb, List, ◌++◌, drop, sym, ap, ◌∙◌, arith, eqb-true, leb-true}
use borrow.Author.Tests.{not-false}
use Rattle.measures.specs.Ranges.{most_energy}
use Rattle.measures.specs.Lists.{table}
use Rattle.measures.specs.Sharing.{total, parts}
use Rattle.measures.proofs.RangeLaws.{In, within}
use Rattle.measures.proofs.ListLaws.{and_right}
use Rattle.limits.specs.Units.{periods}
use Rattle.book.specs.Book.{OpenOffer, known, offer_of}
use Rattle.book.specs.Sound.{energy_in}
use Rattle.book.specs.Refusals.{first_refusal, same_side, can_take}
use Rattle.book.specs.Offer.{raising_amounts}
use Rattle.book.specs.Take.{taken_parts}
use Rattle.book.specs.Layout.{DAYS, UNITS, OFFERS, offer_place, UNIT, PARTNER, word, amount_at, decode}
use Rattle.book.specs.Contract.{sound_in}
use Rattle.book.specs.Inner.Search.{OfferHas}
use Rattle.book.specs.Inner.RowsIn.{takes, party_checks, fit_checks, parts_at, Nothing, TakeFit, TakeChecked}
use Rattle.book.proofs.Laws.Memory.RangeFacts.{units_held}
use Rattle.book.proofs.Laws.Take.FoundLaws.{found_offer}
use Rattle.book.proofs.Laws.Take.PartyLaws.{AllFalse, all-false, first-after, first-before}

-- what can be taken is there
pub takes-most : (m : List ℕ) (j u q : ℕ) → takes m j u q ≡ true → q ≤ total (table (periods (word m DAYS)) (amount_at m j))
unfolding takes
takes-most m j u q e = go (eqb (word m (offer_place j + PARTNER)) 0) e
  where
    go : (b : Bool) → cond b (not (same_side (decode m) (word m (offer_place j + UNIT)) u)
        && leb q (total (table (periods (word m DAYS)) (amount_at m j)))) (eqb (word m (offer_place j + PARTNER)) u
        && eqb q (total (table (periods (word m DAYS)) (amount_at m j)))) ≡ true
        → q ≤ total (table (periods (word m DAYS)) (amount_at m j))
    go true f = leb-true q (total (table (periods (word m DAYS)) (amount_at m j)))
        (and_right (not (same_side (decode m) (word m (offer_place j + UNIT)) u)) (leb q (total (table (periods (word m DAYS)) (amount_at m j)))) f)
    go false f =
        let t = eqb-true q (total (table (periods (word m DAYS)) (amount_at m j)))
        (and_right (eqb (word m (offer_place j + PARTNER)) u) (eqb q (total (table (periods (word m DAYS)) (amount_at m j)))) f) in
        omega arith

module _ (m : List ℕ) (u n q lent : ℕ) (s : sound_in m ≡ true) where
  pub checked_refused : (l : List ℕ) (r : ℕ) → 0 < r → r ≡ first_refusal (party_checks (decode m) u n q lent) → TakeChecked m u n q lent r l l
  unfolding party_checks fit_checks
  checked_refused l r h e = record {
    answer = e ∙ first-before (party_checks (decode m) u n q lent) (fit_checks (decode m) u (raising_amounts (taken_parts (decode m) n q)))
        (λ z. absurd (omega arith));
    memory = λ z. absurd (omega arith);
  }

  module _ (r : ℕ) (none : r ≡ 0) (e : r ≡ first_refusal (party_checks (decode m) u n q lent)) where
    passed : AllFalse (party_checks (decode m) u n q lent)
    unfolding party_checks
    passed =
        all-false (party_checks (decode m) u n q lent) (
          (λ z. absurd (omega arith)),
          (
            (λ z. absurd (omega arith)),
            ((λ z. absurd (omega arith)), ((λ z. absurd (omega arith)), ((λ z. absurd (omega arith)), tt))),
          ),
        )
        (sym none ∙ e)

    known_unit : In 1 (word m UNITS) u
    unfolding party_checks
    known_unit = within 1 (word m UNITS) u (rw (units_held m) at (not-false (known (decode m) u) passed.0))

    energy_in_lem : In 1 most_energy q
    unfolding party_checks
    energy_in_lem = within 1 most_energy q (not-false (energy_in q) passed.1.1.0)

    module _ (j : ℕ) (f : OfferHas m n j) where
      can_take_lem : takes m j u q ≡ true
      unfolding party_checks takes
      can_take_lem =
          ap (λ (o : OpenOffer). can_take (decode m) o u q) (sym (found_offer m n j f).0)
          ∙ not-false (can_take (decode m) (offer_of (decode m) n) u q) passed.1.1.1.1.0

      pub fit_asks : (l : List ℕ) → Nothing l
          → (j < word m OFFERS) × (1 ≤ u) × (u ≤ word m UNITS) × (1 ≤ q) × (q ≤ total (table (periods (word m DAYS)) (amount_at m j)))
          × (Nothing l)
      fit_asks l h = (f.there, known_unit.0, known_unit.1, energy_in_lem.0, takes-most m j u q can_take_lem, h)

      parts_are : parts_at m j q ≡ taken_parts (decode m) n q
      unfolding parts_at
      parts_are = ap (λ (o : OpenOffer). parts q o.amounts) (sym (found_offer m n j f).0)

      pub checked_fit : (x l : List ℕ) (t : ℕ) → TakeFit m u j q t l x → TakeChecked m u n q lent t l x
      unfolding party_checks fit_checks
      checked_fit x l t g = record {
        answer =
            g.answer ∙ ap (λ (ps : List ℕ). first_refusal (fit_checks (decode m) u (raising_amounts ps))) parts_are
            ∙ first-after (party_checks (decode m) u n q lent) (fit_checks (decode m) u (raising_amounts (taken_parts (decode m) n q))) passed;
        memory = λ z. g.memory ∙ ap (λ (ps : List ℕ). ps ++ drop (periods (word m DAYS)) l) parts_are;
      }
