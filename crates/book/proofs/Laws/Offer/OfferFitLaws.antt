-- What a sound book in memory gives of its units, and the fit of an offer's amounts.
use Rattle.std.proofs.Common.{◌≡◌, ℕ, ◌<◌, ◌≤◌, true, List, ◌++◌, length, get_or, drop, rules, sym, ◌∙◌, arith}
use Rattle.std.proofs.lemmas.List.{places}
use native.Mathlib.Decide.{dec_lt}
use lib.ListN.{get_or-eq_default}
use Rattle.measures.specs.Ranges.{most_energy}
use Rattle.measures.specs.Sharing.{total}
use Rattle.measures.proofs.ListLaws.{amount_le}
use Rattle.measures.proofs.RangeLaws.{In}
use Rattle.book.specs.Layout.{UNITS, word, decode}
use Rattle.book.specs.Inner.Readable.{declared, Fitted, small}
use Rattle.book.specs.Refusals.{first_refusal}
use Rattle.book.specs.Contract.{sound_in}
use Rattle.book.specs.Offer.{raising_amounts}
use Rattle.book.proofs.Laws.Check.MisfitLaws.{misfit_ext, misfit_declared}
use Rattle.book.proofs.Laws.Offer.OfferChainLaws.{fit_of}
use Rattle.book.proofs.Laws.Sound.RangedLaws.{sound_marks, sound_fits}

module _ (m : List ℕ) (s : sound_in m ≡ true) (u : ℕ) (h : In 1 (word m UNITS) u) where
  -- what the fit of lent amounts came to is the first of the three checks
  pub offer_fits : (l raising lowering : List ℕ) (r : ℕ) → ((p : ℕ) → get_or raising p 0 ≡ get_or l p 0) → ((p : ℕ) → get_or lowering p 0 ≡ 0)
      → Fitted (decode m) u (declared raising lowering) r → r ≡ first_refusal (fit_of (decode m) u l)
  offer_fits l raising lowering r f g w =
      w.clean (sound_marks m s u h) ∙ misfit_ext (decode m) u (declared raising lowering) (raising_amounts l) f g
      ∙ misfit_declared (decode m) u (raising_amounts l) (sound_fits m s u h)

-- amounts that stand before zeros are the amounts, wherever they are asked
pub copied_over : (z l : List ℕ) → ((k : ℕ) → word z k ≡ 0) → (k : ℕ) → get_or (l ++ drop (length l) z) k 0 ≡ get_or l k 0
copied_over z l zeros k = go (dec_lt k (length l))
  where
    go : Dec (k < length l) → get_or (l ++ drop (length l) z) k 0 ≡ get_or l k 0
    go (yes h) = search (rules, places)
    go (no h) =
        let e : get_or (l ++ drop (length l) z) k 0 ≡ get_or z k 0 = search (rules, places) in
        e ∙ zeros k ∙ sym (get_or-eq_default l 0 (omega arith))

-- amounts with a total in range are small
pub copied_small : (l x : List ℕ) → total l ≤ most_energy → ((k : ℕ) → get_or x k 0 ≡ get_or l k 0) → small x
copied_small l x t h k =
    let e = h k in
    let b = amount_le l k in
    omega arith
