-- What an exported call tells is what the definitions give: the refusal, the number and the count of rows.
use Prim.Native.Nat.{ℕ}
use mathlib.Core.Path.{◌≡◌, ap, ◌∙◌}
use mathlib.Core.List.{List, [], ◌∷◌}
use lib.ListN.{length}
use Rattle.book.specs.Book.{Rules}
use Rattle.book.specs.Calls.{Call}
use Rattle.book.specs.Opening.{opening_refusal}
use Rattle.book.specs.Contract.{Told, outcome_on, curve_on}
use Rattle.cenduxari.specs.Exports.{Called, BookOpened, CurveDrawn}

module _ (m rows : List ℕ) (c : Call) (r : ℕ) (out m' rows' : List ℕ) where
  pub called-refusal : Called m rows c r out m' rows' → r ≡ (outcome_on m c).refusal
  called-refusal k = k.refusal ∙ ap (λ (t : Told). t.refusal) k.made.answer

  pub called_out : Called m rows c r out m' rows' → out ≡ (outcome_on m c).number ∷ length (outcome_on m c).rows ∷ []
  called_out k = k.handed ∙ ap (λ (t : Told). t.number ∷ t.count ∷ []) k.made.answer

module _ (m : List ℕ) (rules : Rules) (r : ℕ) (out m' : List ℕ) where
  pub opened-refusal : BookOpened m rules r out m' → r ≡ opening_refusal (length m) rules
  opened-refusal k = k.refusal ∙ ap (λ (t : Told). t.refusal) k.opened.answer

  pub opened_out : BookOpened m rules r out m' → out ≡ 0 ∷ 0 ∷ []
  opened_out k = k.handed ∙ ap (λ (t : Told). t.number ∷ t.count ∷ []) k.opened.answer

module _ (m pts : List ℕ) (unit day r : ℕ) (out pts' : List ℕ) where
  pub drawn_refusal : CurveDrawn m pts unit day r out pts' → r ≡ (curve_on m unit day (length pts)).refusal
  drawn_refusal k = k.refusal ∙ ap (λ (t : Told). t.refusal) k.curved.answer

  pub drawn_out : CurveDrawn m pts unit day r out pts' → out ≡ 0 ∷ 0 ∷ []
  drawn_out k = k.handed ∙ ap (λ (t : Told). t.number ∷ t.count ∷ []) k.curved.answer
