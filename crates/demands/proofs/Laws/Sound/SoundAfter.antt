-- "Every book that opening and the calls make is sound." A refused call leaves the book as it was.
use Prim.Native.Nat.{ℕ}
use mathlib.Core.Path.{◌≡◌, refl}
use mathlib.Core.Bool.{Bool, true, false, cond}
use mathlib.Core.List.{List, [], ◌∷◌}
use native.Mathlib.Omega.{arith}
use lib.Dec.{eqb}
use Rattle.measures.proofs.ListLaws.{cond_case}
use Rattle.book.specs.Book.{Rules, Book, call_phase, rolling_phase}
use Rattle.book.specs.Sound.{sound}
use Rattle.book.specs.Refusals.{Outcome, first_refusal, decided, unsound}
use Rattle.book.specs.Opening.{fresh, opening_refusal}
use Rattle.book.specs.Enrol.{enrol_refusal, enrolment}
use Rattle.book.specs.Offer.{offer_refusal, offering}
use Rattle.book.specs.Take.{take_refusal, taking}
use Rattle.book.specs.Withdraw.{withdraw_refusal, withdrawal}
use Rattle.book.specs.Order.{order_refusal, ordering, new_order, ordered_in_call, ordered_in_rolling}
use Rattle.book.specs.Cancel.{cancel_refusal, cancellation}
use Rattle.book.specs.Clear.{clear_refusal, clearing}
use Rattle.book.specs.Close.{closing}
use Rattle.book.specs.Calls.{Call, call_enrol, call_offer, call_take, call_withdraw, call_order, call_cancel, call_clear, call_close, outcome, book_after}
use Rattle.demands.proofs.Laws.Sound.CallLaws.{outcome-sound, every-book-sound}
use Rattle.book.proofs.Laws.Clear.ClearedLaws.{clearing-sound}
use Rattle.book.proofs.Laws.Order.RolledLaws.{ordering_in_rolling_sound}

rolling : (b : Book) (u d p price q lent : ℕ) → b.phase ≡ rolling_phase → sound b ≡ true → sound (ordering b u d p price q lent).book ≡ true
rolling b u d p price q lent r e = ordering_in_rolling_sound b u d p price q lent (λ c. omega arith) e

pub sound-after : (b : Book) (c : Call) → sound b ≡ true → (outcome b c).refusal ≡ 0 → sound (outcome b c).book ≡ true
sound-after b c e z = outcome-sound rolling clearing-sound b c e

pub sound_over_every_list : (words : ℕ) (r : Rules) (cs : List Call) → opening_refusal words r ≡ 0
    → sound (book_after (fresh r) cs) ≡ true
sound_over_every_list = every-book-sound rolling clearing-sound

-- "with 0 as its number and as its row count; book and lent memory then stand as before"
abbrev pub as_before : ℕ → Book → Outcome
as_before refusal b = record { refusal = refusal; number = 0; rows = []; book = b }

decided-refused : (r : ℕ) (b : Book) (o : Outcome) → o.refusal ≡ 0 → ((decided r b o).refusal ≡ 0 → ⊥) → decided r b o ≡ as_before (decided r b o).refusal b
decided-refused r b o e n = go (eqb r 0) n
  where
    go : (t : Bool) → ((cond t o (as_before r b)).refusal ≡ 0 → ⊥) → cond t o (as_before r b) ≡ as_before (cond t o (as_before r b)).refusal b
    go true h = absurd (h e)
    go false h = refl

pub refused_unchanged : (b : Book) (c : Call) → ((outcome b c).refusal ≡ 0 → ⊥) → outcome b c ≡ as_before (outcome b c).refusal b
unfolding enrolment offering taking withdrawal ordering cancellation clearing closing
refused_unchanged b (call_enrol kind capacity asset) n = decided-refused (enrol_refusal b kind capacity asset) b _ refl n
refused_unchanged b (call_offer unit partner price amounts) n = decided-refused (offer_refusal b unit partner price amounts) b _ refl n
refused_unchanged b (call_take unit number quantity lent) n = decided-refused (take_refusal b unit number quantity lent) b _ refl n
refused_unchanged b (call_withdraw unit number) n = decided-refused (withdraw_refusal b unit number) b _ refl n
refused_unchanged b (call_order u d p price q lent) n =
    let o = new_order b u d p price q in
    decided-refused (order_refusal b u d p price q lent) b (cond (eqb b.phase call_phase) (ordered_in_call b o) (ordered_in_rolling b o))
    (cond_case (λ (x : Outcome). x.refusal ≡ 0) (eqb b.phase call_phase) (ordered_in_call b o) (ordered_in_rolling b o) (λ _. refl) (λ _. refl)) n
refused_unchanged b (call_cancel unit number) n = decided-refused (cancel_refusal b unit number) b _ refl n
refused_unchanged b (call_clear lent) n = decided-refused (clear_refusal b lent) b _ refl n
refused_unchanged b call_close n = decided-refused (first_refusal (unsound b ∷ [])) b _ refl n
