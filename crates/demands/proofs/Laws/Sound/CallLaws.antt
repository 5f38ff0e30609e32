-- "Every book that opening and the calls make is sound": from the law of each call.
use Prim.Native.Nat.{ℕ}
use mathlib.Core.Path.{◌≡◌}
use mathlib.Core.Bool.{true}
use mathlib.Core.List.{List, [], ◌∷◌}
use native.Mathlib.Omega.{arith}
use native.Mathlib.Decide.{ℕ_discrete}
use Rattle.book.specs.Book.{Rules, Book, call_phase, rolling_phase}
use Rattle.book.specs.Sound.{sound}
use Rattle.book.specs.Opening.{fresh, opening_refusal}
use Rattle.book.specs.Refusals.{first_refusal, unsound}
use Rattle.book.specs.Enrol.{enrol_refusal, enrolment}
use Rattle.book.specs.Offer.{offer_refusal, offering}
use Rattle.book.specs.Take.{take_refusal, taking}
use Rattle.book.specs.Withdraw.{withdraw_refusal, withdrawal}
use Rattle.book.specs.Order.{order_refusal, ordering}
use Rattle.book.specs.Cancel.{cancel_refusal, cancellation}
use Rattle.book.specs.Clear.{clear_refusal, clearing}
use Rattle.book.specs.Close.{closing}
use Rattle.book.specs.Calls.{Call, call_enrol, call_offer, call_take, call_withdraw, call_order, call_cancel, call_clear, call_close, outcome, book_after}
use Rattle.book.proofs.Laws.Answer.RefusalLaws.{not-refused, first_passed}
use Rattle.book.proofs.Laws.Sound.SoundLaws.{sound_facts}
use Rattle.demands.proofs.Laws.Sound.KeepLaws.{fresh-sound, enrolment-sound, withdrawal-sound, cancellation-sound, closing-sound}
use Rattle.demands.proofs.Laws.Sound.OfferLaws.{offering-sound}
use Rattle.book.proofs.Laws.Order.OrderingLaws.{ordering_in_call_sound}
use Rattle.book.proofs.Laws.Take.TakingLaws.{taking-sound}

-- a call that is not refused was made on a sound book
pub was_sound : (b : Book) (c : Call) → (outcome b c).refusal ≡ 0 → sound b ≡ true
unfolding enrolment offering taking withdrawal ordering cancellation clearing closing enrol_refusal offer_refusal take_refusal withdraw_refusal order_refusal
    cancel_refusal clear_refusal
was_sound b (call_enrol kind capacity asset) z = first_passed b _ (not-refused (enrol_refusal b kind capacity asset) b _ z)
was_sound b (call_offer unit partner price amounts) z = first_passed b _ (not-refused (offer_refusal b unit partner price amounts) b _ z)
was_sound b (call_take unit number quantity lent) z = first_passed b _ (not-refused (take_refusal b unit number quantity lent) b _ z)
was_sound b (call_withdraw unit number) z = first_passed b _ (not-refused (withdraw_refusal b unit number) b _ z)
was_sound b (call_order unit direction period price quantity lent) z = first_passed b _
    (not-refused (order_refusal b unit direction period price quantity lent) b _ z)
was_sound b (call_cancel unit number) z = first_passed b _ (not-refused (cancel_refusal b unit number) b _ z)
was_sound b (call_clear lent) z = first_passed b _ (not-refused (clear_refusal b lent) b _ z)
was_sound b call_close z = first_passed b [] (not-refused (first_refusal (unsound b ∷ [])) b _ z)

-- from the laws of an order in the rolling phase and of a clear
module _
    (rolling : (b : Book) (u d p price q lent : ℕ) → b.phase ≡ rolling_phase → sound b ≡ true → sound (ordering b u d p price q lent).book ≡ true)
    (cleared : (b : Book) (lent : ℕ) → sound b ≡ true → sound (clearing b lent).book ≡ true)
  where
    pub outcome-sound : (b : Book) (c : Call) → sound b ≡ true → sound (outcome b c).book ≡ true
    outcome-sound b (call_enrol kind capacity asset) e = enrolment-sound b kind capacity asset e
    outcome-sound b (call_offer unit partner price amounts) e = offering-sound b unit partner price amounts e
    outcome-sound b (call_take unit number quantity lent) e = taking-sound b unit number quantity lent e
    outcome-sound b (call_withdraw unit number) e = withdrawal-sound b unit number e
    outcome-sound b (call_order unit direction period price quantity lent) e = go (ℕ_discrete b.phase call_phase)
      where
        go : Dec (b.phase ≡ call_phase) → sound (ordering b unit direction period price quantity lent).book ≡ true
        go (yes c) = ordering_in_call_sound b unit direction period price quantity lent c e
        go (no n) =
            let h = (sound_facts b e).formed.head.phase in
            rolling b unit direction period price quantity lent (omega arith) e
    outcome-sound b (call_cancel unit number) e = cancellation-sound b unit number e
    outcome-sound b (call_clear lent) e = cleared b lent e
    outcome-sound b call_close e = closing-sound b e

    pub calls_sound : (b : Book) (cs : List Call) → sound b ≡ true → sound (book_after b cs) ≡ true
    unfolding book_after
    calls_sound b [] e = e
    calls_sound b (c ∷ cs) e = calls_sound (outcome b c).book cs (outcome-sound b c e)

    pub every-book-sound : (words : ℕ) (r : Rules) (cs : List Call) → opening_refusal words r ≡ 0
        → sound (book_after (fresh r) cs) ≡ true
    every-book-sound words r cs z = calls_sound (fresh r) cs (fresh-sound words r z)
