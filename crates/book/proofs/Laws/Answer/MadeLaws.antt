-- From an outcome to the contract of a call: a law for the refused and one for the accepted.
use Rattle.std.proofs.Common.{◌≡◌, ℕ, ◌+◌, ◌≤◌, Bool, true, false, cond, not, ◌&&◌, eqb, leb, List, [], ◌∷◌, length, refl}
use Rattle.std.proofs.Common.{sym, ap, ◌∙◌, ap₂, arith, length-append, ltb-false, eq-eqb, ne_eqb, leb-true}
use Rattle.measures.proofs.ListLaws.{cond-true, cond-false, and_left, and_right, all_true, both_ways}
use Rattle.matching.specs.Orders.{Row}
use Rattle.matching.specs.Memory.{written}
use Rattle.limits.specs.Units.{periods}
use Rattle.measures.specs.Lists.{keep}
use Rattle.matching.specs.Clearing.{clear_from}
use Rattle.matching.specs.Rolling.{meet}
use Rattle.book.specs.Trades.{rows_booked}
use Rattle.book.specs.Book.{Book, rolling_phase, offer_of, with_offers, with_orders, in_phase, next_number}
use Rattle.book.specs.Sound.{sound}
use Rattle.book.specs.Layout.{DAYS, PHASE, GIVEN, UNITS, LAYOUT, layout_number, book_words, word, decode, laid_out, Aside}
use Rattle.book.specs.Refusals.{Outcome, Check, first_refusal, decided, accepted, unsound}
use Rattle.book.specs.Enrol.{enrolment, enrol_refusal, enrol_checks, enrolled}
use Rattle.book.specs.Offer.{offering, offer_refusal, offer_checks, offered}
use Rattle.book.specs.Take.{taking, take_refusal, take_checks, taken_parts, take_rows, offers_less}
use Rattle.book.specs.Withdraw.{withdrawal, withdraw_refusal, withdraw_checks}
use Rattle.book.specs.Order.{ordering, order_refusal, order_checks, new_order, ordered_in_call, ordered_in_rolling, ordered}
use Rattle.book.specs.Cancel.{cancellation, cancel_refusal, cancel_checks}
use Rattle.book.specs.Clear.{clearing, clear_refusal, clear_checks}
use Rattle.book.specs.Close.{closing, day_closed}
use Rattle.book.specs.Calls.{Call, call_enrol, call_offer, call_take, call_withdraw, call_order, call_cancel, call_clear, call_close, outcome}
use Rattle.std.proofs.Common.{Ok, Err, zero}
use Rattle.std.specs.Result.{IsErrAnd}
use Rattle.measures.specs.declared.refusals.Refusal.{Refusal}
use Rattle.measures.specs.Refused.{number_of}
use Rattle.measures.proofs.RefusedLaws.{number_some, number_fixes}
use Rattle.book.specs.Contract.{Answer, Told, told_by, sound_in, outcome_on, Made}
use Rattle.book.specs.Inner.Readable.{Readable}
use Rattle.book.proofs.Laws.Memory.RangeFacts.{Head, head_facts, readable, units_held}
use Rattle.book.proofs.Laws.Answer.RefusalLaws.{none_applies}

-- memory that holds a sound book is laid out for one, and what it decodes to is sound
pub sound-laid : (m : List ℕ) → sound_in m ≡ true → laid_out m ≡ true
unfolding sound_in
sound-laid m e = and_left (laid_out m) (sound (decode m)) e

pub sound-book : (m : List ℕ) → sound_in m ≡ true → sound (decode m) ≡ true
unfolding sound_in
sound-book m e = and_right (laid_out m) (sound (decode m)) e

pub sound_head : (m : List ℕ) → sound_in m ≡ true → Head m
unfolding sound
sound_head m e = let t = all_true _ (sound-book m e) in head_facts m t.0

pub sound_readable : (m : List ℕ) → sound_in m ≡ true → Readable m
sound_readable m e = readable m (sound_head m e) (leb-true _ _ (and_left (leb (book_words (word m DAYS)) (length m)) (eqb (word m LAYOUT) layout_number)
    (sound-laid m e)))

-- a chain of checks on a book that is sound, or not
pub chain_sound : (b : Book) (cs : List Check) → sound b ≡ true → first_refusal (unsound b ∷ cs) ≡ first_refusal cs
unfolding first_refusal
chain_sound b cs e = rw e refl

pub chain_unsound : (b : Book) (cs : List Check) → sound b ≡ false → first_refusal (unsound b ∷ cs) ≡ 1
unfolding first_refusal
chain_unsound b cs e = rw e refl

-- an outcome that was decided
pub decided-refused : (r : ℕ) (b : Book) (o : Outcome) → (r ≡ 0 → ⊥) → decided r b o ≡ record { refusal = r; number = 0; rows = []; book = b }
decided-refused r b o n = cond-false (eqb r 0) o _ (ne_eqb r 0 n) refl

pub decided-accepted : (r : ℕ) (b : Book) (o : Outcome) → r ≡ 0 → decided r b o ≡ o
decided-accepted r b o e = cond-true (eqb r 0) o _ (eq-eqb r 0 e) refl

-- on memory that holds a sound book a call gives what it gives on the book
pub outcome-sound : (m : List ℕ) (c : Call) → sound_in m ≡ true → outcome_on m c ≡ outcome (decode m) c
unfolding outcome_on
outcome-sound m c e = cond-true (laid_out m) (outcome (decode m) c) _ (sound-laid m e) refl

-- a call that is not refused was made on a book
pub outcome-accepted : (m : List ℕ) (c : Call) → (outcome_on m c).refusal ≡ 0 → outcome_on m c ≡ outcome (decode m) c
unfolding outcome_on
outcome-accepted m c = go (laid_out m)
  where
    go : (t : Bool) → (cond t (outcome (decode m) c) (record { refusal = 1; number = 0; rows = []; book = decode m })).refusal ≡ 0
        → cond t (outcome (decode m) c) (record { refusal = 1; number = 0; rows = []; book = decode m }) ≡ outcome (decode m) c
    go true z = refl
    go false z = absurd (omega arith)

-- the contract of a refused call, from what its outcome is
pub made_refused : (m rows : List ℕ) (c : Call) (r : Refusal) → outcome_on m c ≡ record { refusal = number_of r; number = 0; rows = []; book = decode m }
    → Made m rows c (Err r) m rows
made_refused m rows c r e = record {
  answer = rw (e, ne_eqb (number_of r) 0 (number_some r)) refl;
  refused = λ h. (refl, refl);
  accepted = λ h. absurd (number_some r (sym (ap (λ (o : Outcome). o.refusal) e) ∙ h));
  handed = λ h. absurd (number_some r (sym (ap (λ (o : Outcome). o.refusal) e) ∙ h));
  aside = record { layout = refl; past = refl };
  long = refl;
}

-- what is told fixes the answer
abbrev done_answer : ℕ → ℕ → Answer
done_answer n k = Ok (record { number = n; count = k })

pub told_fixes : (a b : Answer) → told_by a ≡ told_by b → a ≡ b
told_fixes (Ok d) (Ok d') e =
    ap₂ (λ (n k : ℕ). done_answer n k) (ap (λ (t : Told). t.number) e) (ap (λ (t : Told). t.count) e)
told_fixes (Ok d) (Err r) e = both_ways (ap (λ (t : Told). t.done) e)
told_fixes (Err r) (Ok d) e = both_ways (sym (ap (λ (t : Told). t.done) e))
told_fixes (Err r) (Err r') e = ap Err (number_fixes r r' (ap (λ (t : Told). t.refusal) e))

-- the contract of an accepted call
pub made_accepted : (m rows : List ℕ) (c : Call) (n : ℕ) (rs : List Row) (b : Book) (k : ℕ) (m' rows' : List ℕ) → outcome_on m c ≡ accepted n rs b
    → k ≡ length rs → decode m' ≡ b → rows' ≡ written rows rs → Aside m m' → length m' ≡ length m
    → Made m rows c (Ok (record { number = n; count = k })) m' rows'
made_accepted m rows c n rs b k m' rows' e ek d w p l = record {
  answer = rw (e, ek) refl;
  refused = λ h. absurd (h (ap (λ (o : Outcome). o.refusal) e));
  accepted = λ h. d ∙ sym (ap (λ (o : Outcome). o.book) e);
  handed = λ h. w ∙ ap (λ (o : Outcome). written rows o.rows) (sym e);
  aside = p;
  long = l;
}

-- each call is its checks behind that of soundness, and its effect
abbrev pub checks_of : Book → Call → List Check
checks_of b (call_enrol kind capacity asset) = enrol_checks b kind capacity asset
checks_of b (call_offer unit partner price amounts) = offer_checks b unit partner price amounts
checks_of b (call_take unit number quantity lent) = take_checks b unit number quantity lent
checks_of b (call_withdraw unit number) = withdraw_checks b unit number
checks_of b (call_order unit direction period price quantity lent) = order_checks b unit direction period price quantity lent
checks_of b (call_cancel unit number) = cancel_checks b unit number
checks_of b (call_clear lent) = clear_checks b lent
checks_of b call_close = []

abbrev pub effect_of : Book → Call → Outcome
effect_of b (call_enrol kind capacity asset) = accepted (length (enrolled b kind capacity asset).units) [] (enrolled b kind capacity asset)
effect_of b (call_offer unit partner price amounts) = accepted (next_number b) [] (offered b unit partner price amounts)
effect_of b (call_take unit number quantity lent) =
    accepted 0 (take_rows b (offer_of b number) unit (taken_parts b number quantity))
    (rows_booked (take_rows b (offer_of b number) unit (taken_parts b number quantity))
    (with_offers b (offers_less number (taken_parts b number quantity) b.offers)))
effect_of b (call_withdraw unit number) = accepted 0 [] (with_offers b (keep (λ o. not (eqb o.number number)) b.offers))
effect_of b (call_order unit direction period price quantity lent) = ordered b (new_order b unit direction period price quantity)
effect_of b (call_cancel unit number) = accepted 0 [] (with_orders b (keep (λ o. not (eqb o.number number)) b.orders))
effect_of b (call_clear lent) =
    accepted 0 (clear_from 0 (periods b.rules.days) b.orders).rows
    (in_phase (rows_booked (clear_from 0 (periods b.rules.days) b.orders).rows (with_orders b (clear_from 0 (periods b.rules.days) b.orders).orders))
    rolling_phase)
effect_of b call_close = accepted 0 [] (day_closed b)

pub outcome_is : (b : Book) (c : Call) → outcome b c ≡ decided (first_refusal (unsound b ∷ checks_of b c)) b (effect_of b c)
unfolding enrolment enrol_refusal offering offer_refusal taking take_refusal withdrawal withdraw_refusal ordering order_refusal cancellation cancel_refusal
    clearing clear_refusal closing
outcome_is b (call_enrol kind capacity asset) = refl
outcome_is b (call_offer unit partner price amounts) = refl
outcome_is b (call_take unit number quantity lent) = refl
outcome_is b (call_withdraw unit number) = refl
outcome_is b (call_order unit direction period price quantity lent) = refl
outcome_is b (call_cancel unit number) = refl
outcome_is b (call_clear lent) = refl
outcome_is b call_close = refl

-- the three ways of a call: not a sound book, a check that applies, or none
unsound_outcome : (m : List ℕ) (c : Call) → sound_in m ≡ false → outcome_on m c ≡ record { refusal = 1; number = 0; rows = []; book = decode m }
unfolding sound_in outcome_on
unsound_outcome m c e = go (laid_out m) (sound (decode m)) refl refl
  where
    go : (a s : Bool) → laid_out m ≡ a → sound (decode m) ≡ s → outcome_on m c ≡ record { refusal = 1; number = 0; rows = []; book = decode m }
    go false s ea es = cond-false (laid_out m) (outcome (decode m) c) _ ea refl
    go true false ea es =
        cond-true (laid_out m) (outcome (decode m) c) _ ea refl ∙ outcome_is (decode m) c
        ∙ ap (λ (r : ℕ). decided r (decode m) (effect_of (decode m) c)) (chain_unsound (decode m) (checks_of (decode m) c) es)
    go true true ea es = both_ways (sym (and_true' ea es) ∙ e)
      where
        and_true' : laid_out m ≡ true → sound (decode m) ≡ true → (laid_out m && sound (decode m)) ≡ true
        and_true' x y = rw (x, y) refl

-- what the check of soundness gives
pub is_sound : (m : List ℕ) → zero ≡ cond (sound_in m) 0 1 → sound_in m ≡ true
is_sound m e = go (sound_in m) refl e
  where
    go : (s : Bool) → sound_in m ≡ s → zero ≡ cond s 0 1 → sound_in m ≡ true
    go true p q = p
    go false p q = absurd (omega arith)

-- a call on the memory m, whose checks read x
-- a refusal r that a `?` hands on is the answer: what holds of the one holds of the other
pub handed_on : (P : Answer → Type 0) (a : Answer) (r : Refusal) → IsErrAnd a (λ y. y ≡ r) → P (Err r) → P a
handed_on P (Ok d) r i p = absurd i
handed_on P (Err y) r i p = rw i p

module _ (m rows : List ℕ) (c : Call) where
  pub made_unsound : (a : Answer) (r : Refusal) → IsErrAnd a (λ y. y ≡ r) → number_of r ≡ cond (sound_in m) 0 1 → Made m rows c a m rows
  made_unsound a r i e = go (sound_in m) refl e
    where
      go : (s : Bool) → sound_in m ≡ s → number_of r ≡ cond s 0 1 → Made m rows c a m rows
      go true p q = absurd (number_some r q)
      go false p q =
          handed_on (λ x. Made m rows c x m rows) a r i
          (made_refused m rows c r
          (unsound_outcome m c p ∙ ap (λ (n : ℕ). record { refusal = n; number = 0; rows = []; book = decode m }) (sym q)))

  pub made_checked : (x : List ℕ) (a : Answer) (r : Refusal) → IsErrAnd a (λ y. y ≡ r) → zero ≡ cond (sound_in m) 0 1 → x ≡ m
      → number_of r ≡ first_refusal (checks_of (decode x) c) → Made m rows c a m rows
  made_checked x a r i z same f =
      let e = is_sound m z in
      let g = rw same at f in
      handed_on (λ y. Made m rows c y m rows) a r i
      (made_refused m rows c r
      (outcome-sound m c e ∙ outcome_is (decode m) c
      ∙ ap (λ (t : ℕ). decided t (decode m) (effect_of (decode m) c))
      (chain_sound (decode m) (checks_of (decode m) c) (sound-book m e) ∙ sym g)
      ∙ decided-refused (number_of r) (decode m) (effect_of (decode m) c) (number_some r)))

  pub made_done : (n : ℕ) (rs : List Row) (b : Book) (k : ℕ) (x m' rows' : List ℕ) → zero ≡ cond (sound_in m) 0 1 → x ≡ m
      → 0 ≡ first_refusal (checks_of (decode x) c) → effect_of (decode m) c ≡ accepted n rs b
      → k ≡ length rs → decode m' ≡ b → rows' ≡ written rows rs → Aside m m' → length m' ≡ length m
      → Made m rows c (Ok (record { number = n; count = k })) m' rows'
  made_done n rs b k x m' rows' z same f g =
      let e = is_sound m z in
      made_accepted m rows c n rs b k m' rows'
      (outcome-sound m c e ∙ outcome_is (decode m) c
      ∙ ap (λ (t : ℕ). decided t (decode m) (effect_of (decode m) c))
      (chain_sound (decode m) (checks_of (decode m) c) (sound-book m e) ∙ sym (rw same at f))
      ∙ decided-accepted 0 (decode m) (effect_of (decode m) c) refl ∙ g)

-- the numbers that enrol and offer return, in memory
pub enrol_number : (m : List ℕ) (kind capacity asset : ℕ) → effect_of (decode m) (call_enrol kind capacity asset)
    ≡ accepted (word m UNITS + 1) [] (enrolled (decode m) kind capacity asset)
enrol_number m kind capacity asset =
    ap (λ (n : ℕ). accepted n [] (enrolled (decode m) kind capacity asset))
    (length-append (decode m).units _ ∙ ap (λ (n : ℕ). n + 1) (units_held m))

pub offer_number : (m : List ℕ) (unit partner price : ℕ) (amounts : List ℕ) → effect_of (decode m) (call_offer unit partner price amounts)
    ≡ accepted (word m GIVEN + 1) [] (offered (decode m) unit partner price amounts)
unfolding decode
offer_number m unit partner price amounts = refl

-- a call with no check but soundness
pub no_checks : 0 ≡ first_refusal []
unfolding first_refusal
no_checks = refl

-- enough rows were lent where a clear's checks passed
pub clear_passed : (m : List ℕ) (lent : ℕ) → 0 ≡ first_refusal (clear_checks (decode m) lent) → 4464 ≤ lent
clear_passed m lent e =
    let t = none_applies (clear_checks (decode m) lent) (omega arith, (omega arith, tt)) (sym e) in
    ltb-false lent 4464 t.0

-- the effect of an order in either phase
module _ (m : List ℕ) (u d p price q lent : ℕ) where
  pub order_called : word m PHASE ≡ 0 → effect_of (decode m) (call_order u d p price q lent)
      ≡ accepted (word m GIVEN + 1) [] (ordered_in_call (decode m) (new_order (decode m) u d p price q)).book
  unfolding decode
  order_called e = cond-true (eqb (word m PHASE) 0) _ _ (eq-eqb (word m PHASE) 0 e) refl

  pub order_rolled : (word m PHASE ≡ 0 → ⊥) → effect_of (decode m) (call_order u d p price q lent)
      ≡ accepted (word m GIVEN + 1) (meet (new_order (decode m) u d p price q) (decode m).orders).rows
      (ordered_in_rolling (decode m) (new_order (decode m) u d p price q)).book
  unfolding decode
  order_rolled n = cond-false (eqb (word m PHASE) 0) _ _ (ne_eqb (word m PHASE) 0 n) refl
