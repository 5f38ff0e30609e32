-- An order that needs no place: what was accepted is so still, and what is let through trades whole.
use Rattle.std.proofs.Common.{◌≡◌, ℕ, ◌<◌, ◌≤◌, Bool, true, false, cond, ◌&&◌, eqb, ltb, leb, ◌⊎◌, List, [], ◌∷◌, ◌++◌, length, refl}
use Rattle.std.proofs.Common.{ap, ◌∙◌, inl, inr, append-nil, arith, ltb-false, eq-eqb, ne_eqb}
use borrow.Author.Tests.{eqb-false}
use Rattle.measures.specs.Lists.{sum_of, table_from}
use Rattle.measures.proofs.ListLaws.{cond-false, and_right_false, or_neither, and_holding}
use Rattle.matching.specs.Orders.{Order as OpenOrder, leaving, ask_ahead, insert, laid}
use Rattle.matching.specs.Rolling.{Met, meet, candidate, counterparts, matches}
use Rattle.matching.proofs.Laws.Rolling.RollingLaws.{traded_and_left}
use Rattle.book.specs.Book.{Book, call_phase, most_orders, with_orders}
use Rattle.book.specs.Refusals.{
  Outcome,
  Check,
  check,
  first_refusal,
  decided,
  unsound,
  needs_place,
  unknown_unit,
  few_rows,
  bad_price,
  bad_quantity,
  bad_period,
  bad_direction,
  other_direction,
  two_open,
  numbers_used,
  hour_misfit,
  term_misfit,
  volume_misfit,
}
use Rattle.book.specs.Order.{order_declares, new_order, order_refusal, waiting, ordered, ordered_in_call, ordered_in_rolling, ordering}
use Rattle.book.specs.NoPlace.{ordering_with, LetThrough, SameAsBefore, Check17Stays, TradesWhole, WholeOnFull, OnFull}
use Rattle.book.proofs.Laws.Answer.RefusalLaws.{not-refused, first_passed}
use Rattle.book.proofs.Laws.Answer.MadeLaws.{decided-refused, decided-accepted}
use Rattle.book.proofs.Laws.Sound.SoundLaws.{sound_facts}
use Rattle.book.proofs.Laws.Rows.TradeLaws.{kept_rows}
use Rattle.book.proofs.Laws.Order.OrderingLaws.{call_needs, rest_needs, whole_needs_none, order_passed}

-- a check that is not the first to apply may apply or not
earlier_first : (pre post : List Check) (n : ℕ) (t : Bool) → (first_refusal (pre ++ (check n true ∷ post)) ≡ n → ⊥)
    → first_refusal (pre ++ (check n t ∷ post)) ≡ first_refusal (pre ++ (check n true ∷ post))
unfolding first_refusal
earlier_first [] post n t h = absurd (h refl)
earlier_first (c ∷ pre) post n t h = go c.applies (λ k. earlier_first pre post n t k) h
  where
    go : (a : Bool) → ((first_refusal (pre ++ (check n true ∷ post)) ≡ n → ⊥) → first_refusal (pre ++ (check n t ∷ post)) ≡ first_refusal (pre ++ (check n true ∷ post)))
        → (cond a c.number (first_refusal (pre ++ (check n true ∷ post))) ≡ n → ⊥)
        → cond a c.number (first_refusal (pre ++ (check n t ∷ post))) ≡ cond a c.number (first_refusal (pre ++ (check n true ∷ post)))
    go true ih k = refl
    go false ih k = ih k

module _ (b : Book) (u d p price q lent : ℕ) where
  abbrev arriving : OpenOrder
  arriving = new_order b u d p price q

  abbrev full : Bool
  full = leb most_orders (length b.orders)

  by_check : ordering b u d p price q lent ≡ ordering_with (check 17 (full && needs_place b arriving)) b u d p price q lent
  unfolding ordering order_refusal ordering_with
  by_check = refl

  same_check : (s t : Bool) → s ≡ t → ordering_with (check 17 s) b u d p price q lent ≡ ordering_with (check 17 t) b u d p price q lent
  same_check s t e = ap (λ (c : Bool). ordering_with (check 17 c) b u d p price q lent) e

  -- where 17 is not what turns it down, it does not count
  not_17 : ((ordering_with (check 17 true) b u d p price q lent).refusal ≡ 17 → ⊥) → (t : Bool)
      → ordering_with (check 17 t) b u d p price q lent ≡ ordering_with (check 17 true) b u d p price q lent
  unfolding ordering_with
  not_17 n t =
      ap (λ (r : ℕ). decided r b (ordered b arriving))
      (earlier_first (unsound b ∷ unknown_unit b u ∷ few_rows lent ∷ bad_price b price ∷ bad_quantity q ∷ bad_period b p ∷ bad_direction d ∷ other_direction b u d p
      ∷ two_open b u p ∷ [])
      (numbers_used b ∷ hour_misfit b u (order_declares b u d p q) ∷ term_misfit b u (order_declares b u d p q) ∷ volume_misfit b u (order_declares b u d p q) ∷ [])
      17 t
      (λ e. n (ap (λ (o : Outcome). o.refusal) (decided-refused _ b (ordered b arriving) (omega arith)) ∙ e)))

pub let_through : LetThrough
let_through b u d p price q lent n e =
    by_check b u d p price q lent
    ∙ same_check b u d p price q lent _ false
    (and_right_false (full b u d p price q lent) (needs_place b (new_order b u d p price q)) (whole_needs_none b (new_order b u d p price q) n e))

pub check_17_stays : Check17Stays
check_17_stays b u d p price q lent h =
    by_check b u d p price q lent
    ∙ same_check b u d p price q lent _ _ (and_holding (full b u d p price q lent) (needs_place b (new_order b u d p price q)) (needs h))
  where
    needs : (0 < (meet (new_order b u d p price q) b.orders).left) ⊎ (b.phase ≡ call_phase) → needs_place b (new_order b u d p price q) ≡ true
    needs (inl l) = rest_needs b (new_order b u d p price q) l
    needs (inr c) = call_needs b (new_order b u d p price q) c

pub same_as_before : SameAsBefore
same_as_before b u d p price q lent n = by_check b u d p price q lent ∙ go (leb most_orders (length b.orders)) n
  where
    go : (a : Bool) → ((ordering_with (check 17 a) b u d p price q lent).refusal ≡ 17 → ⊥)
        → ordering_with (check 17 (a && needs_place b (new_order b u d p price q))) b u d p price q lent ≡ ordering_with (check 17 a) b u d p price q lent
    go true k = not_17 b u d p price q lent k (needs_place b (new_order b u d p price q))
    go false k = refl

-- an accepted order on a full book
module _ (b : Book) (u d p price q lent : ℕ) (many : most_orders ≤ length b.orders) (z : (ordering b u d p price q lent).refusal ≡ 0) where
  abbrev o : OpenOrder
  o = new_order b u d p price q

  abbrev met : Met
  met = meet o b.orders

  passed : order_refusal b u d p price q lent ≡ 0
  unfolding ordering
  passed = not-refused (order_refusal b u d p price q lent) b (ordered b o) z

  needs_none : needs_place b o ≡ false
  unfolding order_refusal
  needs_none = go (needs_place b o) refl
    where
      go : (t : Bool) → needs_place b o ≡ t → t ≡ false
      go true e =
          let s = sound_facts b (first_passed b _ passed) in
          let r = (order_passed b u d p price q lent s passed).room e in
          absurd (omega arith)
      go false e = refl

  rolling_whole : (b.phase ≡ call_phase → ⊥) × (met.left ≡ 0)
  unfolding needs_place
  rolling_whole =
      let t = or_neither (eqb b.phase call_phase) (ltb 0 met.left) needs_none in
      let l : met.left ≤ 0 = ltb-false 0 met.left t.1 in
      (eqb-false b.phase call_phase t.0, omega arith)

  is_rolled : ordering b u d p price q lent ≡ ordered_in_rolling b o
  unfolding ordering
  is_rolled =
      decided-accepted (order_refusal b u d p price q lent) b (ordered b o) passed
      ∙ cond-false (eqb b.phase call_phase) (ordered_in_call b o) (ordered_in_rolling b o) (ne_eqb b.phase call_phase rolling_whole.0) refl

  none_waits : met.orders ++ waiting (leaving o met.left) ≡ met.orders
  unfolding waiting
  none_waits = rw (eq-eqb met.left 0 rolling_whole.1) (append-nil met.orders)

  trades_whole : TradesWhole b o (ordering b u d p price q lent)
  trades_whole =
      record {
        rolling = rolling_whole.0;
        whole =
            let t = traded_and_left o b.orders in
            let l = rolling_whole.1 in
            ap (λ (r : Outcome). sum_of (λ t. t.quantity) r.rows) is_rolled ∙ omega arith;
        waiting =
            ap (λ (r : Outcome). r.book.orders) is_rolled
            ∙ ap (λ (c : Book). c.orders) (kept_rows met.rows (with_orders b (met.orders ++ waiting (leaving o met.left)))).rest
            ∙ none_waits;
      }

pub whole_on_full : WholeOnFull
whole_on_full = trades_whole

-- by computation
pub on_full : OnFull
unfolding needs_place meet counterparts candidate matches laid insert ask_ahead table_from
on_full = (refl, refl, refl, refl)
