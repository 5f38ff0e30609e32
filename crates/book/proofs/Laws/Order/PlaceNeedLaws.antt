-- Whether an order lacks a place, on a book in memory.
use Rattle.std.proofs.Common.{◌≡◌, ℕ, zero, suc, ◌+◌, ◌<◌, ◌≤◌, Bool, true, false, not, ◌||◌}
use Rattle.std.proofs.Common.{eqb, ltb, List, length, sym, refl, ap, ◌∙◌, arith, le-ltb, lt-ltb, ne_eqb, le-leb}
use borrow.Author.Tests.{lt-leb}
use borrow.Rule.Slice.PartMut.{mid_len}
use Rattle.matching.specs.Orders.{Order as OpenOrder, order_with}
use Rattle.matching.specs.Memory.{orders_in}
use Rattle.matching.specs.Rolling.{meet}
use Rattle.matching.specs.Answers.{left_over}
use Rattle.matching.proofs.Laws.Orders.PlacedLaws.{stand_there}
use Rattle.matching.proofs.Laws.Rolling.LeftOverLaws.{left-numbered, left_there}
use Rattle.book.specs.Book.{call_phase}
use Rattle.book.specs.Layout.{PHASE, ORDERS, GIVEN, orders_start, amounts_start, word, orders_part, decode}
use Rattle.book.specs.Refusals.{needs_place, orders_full}
use Rattle.book.specs.Order.{new_order}
use Rattle.book.specs.Inner.Readable.{Readable}
use Rattle.book.proofs.Laws.Memory.RangeFacts.{orders_held, phase_held}
use Rattle.book.proofs.Laws.Check.NumberLaws.{orders_from}
use Rattle.book.proofs.Laws.Order.OrderingLaws.{call_needs}
use Rattle.book.proofs.Laws.Order.WaitLaws.{new_order_lem}

some_left : (n : ℕ) → not (eqb n 0) ≡ ltb 0 n
some_left zero = sym (le-ltb 0 0 (omega arith))
some_left (suc n) = ap not (ne_eqb (suc n) 0 (omega arith)) ∙ sym (lt-ltb 0 (suc n) (omega arith))

module _ (m : List ℕ) (u d p price q : ℕ) where
  abbrev arriving : OpenOrder
  arriving = new_order (decode m) u d p price q

  abbrev lacking : Bool
  lacking = (orders_full (decode m) arriving).applies

  pub place_free : word m ORDERS < 256 → false ≡ lacking
  place_free h = rw (lt-leb 256 (length (decode m).orders) (rw (orders_held m) h)) refl

  module _ (full : 256 ≤ word m ORDERS) where
    full_needs : lacking ≡ needs_place (decode m) arriving
    full_needs = rw (le-leb 256 (length (decode m).orders) (rw (orders_held m) full)) refl

    pub full_in_call : word m PHASE ≡ 0 → true ≡ lacking
    full_in_call e = sym (full_needs ∙ call_needs (decode m) arriving (phase_held m ∙ e))

    -- what would be left of it, whatever its number
    left_is : Readable m → left_over (orders_part m) (word m ORDERS) (order_with 0 u d p price q) ≡ (meet arriving (decode m).orders).left
    left_is r =
        let l = mid_len orders_start amounts_start m (omega (arith, r.long)) in
        left_there (orders_part m) (word m ORDERS) (order_with 0 u d p price q)
        (stand_there (orders_part m) (word m ORDERS) r.orders_to (omega (arith, r.orders_to)))
        ∙ left-numbered 0 (word m GIVEN + 1) u d p price q (orders_in (orders_part m) (word m ORDERS))
        ∙ ap (λ (o : OpenOrder). (meet o (orders_in (orders_part m) (word m ORDERS))).left) (sym (new_order_lem m u d p price q))
        ∙ ap (λ (os : List OpenOrder). (meet arriving os).left) (sym (orders_from m))

    pub full_rolling : Readable m → (word m PHASE ≡ 0 → ⊥) → (left : ℕ) → left ≡ left_over (orders_part m) (word m ORDERS) (order_with 0 u d p price q)
        → not (eqb left 0) ≡ lacking
    unfolding needs_place
    full_rolling r n left e =
        some_left left ∙ ap (ltb 0) (e ∙ left_is r)
        ∙ sym (ap (λ (b : Bool). b || ltb 0 (meet arriving (decode m).orders).left) (ne_eqb (decode m).phase call_phase (λ z. n (sym (phase_held m) ∙ z))))
        ∙ sym full_needs
