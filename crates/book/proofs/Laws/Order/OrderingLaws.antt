-- Order in the call phase leaves a sound book; what an accepted order passed, in either phase.
use Rattle.std.proofs.Common.{◌≡◌, ℕ, ◌<◌, ◌≤◌, Bool, true, false, cond, not, ◌&&◌, eqb, ltb, List, [], ◌∷◌, length, refl}
use Rattle.std.proofs.Common.{sym, arith, ltb-false, ltb-true, le-ltb, lt-ltb, eq-eqb, ne_eqb, eqb-true, leb-false, leb-true}
use native.Mathlib.Decide.{ℕ_discrete}
use borrow.Author.Tests.{not-false}
use Rattle.measures.specs.Ranges.{most_energy}
use Rattle.measures.specs.Lists.{Each, keep}
use Rattle.measures.proofs.RangeLaws.{In, within}
use Rattle.measures.proofs.ListLaws.{and_true, or_left, or_right, not_both, or_neither}
use Rattle.matching.specs.Orders.{Order as OpenOrder}
use Rattle.matching.specs.Rolling.{meet}
use Rattle.book.specs.Book.{Book, call_phase, most_orders, most_numbers, unit_of, figures_of}
use Rattle.book.specs.Trades.{raises, lowers}
use Rattle.book.specs.Fit.{Declaration, nothing}
use Rattle.book.specs.Sound.{one_direction, sound}
use Rattle.book.specs.Refusals.{marked_against, orders_of_unit, unsound, unknown_unit, few_rows, bad_price, bad_quantity, bad_period}
use Rattle.book.specs.Refusals.{bad_direction, other_direction, two_open, needs_place, orders_full, numbers_used, hour_misfit, term_misfit, volume_misfit}
use Rattle.book.specs.Order.{order_declares, order_refusal, new_order, ordering}
use Rattle.matching.proofs.Laws.Lists.RemainLaws.{each_holds}
use Rattle.book.proofs.Laws.Sound.FitLaws.{Fits, fits_with, fits_after}
use Rattle.book.proofs.Laws.Sound.SoundLaws.{OrderRanges, Sound, sound_facts, sound-holds}
use Rattle.book.proofs.Laws.Answer.RefusalLaws.{NoneApplies, none_applies, decided-sound}
use Rattle.book.proofs.Laws.Sound.DeclareLaws.{with_order, Beside, same_direction, formed_order, moved_order}

-- whether an order goes another way, and whether it is of a unit and a period
abbrev pub goes_against : ℕ → OpenOrder → Bool
goes_against d o = not (eqb o.direction d)

abbrev pub of_unit : ℕ → ℕ → OpenOrder → Bool
of_unit u p o = eqb o.unit u && eqb o.period p

-- an order of unit u in period p goes the way d
abbrev pub Follows : ℕ → ℕ → ℕ → OpenOrder → Type 0
Follows u d p x = x.unit ≡ u → x.period ≡ p → x.direction ≡ d

-- where no order of the unit and period goes another way, each goes this one
one_direction_lem : (u d p : ℕ) (os : List OpenOrder) → length (keep (goes_against d) (keep (of_unit u p) os)) ≡ 0 → Each (Follows u d p) os
one_direction_lem u d p [] e = tt
one_direction_lem u d p (x ∷ os) e = go (eqb x.unit u && eqb x.period p) refl e (λ h. one_direction_lem u d p os h)
  where
    mine : List OpenOrder
    mine = keep (of_unit u p) os

    same : (t : Bool) → goes_against d x ≡ t → length (cond t (x ∷ keep (goes_against d) mine) (keep (goes_against d) mine)) ≡ 0
        → (length (keep (goes_against d) mine) ≡ 0 → Each (Follows u d p) os) → Each (Follows u d p) (x ∷ os)
    same true q h ih = absurd (omega arith)
    same false q h ih = (λ a c. eqb-true _ _ (not-false _ q), ih h)

    go : (t : Bool) → of_unit u p x ≡ t → length (keep (goes_against d) (cond t (x ∷ mine) mine)) ≡ 0
        → (length (keep (goes_against d) mine) ≡ 0 → Each (Follows u d p) os) → Each (Follows u d p) (x ∷ os)
    go true q h ih = same (not (eqb x.direction d)) refl h ih
    go false q h ih = (
      λ a c. absurd (not_both (eqb x.unit u
          && eqb x.period p) (and_true (eqb x.unit u) (eqb x.period p) (eq-eqb _ _ a) (eq-eqb _ _ c)) q),
      ih h,
    )

needed_not : (a c : Bool) → (a && c) ≡ false → c ≡ true → a ≡ false
needed_not true c e n = absurd (not_both c n e)
needed_not false c e n = refl

-- an order that would wait needs a place, and so does one with a remainder
pub call_needs : (b : Book) (o : OpenOrder) → b.phase ≡ call_phase → needs_place b o ≡ true
unfolding needs_place
call_needs b o c = or_left _ _ (eq-eqb b.phase call_phase c)

pub rest_needs : (b : Book) (o : OpenOrder) → 0 < (meet o b.orders).left → needs_place b o ≡ true
unfolding needs_place
rest_needs b o l = or_right (eqb b.phase call_phase) _ (lt-ltb 0 (meet o b.orders).left l)

-- no other does
pub whole_needs_none : (b : Book) (o : OpenOrder) → (b.phase ≡ call_phase → ⊥) → (meet o b.orders).left ≡ 0 → needs_place b o ≡ false
unfolding needs_place
whole_needs_none b o n e = rw (ne_eqb b.phase call_phase n) (le-ltb 0 (meet o b.orders).left (omega arith))

module _ (b : Book) (u d p price q : ℕ) where
  -- what an accepted order passed
  pub record OrderPassed : Type 0 where
    pub ranges : OrderRanges (with_order b (new_order b u d p price q)) (new_order b u d p price q)
    pub follows : Each (Follows u d p) b.orders
    pub mark : marked_against d (figures_of b u p).mark ≡ false
    pub room : needs_place b (new_order b u d p price q) ≡ true → length b.orders < most_orders
    pub left : b.given < most_numbers
    pub fits : Fits b u (order_declares b u d p q)

  pub order_passed : (lent : ℕ) → Sound b → order_refusal b u d p price q lent ≡ 0 → OrderPassed
  unfolding order_refusal
  order_passed lent s z =
      record {
        ranges = record {
          number = omega arith;
          unit = named;
          direction = leb-true _ _ (not-false _ t.1.1.1.1.1.1.0);
          period = ltb-true _ _ (not-false _ t.1.1.1.1.1.0);
          price = within b.rules.floor b.rules.ceiling price (not-false _ t.1.1.1.0);
          energy = within 1 most_energy q (not-false _ t.1.1.1.1.0);
        };
        follows =
            let n = length (keep (goes_against d) (orders_of_unit b u p)) in
            let h : n ≤ 0 = ltb-false 0 n day.0 in
            one_direction_lem u d p b.orders (omega arith);
        mark = day.1;
        room = λ n. leb-false _ _ (needed_not _ _ t.1.1.1.1.1.1.1.1.1.0 n);
        left = leb-false _ _ t.1.1.1.1.1.1.1.1.1.1.0;
        fits =
            fits_with b u (order_declares b u d p q) (s.fits u named) (not-false _ t.1.1.1.1.1.1.1.1.1.1.1.0)
            (not-false _ t.1.1.1.1.1.1.1.1.1.1.1.1.0)
            (not-false _ t.1.1.1.1.1.1.1.1.1.1.1.1.1.0);
      }
    where
      e : Declaration
      e = order_declares b u d p q

      t : NoneApplies
          (unsound b ∷ unknown_unit b u ∷ few_rows lent ∷ bad_price b price ∷ bad_quantity q ∷ bad_period b p ∷ bad_direction d ∷ other_direction b u d p
          ∷ two_open b u p ∷ orders_full b (new_order b u d p price q) ∷ numbers_used b ∷ hour_misfit b u e ∷ term_misfit b u e ∷ volume_misfit b u e ∷ [])
      t = none_applies _ (omega arith) z

      named : In 1 (length b.units) u
      named = within 1 (length b.units) u (not-false _ t.1.0)

      day : (ltb 0 (length (keep (goes_against d) (orders_of_unit b u p))) ≡ false)
          × (marked_against d (figures_of b u p).mark ≡ false)
      day = or_neither _ _ t.1.1.1.1.1.1.1.0

-- what an order has open is what it declares
pub declares_opens : (f : ℕ → Bool) (u d p q at : ℕ) → cond (eqb u u && eqb p at && f d) q 0 ≡ cond (eqb at p) (cond (f d) q 0) 0
declares_opens f u d p q at = rw (eq-eqb u u refl) (go (ℕ_discrete p at))
  where
    go : Dec (p ≡ at) → cond (eqb p at && f d) q 0 ≡ cond (eqb at p) (cond (f d) q 0) 0
    go (yes e) = rw (eq-eqb p at e, eq-eqb at p (sym e))
    go (no n) = rw (ne_eqb p at n, ne_eqb at p (λ e. n (sym e)))

-- an order that goes the way of its unit's others stands beside them
pub one_direction_beside : (o : OpenOrder) (os : List OpenOrder) → Each (Follows o.unit o.direction o.period) os → Beside one_direction o os
one_direction_beside o os h =
    record {
      to = each_holds (one_direction o) (Follows o.unit o.direction o.period) (λ x t. same_direction o x (λ a c. sym (t (sym a) (sym c)))) os h;
      from = each_holds (λ x. one_direction x o) (Follows o.unit o.direction o.period) (λ x t. same_direction x o t) os h;
      self = same_direction o o (λ a c. refl);
    }

-- the other units declare nothing by it
module _ (b : Book) (u d p price q : ℕ) where
  pub order_fits : Sound b → Fits b u (order_declares b u d p q) → (v : ℕ) → In 1 (length b.units) v
      → Fits (with_order b (new_order b u d p price q)) v nothing
  order_fits s a v i = fit (ℕ_discrete u v)
    where
      fit : Dec (u ≡ v) → Fits (with_order b (new_order b u d p price q)) v nothing
      fit (yes e) =
          rw (← e)
          (fits_after b (with_order b (new_order b u d p price q)) u (order_declares b u d p q)
          (moved_order b u (order_declares b u d p q) (new_order b u d p price q)
          (λ at. omega (arith, declares_opens (raises (unit_of b u).kind) u d p q at))
          (λ at. omega (arith, declares_opens (lowers (unit_of b u).kind) u d p q at)))
          a)
      fit (no n) =
          fits_after b (with_order b (new_order b u d p price q)) v nothing
          (moved_order b v nothing (new_order b u d p price q) (λ at. rw (ne_eqb u v n) (omega arith)) (λ at. rw (ne_eqb u v n) (omega arith)))
          (s.fits v i)

  pub ordering_in_call_sound : (lent : ℕ) → b.phase ≡ call_phase → sound b ≡ true → sound (ordering b u d p price q lent).book ≡ true
  unfolding ordering
  ordering_in_call_sound lent c e =
      decided-sound (order_refusal b u d p price q lent) b _ e
      (λ z. rw (eq-eqb b.phase call_phase c) (sound-holds (with_order b (new_order b u d p price q)) (more (order_passed b u d p price q lent s z))))
    where
      s : Sound b
      s = sound_facts b e

      more : OrderPassed b u d p price q → Sound (with_order b (new_order b u d p price q))
      more a =
          record {
            formed =
                formed_order most_orders b (new_order b u d p price q) s.formed a.ranges refl
                (a.room (call_needs b (new_order b u d p price q) c)) a.left
                (one_direction_beside (new_order b u d p price q) b.orders a.follows) (λ r. absurd (omega arith));
            fits = order_fits s a.fits;
          }
