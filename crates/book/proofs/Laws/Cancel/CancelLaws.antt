-- Cancel on a sound book in memory: its checks, and the book without the order.
use Rattle.std.proofs.Common.{◌≡◌, ℕ, ◌+◌, ◌-◌, ◌*◌, ◌<◌, ◌≤◌, true, not, ◌&&◌, eqb, List, ◌++◌, length, get_or, take, drop, set, refl}
use Rattle.std.proofs.Common.{None, sym, ap, ◌∙◌, arith, eq-eqb, ne_eqb}
use borrow.Rule.Slice.PartMut.{put_mid}
use Rattle.measures.specs.Lists.{keep}
use Rattle.measures.proofs.ListLaws.{all_true}
use Rattle.measures.proofs.RangeLaws.{In, inside}
use Rattle.matching.specs.Orders.{Order as OpenOrder, rising, numbers}
use Rattle.matching.specs.Memory.{order_at, orders_in, no_order}
use Rattle.matching.proofs.Laws.Orders.OrderLaws.{orders_at_lem}
use Rattle.book.specs.Book.{with_orders, order_of, order_open}
use Rattle.book.specs.Sound.{sound, numbers_differ}
use Rattle.book.specs.Layout.{UNITS, ORDERS, orders_start, orders_words, order_place, UNIT, word, orders_part, decode, Aside}
use Rattle.book.specs.Inner.Readable.{offer_numbers}
use Rattle.book.specs.Inner.Search.{OrderHas, OrderFound}
use Rattle.book.specs.Refusals.{first_refusal}
use Rattle.book.specs.Contract.{sound_in}
use Rattle.book.specs.Cancel.{cancel_checks}
use Rattle.book.proofs.Laws.Memory.RangeFacts.{units_held, orders_held, order_word}
use Rattle.book.proofs.Laws.Check.NumberLaws.{orders_from}
use Rattle.book.proofs.Laws.Answer.MadeLaws.{sound-book, sound_readable}
use Rattle.book.proofs.Laws.Memory.KeptLaws.{first_kept, none_kept, number_gone}
use Rattle.book.specs.Inner.Ordering.{OrdersPut}
use Rattle.book.proofs.Laws.Order.WaitLaws.{orders_put, put_decoded, put_aside}

-- open numbers rise
pub sound_rises : (m : List ℕ) → sound_in m ≡ true → (rising (offer_numbers (decode m)) ≡ true) × (rising (numbers (decode m).orders) ≡ true)
unfolding sound numbers_differ
sound_rises m s =
    let t = all_true _ (sound-book m s) in
    let u = all_true _ t.1.1.1.1.0 in
    (u.0, u.1.0)

-- the order at a place
pub order_here : (m : List ℕ) (k : ℕ) → k < word m ORDERS → get_or (decode m).orders k no_order ≡ order_at (orders_part m) k
unfolding decode
order_here m k h = orders_at_lem (orders_part m) (word m ORDERS) k h

module _ (m : List ℕ) (few : word m ORDERS ≤ 256) (n : ℕ) where
  number_here : (k : ℕ) → k < word m ORDERS → (get_or (decode m).orders k no_order).number ≡ word m (order_place k)
  number_here k h = ap (λ (o : OpenOrder). o.number) (order_here m k h) ∙ order_word m (6 * k) (omega arith)

  unit_here : (k : ℕ) → k < word m ORDERS → (get_or (decode m).orders k no_order).unit ≡ word m (order_place k + UNIT)
  unit_here k h = ap (λ (o : OpenOrder). o.unit) (order_here m k h) ∙ order_word m (6 * k + 1) (omega arith) ∙ ap (word m) (omega arith)

  -- the checks
  module _ (u : ℕ) (h : In 1 (word m UNITS) u) where
    pub cancel_absent : OrderFound m n None → 11 ≡ first_refusal (cancel_checks (decode m) u n)
    unfolding first_refusal
    cancel_absent f =
        let t = none_kept (λ (o : OpenOrder). o.number) no_order (decode m).orders _ _ (orders_held m) number_here n f in
        rw (units_held m) (rw (inside 1 (word m UNITS) u h, t) refl)

    module _ (k : ℕ) (f : OrderHas m n k) where
      by_unit : (order_open (decode m) n && eqb (order_of (decode m) n).unit u) ≡ eqb (word m (order_place k + UNIT)) u
      by_unit =
          let t = first_kept (λ (o : OpenOrder). o.number) no_order (decode m).orders _ _ (orders_held m) number_here n k f in
          rw (t.1, ap (λ (o : OpenOrder). o.unit) t.0 ∙ unit_here k f.there) refl

      pub cancel_other : (word m (order_place k + UNIT) ≡ u → ⊥) → 11 ≡ first_refusal (cancel_checks (decode m) u n)
      unfolding first_refusal
      cancel_other ne = rw (units_held m) (rw (inside 1 (word m UNITS) u h, by_unit, ne_eqb (word m (order_place k + UNIT)) u ne) refl)

      pub cancel_passes : word m (order_place k + UNIT) ≡ u → 0 ≡ first_refusal (cancel_checks (decode m) u n)
      unfolding first_refusal
      cancel_passes g = rw (units_held m) (rw (inside 1 (word m UNITS) u h, by_unit, eq-eqb (word m (order_place k + UNIT)) u g) refl)

module _ (m : List ℕ) (s : sound_in m ≡ true) (n : ℕ) where
  -- the order at place k has it
  module _ (k : ℕ) (hk : k < word m ORDERS) (e : word m (order_place k) ≡ n) where
    inside_list : k < length (decode m).orders
    inside_list = omega (arith, orders_held m, hk)

    pub order_gone : keep (λ (o : OpenOrder). not (eqb o.number n)) (decode m).orders ≡ take k (decode m).orders ++ drop (k + 1) (decode m).orders
    order_gone = number_gone (λ (o : OpenOrder). o.number) (decode m).orders no_order refl (sound_rises m s).1 n k inside_list
        (number_here m (sound_readable m s).orders_to n k hk ∙ e)

-- the memory after the order at place k is removed and one order fewer is counted
module _ (m ys : List ℕ) (n k : ℕ) (s : sound_in m ≡ true) (hk : k < word m ORDERS) (e : word m (order_place k) ≡ n) (same : length ys ≡ orders_words)
    (gone : orders_in ys (word m ORDERS - 1) ≡ take k (orders_in (orders_part m) (word m ORDERS)) ++ drop (k + 1) (orders_in (orders_part m) (word m ORDERS))) where
  abbrev left : List OpenOrder
  left = keep (λ (o : OpenOrder). not (eqb o.number n)) (decode m).orders

  put : OrdersPut m (set (put_mid orders_start orders_words m ys) ORDERS (word m ORDERS - 1)) left
  put = let r = sound_readable m s in
      orders_put m ys (word m ORDERS - 1) left (omega arith) same (gone ∙ sym (order_gone m s n k hk e ∙ rw (orders_from m) refl))

  pub cancelled : decode (set (put_mid orders_start orders_words m ys) ORDERS (word m ORDERS - 1)) ≡ with_orders (decode m) left
  cancelled = let r = sound_readable m s in put_decoded m _ left put r.units_to r.offers_to

  pub cancelled_aside : Aside m (set (put_mid orders_start orders_words m ys) ORDERS (word m ORDERS - 1))
  cancelled_aside = put_aside m _ left put
