-- A book in memory whose open orders changed, and one that gave a number more.
use Rattle.std.proofs.Common.{◌≡◌, ℕ, ◌+◌, ◌≤◌, List, [], ◌∷◌, ◌++◌, length, take}
use Rattle.std.proofs.Common.{set, sym, refl, ap, ◌∙◌, arith, length-set, get_or-set_other, get_or-set_same, drop-set-lt}
use borrow.Rule.Slice.PartMut.{put_mid}
use lib.Seq.{set_at}
use Rattle.measures.specs.Lists.{table}
use Rattle.measures.proofs.ListLaws.{table_more, table-length}
use Rattle.matching.specs.Orders.{Order as OpenOrder, order_with}
use Rattle.matching.specs.Memory.{order_at, orders_in}
use Rattle.book.specs.Book.{with_orders, numbered}
use Rattle.book.specs.Layout.{
  DAYS,
  FLOOR,
  CEILING,
  PHASE,
  GIVEN,
  UNITS,
  OFFERS,
  ORDERS,
  LAYOUT,
  orders_start,
  orders_words,
  amounts_start,
  amount_place,
  book_words,
  word,
  unit_at,
  offer_at,
  orders_part,
  decode,
  Aside,
}
use Rattle.book.specs.Order.{new_order, ordered_in_call}
use Rattle.book.specs.Inner.Ordering.{OrdersPut}
use Rattle.book.proofs.Laws.Check.NumberLaws.{orders_from}
use Rattle.book.proofs.Laws.Memory.WordLaws.{
  book_same,
  units_same,
  offers_same,
  orders_changed,
  word-before,
  word_behind,
  put_length,
  part_back,
  aside_by,
}

-- the part came back with these orders, and their count stands in its word
pub orders_put : (m ys : List ℕ) (n : ℕ) (os : List OpenOrder) → amounts_start ≤ length m → length ys ≡ orders_words → orders_in ys n ≡ os
    → OrdersPut m (set (put_mid orders_start orders_words m ys) ORDERS n) os
orders_put m ys n os long same is =
    record {
      long = simp length-set (put_length orders_start amounts_start m ys (omega arith) long same);
      low = λ i l ne. get_or-set_other (put_mid orders_start orders_words m ys) ORDERS i n 0 ne ∙ word-before orders_start amounts_start m ys
          (omega arith) long same i l;
      high = λ i l. get_or-set_other (put_mid orders_start orders_words m ys) ORDERS i n 0 (omega arith) ∙ word_behind orders_start amounts_start m ys
          (omega arith) long same i l;
      orders = rw (count, part) is;
    }
  where
    count : word (set (put_mid orders_start orders_words m ys) ORDERS n) ORDERS ≡ n
    count = get_or-set_same (put_mid orders_start orders_words m ys) ORDERS n 0
        (omega (arith, long, put_length orders_start amounts_start m ys (omega arith) long same))

    part : orders_part (set (put_mid orders_start orders_words m ys) ORDERS n) ≡ ys
    part = ap (take orders_words) (drop-set-lt orders_start (put_mid orders_start orders_words m ys) ORDERS n (omega arith))
        ∙ part_back orders_start amounts_start m ys (omega arith) long same

-- an order written behind the others
pub orders_more : (l : List ℕ) (n : ℕ) (o : OpenOrder) → set (orders_in l (n + 1)) n o ≡ orders_in l n ++ (o ∷ [])
unfolding orders_in
orders_more l n o =
    ap (λ (t : List OpenOrder). set t n o) (table_more n (order_at l)) ∙ set_at (table n (order_at l)) (order_at l n) [] o n (table-length n (order_at l))

pub appended : (m ys : List ℕ) (o : OpenOrder) → amounts_start ≤ length m → length ys ≡ orders_words → orders_in ys (word m ORDERS + 1)
    ≡ set (orders_in (orders_part m) (word m ORDERS + 1)) (word m ORDERS) o
    → OrdersPut m (set (put_mid orders_start orders_words m ys) ORDERS (word m ORDERS + 1)) (orders_in (orders_part m) (word m ORDERS) ++ (o ∷ []))
appended m ys o long same is =
    orders_put m ys (word m ORDERS + 1) (orders_in (orders_part m) (word m ORDERS) ++ (o ∷ [])) long same (is ∙ orders_more (orders_part m) (word m ORDERS) o)

-- what it decodes to, and what is past it
module _ (m x : List ℕ) (os : List OpenOrder) (h : OrdersPut m x os) where
  pub put_decoded : word m UNITS ≤ 64 → word m OFFERS ≤ 8 → decode x ≡ with_orders (decode m) os
  put_decoded a b = orders_changed x m os a b h.low h.high h.orders

  pub put_aside : Aside m x
  put_aside = aside_by x m h.long (h.low LAYOUT (omega arith) (omega arith)) (λ i l. h.high i (omega arith))

-- one number more
pub number_more : (m : List ℕ) → amounts_start ≤ length m → decode (set m GIVEN (word m GIVEN + 1)) ≡ numbered (decode m)
unfolding decode
number_more m long =
    book_same (decode (set m GIVEN (word m GIVEN + 1))) (numbered (decode m)) (at DAYS (omega arith)) (at FLOOR (omega arith)) (at CEILING (omega arith))
    (at PHASE (omega arith))
    (get_or-set_same m GIVEN (word m GIVEN + 1) 0 (omega arith)) units offers orders
  where
    at : (i : ℕ) → (i ≡ GIVEN → ⊥) → word (set m GIVEN (word m GIVEN + 1)) i ≡ word m i
    at i ne = get_or-set_other m GIVEN i (word m GIVEN + 1) 0 ne

    units : table (word (set m GIVEN (word m GIVEN + 1)) UNITS) (unit_at (set m GIVEN (word m GIVEN + 1)) (word (set m GIVEN (word m GIVEN + 1)) DAYS))
        ≡ table (word m UNITS) (unit_at m (word m DAYS))
    units = rw (at UNITS (omega arith), at DAYS (omega arith)) (units_same (set m GIVEN (word m GIVEN + 1)) m (word m UNITS) (word m DAYS)
        (λ i l k. at i (omega arith))
        (λ k p i hk hp l u. at i (omega arith)))

    offers : table (word (set m GIVEN (word m GIVEN + 1)) OFFERS) (offer_at (set m GIVEN (word m GIVEN + 1)) (word (set m GIVEN (word m GIVEN + 1)) DAYS))
        ≡ table (word m OFFERS) (offer_at m (word m DAYS))
    offers = rw (at OFFERS (omega arith), at DAYS (omega arith)) (offers_same (set m GIVEN (word m GIVEN + 1)) m (word m OFFERS) (word m DAYS)
        (λ i l k. at i (omega arith))
        (λ p j l k. at (amount_place j p) (omega arith)))

    orders : orders_in (orders_part (set m GIVEN (word m GIVEN + 1))) (word (set m GIVEN (word m GIVEN + 1)) ORDERS) ≡ orders_in (orders_part m) (word m ORDERS)
    orders =
        ap (λ (l : List ℕ). orders_in (take orders_words l) (word (set m GIVEN (word m GIVEN + 1)) ORDERS)) (drop-set-lt orders_start m GIVEN (word m GIVEN + 1)
        (omega arith))
        ∙ ap (λ (n : ℕ). orders_in (orders_part m) n) (at ORDERS (omega arith))

pub number_aside : (m : List ℕ) (v : ℕ) → Aside m (set m GIVEN v)
number_aside m v =
    record { layout = get_or-set_other m GIVEN LAYOUT v 0 (omega arith); past = drop-set-lt (book_words (word m DAYS)) m GIVEN v (omega arith) }

-- an order in the call phase
module _ (m : List ℕ) (u d p price q : ℕ) where
  pub new_order_lem : new_order (decode m) u d p price q ≡ order_with (word m GIVEN + 1) u d p price q
  unfolding decode
  new_order_lem = refl

  pub called : (x y : List ℕ) → word m UNITS ≤ 64 → word m OFFERS ≤ 8
      → OrdersPut m x (orders_in (orders_part m) (word m ORDERS) ++ (order_with (word m GIVEN + 1) u d p price q ∷ []))
      → decode y ≡ numbered (decode x) → decode y ≡ (ordered_in_call (decode m) (new_order (decode m) u d p price q)).book
  called x y a b h e =
      let o : OpenOrder = order_with (word m GIVEN + 1) u d p price q in
      e
      ∙ ap numbered (put_decoded m x (orders_in (orders_part m) (word m ORDERS) ++ (o ∷ [])) h a b)
      ∙ ap (λ (os : List OpenOrder). numbered (with_orders (decode m) (os ++ (o ∷ [])))) (sym (orders_from m))
      ∙ ap (λ (w : OpenOrder). (ordered_in_call (decode m) w).book) (sym new_order_lem)
