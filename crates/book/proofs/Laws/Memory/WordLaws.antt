-- What a book in memory is read from: parts that keep their words are the same, and a book is known by its parts.
use Rattle.std.proofs.Common.{◌≡◌, ℕ, ◌+◌, ◌-◌, ◌*◌, ◌<◌, ◌≤◌, List, ◌++◌, length, get_or, take, drop, refl}
use Rattle.std.proofs.Common.{sym, ap, ◌∙◌, arith, length-drop, length-take-le, get_or-drop, get_or-take, drop-drop, take_at, ext_get_or, drop_at}
use borrow.Rule.Slice.PartMut.{put_mid, post_of, take_put, drop_put, same_len_mid, mid_len}
use Rattle.measures.specs.Lists.{table}
use Rattle.measures.proofs.ListLaws.{table_ext}
use Rattle.matching.specs.Orders.{Order as OpenOrder}
use Rattle.matching.specs.Memory.{order_at, orders_in}
use Rattle.matching.proofs.Laws.Orders.OrderLaws.{order_same}
use Rattle.book.specs.Book.{EnrolledUnit, OpenOffer, Book, with_orders}
use Rattle.book.specs.Layout.{
  DAYS,
  FLOOR,
  CEILING,
  PHASE,
  GIVEN,
  UNITS,
  OFFERS,
  ORDERS,
  LAYOUT,
  units_start,
  unit_place,
  CAPACITY,
  ASSET,
  offers_start,
  offer_place,
  orders_start,
  order_place,
  UNIT,
  PARTNER,
  TAKEN,
  PRICE,
  amounts_start,
  amount_place,
  figure_place,
  RAISED,
  LOWERED,
  MARK,
  VOLUME,
  book_words,
  word,
  figures_at,
  unit_at,
  amount_at,
  offer_at,
  orders_part,
  decode,
  Aside,
}
use Rattle.book.proofs.Laws.Memory.RangeFacts.{order_word}

-- a book is known by its parts
pub book_same : (a b : Book) → a.rules.days ≡ b.rules.days → a.rules.floor ≡ b.rules.floor → a.rules.ceiling ≡ b.rules.ceiling → a.phase
    ≡ b.phase → a.given ≡ b.given
    → a.units ≡ b.units → a.offers ≡ b.offers → a.orders ≡ b.orders → a ≡ b
book_same a b e0 e1 e2 e3 e4 e5 e6 e7 = made a.rules.days b.rules.days a.rules.floor b.rules.floor a.rules.ceiling b.rules.ceiling
    a.phase b.phase a.given b.given
    a.units b.units a.offers b.offers a.orders b.orders e0 e1 e2 e3 e4 e5 e6 e7
  where
    make : ℕ → ℕ → ℕ → ℕ → ℕ → List EnrolledUnit → List OpenOffer → List OpenOrder → Book
    make d f c p g us os ps = record { rules = record { days = d; floor = f; ceiling = c }; phase = p; given = g; units = us; offers = os; orders = ps }

    made : (d d' f f' c c' p p' g g' : ℕ) (us us' : List EnrolledUnit) (os os' : List OpenOffer) (ps ps' : List OpenOrder)
        → d ≡ d' → f ≡ f' → c ≡ c' → p ≡ p' → g ≡ g' → us ≡ us' → os ≡ os' → ps ≡ ps' → make d f c p g us os ps ≡ make d' f' c' p' g' us' os' ps'
    made d d' f f' c c' p p' g g' us us' os os' ps ps' e0 e1 e2 e3 e4 e5 e6 e7 = rw (e0, e1, e2, e3, e4, e5, e6, e7)

module _ (x m : List ℕ) (n d : ℕ) where
  -- units that keep their words
  pub units_same : ((i : ℕ) → units_start ≤ i → i < unit_place n → word x i ≡ word m i)
      → ((k p i : ℕ) → k < n → p < 24 * d → figure_place k p ≤ i → i ≤ figure_place k p + VOLUME → word x i ≡ word m i)
      → table n (unit_at x d) ≡ table n (unit_at m d)
  units_same h t = table_ext n (unit_at x d) (unit_at m d) one
    where
      figures : (k p : ℕ) → k < n → p < 24 * d → figures_at x k p ≡ figures_at m k p
      figures k p hk hp =
          rw (
            t k p (figure_place k p) hk hp (omega arith) (omega arith),
            t k p (figure_place k p + RAISED) hk hp (omega arith) (omega arith),
            t k p (figure_place k p + LOWERED) hk hp (omega arith) (omega arith),
            t k p (figure_place k p + VOLUME) hk hp (omega arith) (omega arith),
            t k p (figure_place k p + MARK) hk hp (omega arith) (omega arith),
          )

      one : (k : ℕ) → k < n → unit_at x d k ≡ unit_at m d k
      one k hk =
          rw (
            h (unit_place k) (omega arith) (omega arith),
            h (unit_place k + CAPACITY) (omega arith) (omega arith),
            h (unit_place k + ASSET) (omega arith) (omega arith),
            table_ext (24 * d) (figures_at x k) (figures_at m k) (λ p hp. figures k p hk hp),
          )

  -- offers that keep their words
  pub offers_same : ((i : ℕ) → offers_start ≤ i → i < offer_place n → word x i ≡ word m i)
      → ((p j : ℕ) → p < 24 * d → j < n → word x (amount_place j p) ≡ word m (amount_place j p))
      → table n (offer_at x d) ≡ table n (offer_at m d)
  offers_same h t = table_ext n (offer_at x d) (offer_at m d) one
    where
      one : (j : ℕ) → j < n → offer_at x d j ≡ offer_at m d j
      one j hj =
          rw (
            h (offer_place j) (omega arith) (omega arith),
            h (offer_place j + UNIT) (omega arith) (omega arith),
            h (offer_place j + PARTNER) (omega arith) (omega arith),
            h (offer_place j + PRICE) (omega arith) (omega arith),
            h (offer_place j + TAKEN) (omega arith) (omega arith),
            table_ext (24 * d) (amount_at x j) (amount_at m j) (λ p hp. t p j hp hj),
          )

-- orders that keep their words
pub orders_same : (x m : List ℕ) (n : ℕ) → n ≤ 256 → ((i : ℕ) → orders_start ≤ i → i < order_place n → word x i ≡ word m i) → orders_in (orders_part x) n
    ≡ orders_in (orders_part m) n
unfolding orders_in
orders_same x m n few h =
    table_ext n (order_at (orders_part x)) (order_at (orders_part m))
    (λ k hk. order_same (orders_part x) (orders_part m) k k (λ f hf. at (6 * k + f) (omega arith)))
  where
    at : (i : ℕ) → i < 6 * n → get_or (orders_part x) i 0 ≡ get_or (orders_part m) i 0
    at i l = order_word x i (omega arith) ∙ h (orders_start + i) (omega arith) (omega arith) ∙ sym (order_word m i (omega arith))

-- a book of which only the orders changed
pub orders_changed : (x m : List ℕ) (os : List OpenOrder) → word m UNITS ≤ 64 → word m OFFERS ≤ 8 → ((i : ℕ) → i < orders_start → (i ≡ ORDERS → ⊥)
    → word x i ≡ word m i)
    → ((i : ℕ) → amounts_start ≤ i → word x i ≡ word m i) → orders_in (orders_part x) (word x ORDERS) ≡ os → decode x ≡ with_orders (decode m) os
unfolding decode
orders_changed x m os hu ho low high e = book_same (decode x) (with_orders (decode m) os) (at DAYS (omega arith)) (at FLOOR (omega arith))
    (at CEILING (omega arith))
    (at PHASE (omega arith)) (at GIVEN (omega arith)) units offers e
  where
    at : (i : ℕ) → i < 7 → word x i ≡ word m i
    at i l = low i (omega arith) (omega arith)

    units : table (word x UNITS) (unit_at x (word x DAYS)) ≡ table (word m UNITS) (unit_at m (word m DAYS))
    units = rw (at UNITS (omega arith), at DAYS (omega arith)) (units_same x m (word m UNITS) (word m DAYS) (λ i l h. low i (omega arith) (omega arith))
        (λ k p i hk hp l u. high i (omega arith)))

    offers : table (word x OFFERS) (offer_at x (word x DAYS)) ≡ table (word m OFFERS) (offer_at m (word m DAYS))
    offers = rw (at OFFERS (omega arith), at DAYS (omega arith)) (offers_same x m (word m OFFERS) (word m DAYS) (λ i l h. low i (omega arith) (omega arith))
        (λ p j l h. high (amount_place j p) (omega arith)))

-- what a call leaves as it is, word by word
pub aside_by : (x m : List ℕ) → length x ≡ length m → word x LAYOUT ≡ word m LAYOUT → ((i : ℕ) → book_words (word m DAYS) ≤ i → word x i ≡ word m i) → Aside m x
aside_by x m e l h = record { layout = l; past = ext_get_or 0 (drop w x) (drop w m) (simp length-drop (rw e refl)) at }
  where
    w : ℕ
    w = book_words (word m DAYS)

    at : (i : ℕ) → i < length (drop w x) → get_or (drop w x) i 0 ≡ get_or (drop w m) i 0
    at i u = get_or-drop w x i 0 ∙ h (w + i) (omega arith) ∙ sym (get_or-drop w m i 0)

pub aside_same : (m : List ℕ) → Aside m m
aside_same m = record { layout = refl; past = refl }

pub aside_then : (m x y : List ℕ) → word x DAYS ≡ word m DAYS → Aside m x → Aside x y → Aside m y
aside_then m x y e a b = record { layout = b.layout ∙ a.layout; past = (rw e at b.past) ∙ a.past }

-- the words outside a part that was lent and came back, and the part
module _ (a e : ℕ) (m ys : List ℕ) (up : a ≤ e) (fits : e ≤ length m) (same : length ys ≡ e - a) where
  pub word-before : (i : ℕ) → i < a → word (put_mid a (e - a) m ys) i ≡ word m i
  word-before i h =
      sym (get_or-take a (put_mid a (e - a) m ys) i 0 h)
      ∙ ap (λ (l : List ℕ). get_or l i 0) (take_put a (e - a) m ys (omega arith))
      ∙ get_or-take a m i 0 h

  pub word_behind : (i : ℕ) → e ≤ i → word (put_mid a (e - a) m ys) i ≡ word m i
  word_behind i h =
      let d : e + (i - e) ≡ i = omega arith in
      ap (word (put_mid a (e - a) m ys)) (sym d)
      ∙ sym (get_or-drop e (put_mid a (e - a) m ys) (i - e) 0)
      ∙ ap (λ (l : List ℕ). get_or l (i - e) 0) (drop_put a e m ys up fits same)
      ∙ get_or-drop e m (i - e) 0
      ∙ ap (word m) d

  pub drop_behind : (i : ℕ) → e ≤ i → drop i (put_mid a (e - a) m ys) ≡ drop i m
  drop_behind i h =
      let d : e + (i - e) ≡ i = omega arith in
      rw (← d, ← drop-drop (i - e) e (put_mid a (e - a) m ys), ← drop-drop (i - e) e m, drop_put a e m ys up fits same)

  pub put_length : length (put_mid a (e - a) m ys) ≡ length m
  put_length = same_len_mid a (e - a) m ys (same ∙ sym (mid_len a e m fits))

  pub part_back : take (e - a) (drop a (put_mid a (e - a) m ys)) ≡ ys
  part_back = rw (drop_at (take a m) (ys ++ post_of a (e - a) m) a (length-take-le a m (omega arith))) (take_at ys (post_of a (e - a) m) (e - a) same)

  pub word_within : (p : ℕ) → p < e - a → word (put_mid a (e - a) m ys) (a + p) ≡ word ys p
  word_within p h =
      sym (get_or-take (e - a) (drop a (put_mid a (e - a) m ys)) p 0 h ∙ get_or-drop a (put_mid a (e - a) m ys) p 0)
      ∙ ap (λ (l : List ℕ). word l p) part_back
