-- Memory that differs in the figures of one unit in one period: what it keeps, and the book that it holds.
use Rattle.std.proofs.Common.{◌≡◌, ℕ, ◌+◌, ◌*◌, ◌<◌, ◌≤◌, List, length, get_or, drop, set, sym, refl, ap, ◌∙◌, arith, length-drop, length-take, ext_get_or}
use native.Mathlib.Decide.{ℕ_discrete}
use Rattle.measures.specs.Lists.{table}
use Rattle.measures.proofs.ListLaws.{table-set, table_ext}
use Rattle.limits.specs.Units.{periods}
use Rattle.book.specs.Book.{Figures, no_figures, EnrolledUnit, no_unit, OpenOffer, with_units}
use Rattle.book.specs.Layout.{
  DAYS,
  FLOOR,
  CEILING,
  PHASE,
  GIVEN,
  UNITS,
  OFFERS,
  ORDERS,
  unit_place,
  CAPACITY,
  ASSET,
  offer_place,
  orders_start,
  orders_words,
  UNIT,
  PARTNER,
  TAKEN,
  PRICE,
  amounts_start,
  amount_place,
  figures_start,
  figure_place,
  RAISED,
  LOWERED,
  MARK,
  VOLUME,
  word,
  figures_at,
  unit_at,
  amount_at,
  offer_at,
  orders_part,
  decode,
}
use Rattle.book.specs.Inner.Readable.{Readable}
use Rattle.book.specs.Inner.RowsIn.{SmallAt, Small, FiguresPut, Kept}
use Rattle.book.proofs.Laws.Memory.PlaceLaws.{same_place}
use Rattle.book.proofs.Laws.Memory.RangeFacts.{order_word}
use Rattle.book.proofs.Laws.Memory.RunLaws.{four_set}
use Rattle.book.proofs.Laws.Memory.WordLaws.{book_same}

pub figures_put : (m : List ℕ) (k p r l v w : ℕ) → figure_place k p + VOLUME < length m
    → FiguresPut m (set (set (set (set m (figure_place k p + RAISED) r) (figure_place k p + LOWERED) l) (figure_place k p + MARK) w)
    (figure_place k p + VOLUME) v) k p
    r l v w
figures_put m k p r l v w fits =
    let f = four_set m (figure_place k p + RAISED) (figure_place k p + LOWERED) (figure_place k p + MARK) (figure_place k p + VOLUME) r l w v (omega arith)
    (omega arith) (omega arith) fits in
    record {
      long = f.long;
      raised = f.first;
      lowered = f.second;
      volume = f.fourth;
      mark = f.third;
      other = λ i a e c d. f.other i a e d c;
    }

-- records by their fields
pub figures_same : {a b c d e a' b' c' d' e' : ℕ} → a ≡ a' → b ≡ b' → c ≡ c' → d ≡ d' → e ≡ e'
    → ◌≡◌ {A = Figures} (record { held = a; raised = b; lowered = c; volume = d; mark = e })
    (record { held = a'; raised = b'; lowered = c'; volume = d'; mark = e' })
figures_same ha hb hc hd he = rw (ha, hb, hc, hd, he)

pub unit_same : {a b c a' b' c' : ℕ} {f f' : List Figures} → a ≡ a' → b ≡ b' → c ≡ c' → f ≡ f'
    → ◌≡◌ {A = EnrolledUnit} (record { kind = a; capacity = b; asset = c; figures = f }) (record { kind = a'; capacity = b'; asset = c'; figures = f' })
unit_same ha hb hc hf = rw (ha, hb, hc, hf)

pub offer_same : {a b c d e a' b' c' d' e' : ℕ} {f f' : List ℕ} → a ≡ a' → b ≡ b' → c ≡ c' → d ≡ d' → e ≡ e' → f ≡ f'
    → ◌≡◌ {A = OpenOffer} (record { number = a; unit = b; partner = c; price = d; taken = e; amounts = f })
    (record { number = a'; unit = b'; partner = c'; price = d'; taken = e'; amounts = f' })
offer_same ha hb hc hd he hf = rw (ha, hb, hc, hd, he, hf)

-- the orders' part, where none of its words changed
pub orders_part_same : (m x : List ℕ) → length x ≡ length m → ((i : ℕ) → orders_start ≤ i → i < amounts_start → word x i ≡ word m i) → orders_part x ≡ orders_part m
orders_part_same m x e h = ext_get_or 0 (orders_part x) (orders_part m) (simp (length-take, length-drop) (rw e refl)) at
  where
    at : (i : ℕ) → i < length (orders_part x) → get_or (orders_part x) i 0 ≡ get_or (orders_part m) i 0
    at i l =
        let u : i < orders_words = omega (arith, length-take orders_words (drop orders_start x)) in
        order_word x i u ∙ h (orders_start + i) (omega arith) (omega arith) ∙ sym (order_word m i u)

module _ (m x : List ℕ) (k p r l v w : ℕ) (f : FiguresPut m x k p r l v w) (hk : k < 64) where
  -- words before the figures
  head : (i : ℕ) → i < figures_start → word x i ≡ word m i
  head i h = f.other i (omega arith) (omega arith) (omega arith) (omega arith)

  -- another unit's figures, or another period's
  pub cell_other : (j q : ℕ) → j < 64 → ((j ≡ k) × (q ≡ p) → ⊥) → figures_at x j q ≡ figures_at m j q
  cell_other j q hj n =
      figures_same (kept 0 (figure_place j q) (omega arith) (omega arith)) (kept 1 (figure_place j q + RAISED) (omega arith) (omega arith))
      (kept 2 (figure_place j q + LOWERED) (omega arith) (omega arith)) (kept 4 (figure_place j q + VOLUME) (omega arith) (omega arith))
      (kept 3 (figure_place j q + MARK) (omega arith) (omega arith))
    where
      apart : (c g i : ℕ) → c < 5 → g < 5 → i ≡ figure_place j q + 24 * c → i ≡ figure_place k p + 24 * g → ⊥
      apart c g i hc hg e z = let s = same_place j q c k p g hj hk hc hg (sym e ∙ z) in n (s.unit, s.period)

      kept : (c i : ℕ) → c < 5 → i ≡ figure_place j q + 24 * c → word x i ≡ word m i
      kept c i hc e =
          f.other i (λ z. apart c 1 i hc (omega arith) e (omega arith)) (λ z. apart c 2 i hc (omega arith) e (omega arith))
          (λ z. apart c 4 i hc (omega arith) e (omega arith)) (λ z. apart c 3 i hc (omega arith) e (omega arith))

  cell_own : figures_at x k p ≡ record { held = word m (figure_place k p); raised = r; lowered = l; volume = v; mark = w }
  cell_own = figures_same (f.other (figure_place k p) (omega arith) (omega arith) (omega arith) (omega arith)) f.raised f.lowered f.volume f.mark

  unit_other : (d j : ℕ) → j < 64 → (j ≡ k → ⊥) → unit_at x d j ≡ unit_at m d j
  unit_other d j hj n =
      unit_same (head (unit_place j) (omega arith)) (head (unit_place j + CAPACITY) (omega arith)) (head (unit_place j + ASSET) (omega arith))
      (table_ext (periods d) (figures_at x j) (figures_at m j) (λ q hq. cell_other j q hj (λ e. n e.0)))

  unit_own : (d : ℕ) → p < periods d
      → unit_at x d k ≡ record {
        kind = word m (unit_place k);
        capacity = word m (unit_place k + CAPACITY);
        asset = word m (unit_place k + ASSET);
        figures = set
            (table (periods d) (figures_at m k)) p (record { held = word m (figure_place k p); raised = r; lowered = l; volume = v; mark = w });
      }
  unit_own d h =
      unit_same (head (unit_place k) (omega arith)) (head (unit_place k + CAPACITY) (omega arith)) (head (unit_place k + ASSET) (omega arith))
      (table-set (periods d) (figures_at m k) (figures_at x k) p _ no_figures h cell_own (λ q hq n. cell_other k q hk (λ e. n e.1)))

  offer_other : (d j : ℕ) → d ≤ 31 → j < 8 → offer_at x d j ≡ offer_at m d j
  offer_other d j hd hj =
      offer_same (head (offer_place j) (omega arith)) (head (offer_place j + UNIT) (omega arith)) (head (offer_place j + PARTNER) (omega arith))
      (head (offer_place j + PRICE) (omega arith)) (head (offer_place j + TAKEN) (omega arith))
      (table_ext (periods d) (amount_at x j) (amount_at m j) (λ q hq. head (amount_place j q) (omega arith)))

  pub put_kept : p < 24 * word m DAYS → Kept m x
  put_kept h = record { long = f.long; head = head; past = λ i l'. f.other i (omega arith) (omega arith) (omega arith) (omega arith) }

  -- the book that it holds
  pub put_book : Readable m → k < word m UNITS → p < 24 * word m DAYS
      → decode x ≡ with_units (decode m) (set (decode m).units k
      (record {
        kind = word m (unit_place k);
        capacity = word m (unit_place k + CAPACITY);
        asset = word m (unit_place k + ASSET);
        figures = set
            (table (periods (word m DAYS)) (figures_at m k)) p (record {
              held = word m (figure_place k p);
              raised = r;
              lowered = l;
              volume = v;
              mark =
                  w;
            });
      }))
  unfolding decode
  put_book g hu hp =
      let e0 = head DAYS (omega arith) in
      let e5 = head UNITS (omega arith) in
      let e6 = head OFFERS (omega arith) in
      let e7 = head ORDERS (omega arith) in
      book_same _ _ e0 (head FLOOR (omega arith)) (head CEILING (omega arith)) (head PHASE (omega arith)) (head GIVEN (omega arith))
      (rw (e0, e5) (table-set (word m UNITS) (unit_at m (word m DAYS)) (unit_at x (word m DAYS)) k _ no_unit hu (unit_own (word m DAYS) hp)
      (λ j hj n. unit_other (word m DAYS) j (omega arith) n)))
      (rw (e0, e6) (table_ext (word m OFFERS) (offer_at x (word m DAYS)) (offer_at m (word m DAYS)) (λ j hj. offer_other (word m DAYS) j g.days_to
      (omega arith))))
      (rw (e7, orders_part_same m x f.long (λ i l' h. head i (omega arith))) refl)

  -- figures that rose by at most q
  pub put_small : (q most : ℕ) → r ≤ word m (figure_place k p + RAISED) + q → l ≤ word m (figure_place k p + LOWERED) + q → v ≤ word m
      (figure_place k p + VOLUME) + q
      → k < word m UNITS → p < 24 * word m DAYS → word m UNITS ≤ 64
      → Small m most → Small x (most + q)
  put_small q most hr hl hv hu hp top s j t hj ht =
      go (ℕ_discrete j k) (ℕ_discrete t p)
    where
      e0 : word x DAYS ≡ word m DAYS
      e0 = head DAYS (omega arith)

      e5 : word x UNITS ≡ word m UNITS
      e5 = head UNITS (omega arith)

      at : SmallAt m j t most
      at = s j t (rw e5 at hj) (rw e0 at ht)

      j64 : j < 64
      j64 = omega (arith, e5)

      own : j ≡ k → t ≡ p → SmallAt x j t (most + q)
      own ej et =
          let o = s k p hu hp in
          let a = f.raised in
          let b = f.lowered in
          let c = f.volume in
          rw (ej, et) (record { raised = omega arith; lowered = omega arith; volume = omega arith })

      other : ((j ≡ k) × (t ≡ p) → ⊥) → SmallAt x j t (most + q)
      other n =
          let e = cell_other j t j64 n in
          let o = at in
          let a : word x (figure_place j t + RAISED) ≡ word m (figure_place j t + RAISED) = ap (λ (z : Figures). z.raised) e in
          let b : word x (figure_place j t + LOWERED) ≡ word m (figure_place j t + LOWERED) = ap (λ (z : Figures). z.lowered) e in
          let c : word x (figure_place j t + VOLUME) ≡ word m (figure_place j t + VOLUME) = ap (λ (z : Figures). z.volume) e in
          record { raised = omega arith; lowered = omega arith; volume = omega arith }

      go : Dec (j ≡ k) → Dec (t ≡ p) → SmallAt x j t (most + q)
      go (yes a) (yes b) = own a b
      go (yes a) (no b) = other (λ e. b e.1)
      go (no a) b = other (λ e. a e.0)
