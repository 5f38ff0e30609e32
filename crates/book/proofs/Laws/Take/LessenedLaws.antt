-- An offer with parts taken off, that stays: the book in memory.
use Rattle.std.proofs.Common.{◌≡◌, ℕ, ◌+◌, ◌-◌, ◌*◌, ◌<◌, ◌≤◌, List, length, get_or, set, sym, refl, ap, ◌∙◌, arith, length-set, get_or-set_other, get_or-set_same}
use native.Mathlib.Decide.{dec_lt}
use Rattle.measures.specs.Lists.{table}
use Rattle.measures.specs.Sharing.{less_each}
use Rattle.measures.proofs.LessLaws.{less-length, less_at_lem}
use Rattle.measures.proofs.ListLaws.{table-length, table_at, table_is, table_ext, table-set}
use Rattle.limits.specs.Units.{periods}
use Rattle.book.specs.Book.{no_offer}
use Rattle.book.specs.Take.{offer_less}
use Rattle.book.specs.Layout.{
  DAYS,
  FLOOR,
  CEILING,
  PHASE,
  GIVEN,
  UNITS,
  OFFERS,
  ORDERS,
  unit_place,
  CAPACITY,
  ASSET,
  offer_place,
  UNIT,
  PARTNER,
  TAKEN,
  PRICE,
  amounts_start,
  amount_place,
  figures_start,
  figure_place,
  RAISED,
  LOWERED,
  MARK,
  VOLUME,
  word,
  figures_at,
  unit_at,
  amount_at,
  offer_at,
  decode,
}
use Rattle.book.specs.Inner.Readable.{Readable}
use Rattle.book.specs.Inner.RowsIn.{AmountsLess, OfferLessened}
use Rattle.book.proofs.Laws.Memory.WordLaws.{book_same}
use Rattle.book.proofs.Laws.Rows.FigureLaws.{figures_same, unit_same, offer_same, orders_part_same}

module _ (m x : List ℕ) (j : ℕ) (l ps : List ℕ) (g : Readable m) (hj : j < word m OFFERS) (a : AmountsLess m x j l) (same : (p : ℕ) → p
    < 24 * word m DAYS → get_or l p 0 ≡ get_or ps p 0) where
  abbrev y : List ℕ
  y = set x (offer_place j + TAKEN) 1

  other : (i : ℕ) → (i ≡ offer_place j + TAKEN → ⊥) → ((p : ℕ) → p < 24 * word m DAYS → i ≡ amount_place j p → ⊥) → word y i ≡ word m i
  other i n f = get_or-set_other x (offer_place j + TAKEN) i 1 0 n ∙ a.other i f

  low : (i : ℕ) → i < amounts_start → (i ≡ offer_place j + TAKEN → ⊥) → word y i ≡ word m i
  low i h n = other i n (λ p k e. absurd (omega arith))

  high : (i : ℕ) → figures_start ≤ i → word y i ≡ word m i
  high i h = other i (omega (arith, g.offers_to)) (λ p k e. absurd (omega (arith, g.offers_to, g.days_to)))

  amount : (i q : ℕ) → i < 8 → q < 24 * word m DAYS → (i ≡ j → ⊥) → amount_at y i q ≡ amount_at m i q
  amount i q h hq n = other (amount_place i q) (omega (arith, g.offers_to)) (λ p k z. apart i j q p n (omega (arith, g.days_to)) (omega (arith, g.days_to)) z)
    where
      apart : (i j q p : ℕ) → (i ≡ j → ⊥) → q < 744 → p < 744 → amount_place i q ≡ amount_place j p → ⊥
      apart i j q p n hq hp e = go (dec_lt i j)
        where
          go : Dec (i < j) → ⊥
          go (yes h) = omega arith
          go (no h) = omega arith

  amount_own : (q : ℕ) → q < 24 * word m DAYS → amount_at y j q ≡ amount_at m j q - get_or ps q 0
  amount_own q h =
      get_or-set_other x (offer_place j + TAKEN) (amount_place j q) 1 0 (λ z. absurd (omega arith)) ∙ a.own q h
      ∙ ap (λ (t : ℕ). word m (amount_place j q) - t) (same q h)

  figures_kept : (k q : ℕ) → figures_at y k q ≡ figures_at m k q
  figures_kept k q =
      figures_same (high (figure_place k q) (omega arith)) (high (figure_place k q + RAISED) (omega arith)) (high (figure_place k q + LOWERED) (omega arith))
      (high (figure_place k q + VOLUME) (omega arith)) (high (figure_place k q + MARK) (omega arith))

  unit_kept : (d k : ℕ) → k < 64 → unit_at y d k ≡ unit_at m d k
  unit_kept d k h =
      unit_same (low (unit_place k) (omega arith) (λ z. absurd (omega arith))) (low (unit_place k + CAPACITY) (omega arith) (λ z. absurd (omega arith)))
      (low (unit_place k + ASSET) (omega arith) (λ z. absurd (omega arith)))
      (table_ext (periods d) (figures_at y k) (figures_at m k) (λ q hq. figures_kept k q))

  offer_kept : (i : ℕ) → i < 8 → (i ≡ j → ⊥) → offer_at y (word m DAYS) i ≡ offer_at m (word m DAYS) i
  offer_kept i h n =
      offer_same (low (offer_place i) (omega arith) (λ z. absurd (omega arith))) (low (offer_place i + UNIT) (omega arith) (λ z. absurd (omega arith)))
      (low (offer_place i + PARTNER) (omega arith) (λ z. absurd (omega arith)))
      (low (offer_place i + PRICE) (omega arith) (λ z. absurd (omega arith))) (low (offer_place i + TAKEN) (omega arith) (λ z. n (omega arith)))
      (table_ext (periods (word m DAYS)) (amount_at y i) (amount_at m i) (λ q hq. amount i q h hq n))

  offer_own : offer_at y (word m DAYS) j ≡ offer_less (offer_at m (word m DAYS) j) ps
  offer_own =
      offer_same (low (offer_place j) (omega arith) (λ z. absurd (omega arith))) (low (offer_place j + UNIT) (omega arith) (λ z. absurd (omega arith)))
      (low (offer_place j + PARTNER) (omega arith) (λ z. absurd (omega arith)))
      (low (offer_place j + PRICE) (omega arith) (λ z. absurd (omega arith))) (get_or-set_same x (offer_place j + TAKEN) 1 0 (omega (arith, a.long)))
      (table_is (periods (word m DAYS)) (amount_at y j) (less_each (table (periods (word m DAYS)) (amount_at m j)) ps) 0
      (less-length (table (periods (word m DAYS)) (amount_at m j)) ps ∙ table-length (periods (word m DAYS)) (amount_at m j))
      (λ q hq. amount_own q hq ∙ ap (λ (t : ℕ). t - get_or ps q 0) (sym (table_at (periods (word m DAYS)) (amount_at m j) q 0 hq))
      ∙ sym (less_at_lem (table (periods (word m DAYS)) (amount_at m j)) ps q)))

  pub lessened : OfferLessened m y j ps
  unfolding decode
  lessened =
      let e0 = low DAYS (omega arith) (λ z. absurd (omega arith)) in
      let e5 = low UNITS (omega arith) (λ z. absurd (omega arith)) in
      let e6 = low OFFERS (omega arith) (λ z. absurd (omega arith)) in
      let e7 = low ORDERS (omega arith) (λ z. absurd (omega arith)) in
      let long : length y ≡ length m = simp length-set a.long in
      record {
        book =
            book_same _ _ e0 (low FLOOR (omega arith) (λ z. absurd (omega arith))) (low CEILING (omega arith) (λ z. absurd (omega arith)))
            (low PHASE (omega arith) (λ z. absurd (omega arith))) (low GIVEN (omega arith) (λ z. absurd (omega arith)))
            (rw (e0, e5) (table_ext (word m UNITS) (unit_at y (word m DAYS)) (unit_at m (word m DAYS))
            (λ k hk. unit_kept (word m DAYS) k (omega arith))))
            (rw (e0, e6) (table-set (word m OFFERS) (offer_at m (word m DAYS)) (offer_at y (word m DAYS)) j _ no_offer hj offer_own
            (λ i hi n. offer_kept i (omega arith) n)))
            (rw (e7, orders_part_same m y long (λ i b h. low i h (λ z. absurd (omega arith)))) refl);
        long = long;
        head = λ i h. low i (omega arith) (λ z. absurd (omega arith));
        figures = high;
        left = record { own = amount_own; others = λ i h n f. other i n f };
      }
