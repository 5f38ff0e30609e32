-- The book that a closed day leaves.
use Rattle.std.proofs.Common.{◌≡◌, ℕ, ◌+◌, ◌*◌, ◌/◌, ◌%◌, ◌<◌, ◌≤◌, true, List, map, length, set, sym, ap, ◌∙◌, arith, length-set, get_or-set_other, get_or-set_same}
use Rattle.measures.specs.Lists.{table}
use Rattle.measures.proofs.ListLaws.{table_ext, map-table, table_none}
use Rattle.limits.specs.Units.{periods, most_capacity}
use Rattle.matching.specs.Memory.{orders_in, order_at}
use Rattle.book.specs.Book.{Figures, EnrolledUnit, no_figures, no_unit}
use Rattle.book.specs.Close.{day_over, unit_day_over, day_closed}
use Rattle.book.specs.Layout.{
  DAYS,
  FLOOR,
  CEILING,
  PHASE,
  GIVEN,
  UNITS,
  OFFERS,
  ORDERS,
  LAYOUT,
  unit_place,
  CAPACITY,
  ASSET,
  amounts_start,
  figures_start,
  day_place,
  figure_place,
  RAISED,
  LOWERED,
  MARK,
  VOLUME,
  word,
  figures_at,
  unit_at,
  offer_at,
  orders_part,
  decode,
  Aside,
}
use Rattle.book.specs.Inner.Readable.{Readable}
use Rattle.book.specs.Contract.{sound_in}
use Rattle.book.specs.Inner.Closing.{hours, Netting, DaysOver}
use Rattle.book.proofs.Laws.Memory.WordLaws.{book_same, aside_by}
use Rattle.book.proofs.Laws.Curve.CurveLaws.{sound_netted}
use Rattle.book.proofs.Laws.Rows.FigureLaws.{figures_same}

-- a sound book's figures come to nets
pub sound_netting : (m : List ℕ) → sound_in m ≡ true → Netting m
sound_netting m s = record { each = λ d hd k hk. record { held = held d k hd hk; lowered = lowered d k hd hk } }
  where
    at : (d k h : ℕ) → h < hours → figure_place k (24 * d + h) ≡ day_place d k + h
    at d k h l = omega arith

    held : (d k : ℕ) → d < word m DAYS → k < word m UNITS → (h : ℕ) → h < hours → word m (day_place d k + h) + word m (day_place d k + h + RAISED) ≤ most_capacity
    held d k hd hk h l =
        let n = (sound_netted m k s hk).held (24 * d + h) (omega arith) in
        omega (arith, n, ap (word m) (at d k h l), ap (λ (i : ℕ). word m (i + RAISED)) (at d k h l))

    lowered : (d k : ℕ) → d < word m DAYS → k < word m UNITS → (h : ℕ) → h < hours → word m (day_place d k + h + LOWERED) ≤ word m (day_place d k + h)
    lowered d k hd hk h l =
        let n = (sound_netted m k s hk).lowered (24 * d + h) (omega arith) in
        omega (arith, n, ap (word m) (at d k h l), ap (λ (i : ℕ). word m (i + LOWERED)) (at d k h l))

-- the four words of the head that the close sets
module _ (m x : List ℕ) (r : Readable m) (d : DaysOver m x (word m DAYS)) where
  abbrev y1 : List ℕ
  y1 = set x PHASE 0

  abbrev y2 : List ℕ
  y2 = set y1 GIVEN 0

  abbrev y3 : List ℕ
  y3 = set y2 OFFERS 0

  abbrev y : List ℕ
  y = set y3 ORDERS 0

  other : (i : ℕ) → (i ≡ PHASE → ⊥) → (i ≡ GIVEN → ⊥) → (i ≡ OFFERS → ⊥) → (i ≡ ORDERS → ⊥) → word y i ≡ word x i
  other i a b c e = get_or-set_other y3 ORDERS i 0 0 e ∙ get_or-set_other y2 OFFERS i 0 0 c ∙ get_or-set_other y1 GIVEN i 0 0 b ∙ get_or-set_other x PHASE i 0 0 a

  long_x : amounts_start ≤ length x
  long_x = let l = d.long in let h = r.long in omega arith

  len1 : length y1 ≡ length x
  len1 = length-set x PHASE 0

  len2 : length y2 ≡ length x
  len2 = length-set y1 GIVEN 0 ∙ len1

  len3 : length y3 ≡ length x
  len3 = length-set y2 OFFERS 0 ∙ len2

  pub closed_long : length y ≡ length m
  closed_long = length-set y3 ORDERS 0 ∙ len3 ∙ d.long

  head : (i : ℕ) → i < figures_start → (i ≡ PHASE → ⊥) → (i ≡ GIVEN → ⊥) → (i ≡ OFFERS → ⊥) → (i ≡ ORDERS → ⊥) → word y i ≡ word m i
  head i l a b c e = other i a b c e ∙ d.before i l

  w3 : word y PHASE ≡ 0
  w3 = get_or-set_other y3 ORDERS PHASE 0 0 (omega arith) ∙ get_or-set_other y2 OFFERS PHASE 0 0 (omega arith) ∙ get_or-set_other y1 GIVEN PHASE 0 0 (omega arith)
      ∙ get_or-set_same x PHASE 0 0 (omega (arith, long_x))

  w4 : word y GIVEN ≡ 0
  w4 = get_or-set_other y3 ORDERS GIVEN 0 0 (omega arith) ∙ get_or-set_other y2 OFFERS GIVEN 0 0 (omega arith) ∙ get_or-set_same y1 GIVEN 0 0
      (omega (arith, long_x, len1))

  w6 : word y OFFERS ≡ 0
  w6 = get_or-set_other y3 ORDERS OFFERS 0 0 (omega arith) ∙ get_or-set_same y2 OFFERS 0 0 (omega (arith, long_x, len2))

  w7 : word y ORDERS ≡ 0
  w7 = get_or-set_same y3 ORDERS 0 0 (omega (arith, long_x, len3))

  w0 : word y DAYS ≡ word m DAYS
  w0 = head DAYS (omega arith) (omega arith) (omega arith) (omega arith) (omega arith)

  w5 : word y UNITS ≡ word m UNITS
  w5 = head UNITS (omega arith) (omega arith) (omega arith) (omega arith) (omega arith)

  unit_over : (k : ℕ) → k < word m UNITS → unit_at y (word m DAYS) k ≡ unit_day_over (unit_at m (word m DAYS) k)
  unit_over k h =
      let few = r.units_to in
      let a : word y (unit_place k) ≡ word m (unit_place k) = head (unit_place k) (omega arith) (omega arith) (omega arith) (omega arith) (omega arith) in
      let b : word y (unit_place k + CAPACITY) ≡ word m (unit_place k + CAPACITY) = head (unit_place k + CAPACITY) (omega arith) (omega arith) (omega arith)
      (omega arith) (omega arith) in
      let c : word y (unit_place k + ASSET) ≡ word m (unit_place k + ASSET) = head (unit_place k + ASSET) (omega arith) (omega arith) (omega arith) (omega arith)
      (omega arith) in
      let f : table (periods (word m DAYS)) (figures_at y k) ≡ map day_over (table (periods (word m DAYS)) (figures_at m k)) =
      table_ext (periods (word m DAYS)) (figures_at y k) (λ p. day_over (figures_at m k p)) (λ p l. figures k p h l)
      ∙ sym (map-table day_over (periods (word m DAYS)) (figures_at m k) no_figures) in
      unit_same a b c f
    where
      unit_same : {a a' b b' c c' : ℕ} {fs fs' : List Figures} → a ≡ a' → b ≡ b' → c ≡ c' → fs ≡ fs'
          → ◌≡◌ {A = EnrolledUnit} (record { kind = a; capacity = b; asset = c; figures = fs }) (record { kind = a'; capacity = b'; asset = c'; figures = fs' })
      unit_same a b c f = rw (a, b, c, f)

      past : (i : ℕ) → figures_start ≤ i → word y i ≡ word x i
      past i l = other i (omega arith) (omega arith) (omega arith) (omega arith)

      figures : (k p : ℕ) → k < word m UNITS → p < periods (word m DAYS) → figures_at y k p ≡ day_over (figures_at m k p)
      figures k p hk hp =
          let o = d.over (p / 24) (omega arith) k hk in
          figures_same (past (figure_place k p) (omega arith) ∙ o.held (p % 24) (omega arith))
          (past (figure_place k p + RAISED) (omega arith) ∙ o.raised (p % 24) (omega arith))
          (past (figure_place k p + LOWERED) (omega arith) ∙ o.lowered (p % 24) (omega arith))
          (past (figure_place k p + VOLUME) (omega arith) ∙ o.volume (p % 24) (omega arith))
          (past (figure_place k p + MARK) (omega arith) ∙ o.mark (p % 24) (omega arith))

  pub closed_book : decode y ≡ day_closed (decode m)
  unfolding decode orders_in
  closed_book =
      book_same _ _ w0
      (head FLOOR (omega arith) (omega arith) (omega arith) (omega arith) (omega arith))
      (head CEILING (omega arith) (omega arith) (omega arith) (omega arith) (omega arith))
      w3 w4
      (ap (λ (n : ℕ). table n (unit_at y (word y DAYS))) w5 ∙ ap (λ (n : ℕ). table (word m UNITS) (unit_at y n)) w0
      ∙ table_ext (word m UNITS) (unit_at y (word m DAYS)) (λ k. unit_day_over (unit_at m (word m DAYS) k)) unit_over
      ∙ sym (map-table unit_day_over (word m UNITS) (unit_at m (word m DAYS)) no_unit))
      (ap (λ (n : ℕ). table n (offer_at y (word y DAYS))) w6 ∙ table_none (offer_at y (word y DAYS)))
      (ap (λ (n : ℕ). table n (order_at (orders_part y))) w7 ∙ table_none (order_at (orders_part y)))

  pub closed_aside : Aside m y
  closed_aside =
      aside_by y m closed_long (head LAYOUT (omega arith) (omega arith) (omega arith) (omega arith) (omega arith))
      (λ i l. other i (omega arith) (omega arith) (omega arith) (omega arith) ∙ d.behind i (omega arith))
