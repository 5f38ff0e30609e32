-- Laws of booking rows in memory: one party, one row, and the rows so far.
use Rattle.std.proofs.Common.{◌≡◌, ℕ, ◌+◌, ◌-◌, ◌*◌, ◌<◌, ◌≤◌, min, true, false, cond, eqb, leb, List, [], ◌∷◌, ◌++◌, length, get_or, set, refl}
use Rattle.std.proofs.Common.{sym, ap, ◌∙◌, arith, le-leb}
use borrow.Author.Tests.{lt-leb}
use Rattle.measures.specs.Ranges.{most_energy, most_number}
use Rattle.measures.specs.Lists.{table}
use Rattle.measures.proofs.ListLaws.{cond-true, cond-false, table_at, table_is, table_more}
use Rattle.limits.specs.Units.{periods, generator}
use Rattle.matching.specs.Orders.{Row}
use Rattle.matching.specs.Memory.{row_at, rows_in}
use Rattle.book.specs.Book.{Figures, no_figures, EnrolledUnit, Book, unit_of, with_units}
use Rattle.book.specs.Trades.{raises, mark_with, mark_after, traded, unit_traded, booked, row_booked, rows_booked}
use Rattle.book.specs.Layout.{
  DAYS,
  UNITS,
  OFFERS,
  ORDERS,
  LAYOUT,
  unit_place,
  CAPACITY,
  ASSET,
  figure_place,
  RAISED,
  LOWERED,
  MARK,
  VOLUME,
  word,
  figures_at,
  decode,
  Aside,
}
use Rattle.book.specs.Inner.Readable.{Readable}
use Rattle.book.specs.Inner.RowsIn.{SmallAt, Small, FiguresPut, Kept, Traded, RowTraded, RowFits, RowsFit, small_figures, RowsTraded}
use Rattle.book.proofs.Laws.Memory.WordLaws.{aside_by}
use Rattle.book.proofs.Laws.Memory.RangeFacts.{unit_at_lem, kind_at}
use Rattle.book.proofs.Laws.Rows.FigureLaws.{unit_same, put_kept, put_book, put_small}

-- which trades raise, and today's direction
pub raises-sold : (m : List ℕ) (u d : ℕ) → generator (unit_of (decode m) u).kind ≡ true → eqb d 0 ≡ raises (unit_of (decode m) u).kind d
raises-sold m u d e = sym (cond-true (generator (unit_of (decode m) u).kind) (eqb d 0) (eqb d 1) e refl)

pub raises-bought : (m : List ℕ) (u d : ℕ) → generator (unit_of (decode m) u).kind ≡ false → eqb d 1 ≡ raises (unit_of (decode m) u).kind d
raises-bought m u d e = sym (cond-false (generator (unit_of (decode m) u).kind) (eqb d 0) (eqb d 1) e refl)

pub mark_none : (d mark : ℕ) → eqb mark 0 ≡ true → d + 1 ≡ mark_with d mark
mark_none d mark e = sym (cond-true (eqb mark 0) (d + 1) (cond (eqb mark (2 - d)) 3 mark) e refl)

pub mark_other : (d mark : ℕ) → eqb mark 0 ≡ false → eqb mark (2 - d) ≡ true → 3 ≡ mark_with d mark
mark_other d mark n e = rw (n, e) refl

pub mark_own : (d mark : ℕ) → eqb mark 0 ≡ false → eqb mark (2 - d) ≡ false → mark ≡ mark_with d mark
mark_own d mark n o = rw (n, o) refl

pub mark_left : (way d mark : ℕ) → way < 3 → mark ≡ mark_after way d mark
mark_left way d mark h = sym (cond-false (leb 3 way) (mark_with d mark) mark (lt-leb 3 way h) refl)

pub mark_set : (way d mark r : ℕ) → 3 ≤ way → r ≡ mark_with d mark → r ≡ mark_after way d mark
mark_set way d mark r h e = e ∙ sym (cond-true (leb 3 way) (mark_with d mark) mark (le-leb 3 way h) refl)

-- what is kept through two changes, and what holds still
pub kept_none : (m : List ℕ) → Kept m m
kept_none m = record { long = refl; head = λ i h. refl; past = λ i h. refl }

pub kept_both : (m x y : List ℕ) → Kept m x → Kept x y → Kept m y
kept_both m x y a b =
    let e = a.head DAYS (omega arith) in
    record { long = b.long ∙ a.long; head = λ i h. b.head i h ∙ a.head i h; past = λ i h. b.past i (omega arith) ∙ a.past i h }

pub kept_readable : (m x : List ℕ) → Kept m x → Readable m → Readable x
kept_readable m x k r =
    let a = k.head DAYS (omega arith) in
    let b = k.head UNITS (omega arith) in
    let c = k.head OFFERS (omega arith) in
    let d = k.head ORDERS (omega arith) in
    let l = k.long in
    record { days_from = omega arith; days_to = omega arith; units_to = omega arith; offers_to = omega arith; orders_to = omega arith; long = omega arith }

pub kept_fits : (m x : List ℕ) (r : Row) → Kept m x → RowFits m r → RowFits x r
kept_fits m x r k f =
    let a = k.head DAYS (omega arith) in
    let b = k.head UNITS (omega arith) in
    record {
      period = omega arith;
      seller_from = f.seller_from;
      seller_to = omega arith;
      buyer_from = f.buyer_from;
      buyer_to = omega arith;
      quantity =
          f.quantity;
    }

pub kept_aside : (m x : List ℕ) → Kept m x → Aside m x
kept_aside m x k = aside_by x m k.long (k.head LAYOUT (omega arith)) k.past

pub small-more : (m : List ℕ) (a b : ℕ) → a ≤ b → Small m a → Small m b
small-more m a b h s k p hk hp = let t = s k p hk hp in record { raised = omega arith; lowered = omega arith; volume = omega arith }

-- one party: the unit as memory has it, with its new figures, is the unit after the trade
module _ (m x : List ℕ) (way direction p q u w : ℕ) (g : Readable m) (hp : p < 24 * word m DAYS) (one : 1 ≤ u) (most : u ≤ word m UNITS) (hw : w
    ≡ mark_after way direction (word m (figure_place (u - 1) p + MARK))) where
  figures_of_lem : (k : ℕ) → get_or (table (periods (word m DAYS)) (figures_at m k)) p no_figures ≡ figures_at m k p
  figures_of_lem k = table_at (periods (word m DAYS)) (figures_at m k) p no_figures hp

  traded_unit : unit_traded way direction p q (unit_of (decode m) u)
      ≡ record {
        kind = word m (unit_place (u - 1));
        capacity = word m (unit_place (u - 1) + CAPACITY);
        asset = word m (unit_place (u - 1) + ASSET);
        figures = set
            (table (periods (word m DAYS)) (figures_at m (u - 1))) p (traded (word m (unit_place (u - 1))) way direction q (figures_at m (u - 1) p));
      }
  traded_unit =
      ap (λ (t : EnrolledUnit). unit_traded way direction p q t) (unit_at_lem m u (one, most))
      ∙ unit_same refl refl refl (ap (λ (f : Figures). set (table (periods (word m DAYS)) (figures_at m (u - 1))) p
      (traded (word m (unit_place (u - 1))) way direction q f)) (figures_of_lem (u - 1)))

  booked_by : (r l v : ℕ) → FiguresPut m x (u - 1) p r l v w
      → traded (word m (unit_place (u - 1))) way direction q (figures_at m (u - 1) p)
      ≡ record { held = word m (figure_place (u - 1) p); raised = r; lowered = l; volume = v; mark = w }
      → decode x ≡ booked way direction p q u (decode m)
  unfolding booked
  booked_by r l v f e =
      put_book m x (u - 1) p r l v w f (omega arith) g (omega arith) hp
      ∙ ap (λ (t : EnrolledUnit). with_units (decode m) (set (decode m).units (u - 1) t))
      (sym (traded_unit ∙ unit_same refl refl refl (ap (λ (t : Figures). set (table (periods (word m DAYS)) (figures_at m (u - 1))) p t) e)))

  raised_lem : raises (unit_of (decode m) u).kind direction ≡ true
      → FiguresPut m x (u - 1) p (word m (figure_place (u - 1) p + RAISED) + q) (word m (figure_place (u - 1) p + LOWERED))
      (word m (figure_place (u - 1) p + VOLUME) + q) w
      → Traded m x way direction p q u
  unfolding traded
  raised_lem e f = record {
    book = booked_by _ _ _ f (cond-true (raises (word m (unit_place (u - 1))) direction) _ _ (rw (kind_at m u (one, most)) at e) (rw hw refl));
    kept = put_kept m x (u - 1) p _ _ _ _ f (omega arith) hp;
    small = λ t s. put_small m x (u - 1) p _ _ _ _ f (omega arith) q t (omega arith) (omega arith) (omega arith) (omega arith) hp g.units_to s;
  }

  lowered_lem : raises (unit_of (decode m) u).kind direction ≡ false
      → FiguresPut m x (u - 1) p (word m (figure_place (u - 1) p + RAISED)) (word m (figure_place (u - 1) p + LOWERED) + q)
      (word m (figure_place (u - 1) p + VOLUME) + q) w
      → Traded m x way direction p q u
  unfolding traded
  lowered_lem e f = record {
    book = booked_by _ _ _ f (cond-false (raises (word m (unit_place (u - 1))) direction) _ _ (rw (kind_at m u (one, most)) at e) (rw hw refl));
    kept = put_kept m x (u - 1) p _ _ _ _ f (omega arith) hp;
    small = λ t s. put_small m x (u - 1) p _ _ _ _ f (omega arith) q t (omega arith) (omega arith) (omega arith) (omega arith) hp g.units_to s;
  }

  -- the same of figures that a sum made, which no word is too small for
  module _ (f : Figures) (r l v : ℕ) (ef : f ≡ figures_at m (u - 1) p) (ev : v ≡ min (f.volume + q) most_number)
      (s : SmallAt m (u - 1) p 2_000_000_000_000_000_000) (hq : q ≤ most_energy) (h : FiguresPut m x (u - 1) p r l v w) where
    volume_is : v ≡ word m (figure_place (u - 1) p + VOLUME) + q
    volume_is = omega (arith, ev, ap (λ (t : Figures). t.volume) ef, s.volume, hq)

    pub trade_raised : raises (unit_of (decode m) u).kind direction ≡ true → r ≡ min (f.raised + q) most_number → l ≡ f.lowered
        → Traded m x way direction p q u
    trade_raised e er el =
        let e1 : r ≡ word m (figure_place (u - 1) p + RAISED) + q = omega (arith, er, ap (λ (t : Figures). t.raised) ef, s.raised, hq) in
        let e2 : l ≡ word m (figure_place (u - 1) p + LOWERED) = el ∙ ap (λ (t : Figures). t.lowered) ef in
        raised_lem e (rw (e1, e2, volume_is) at h)

    pub trade_lowered : raises (unit_of (decode m) u).kind direction ≡ false → r ≡ f.raised → l ≡ min (f.lowered + q) most_number
        → Traded m x way direction p q u
    trade_lowered e er el =
        let e1 : r ≡ word m (figure_place (u - 1) p + RAISED) = er ∙ ap (λ (t : Figures). t.raised) ef in
        let e2 : l ≡ word m (figure_place (u - 1) p + LOWERED) + q = omega (arith, el, ap (λ (t : Figures). t.lowered) ef, s.lowered, hq) in
        lowered_lem e (rw (e1, e2, volume_is) at h)

-- both parties of a row
pub row_traded : (m x y : List ℕ) (r : Row) → RowFits m r → Traded m x r.way 0 r.period r.quantity r.seller
    → Traded x y r.way 1 r.period r.quantity r.buyer → RowTraded m y r
row_traded m x y r f a b = record {
  book = b.book ∙ ap (λ (t : Book). booked r.way 1 r.period r.quantity r.buyer t) a.book;
  kept = kept_both m x y a.kept b.kept;
  small = λ t s. let h = f.quantity in small-more y (t + r.quantity + r.quantity) (t + 8_000_000_000) (omega arith)
      (b.small (t + r.quantity) (a.small t s));
}

-- rows in lent memory: one more, and those that were written
pub rows_none : (rows : List ℕ) → rows_in rows 0 ≡ []
unfolding rows_in
rows_none rows = table_is 0 (row_at rows) [] (row_at rows 0) refl (λ k h. absurd (omega arith))

pub rows_more : (rows : List ℕ) (n : ℕ) → rows_in rows (n + 1) ≡ rows_in rows n ++ (row_at rows n ∷ [])
unfolding rows_in
rows_more rows n = table_more n (row_at rows)

pub booked_append : (a b : List Row) (t : Book) → rows_booked (a ++ b) t ≡ rows_booked b (rows_booked a t)
unfolding rows_booked
booked_append [] b t = refl
booked_append (r ∷ a) b t = booked_append a b (row_booked r t)

-- where booking stands after n rows
pub record Booking (m x rows : List ℕ) (n : ℕ) : Type 0 where
  pub book : decode x ≡ rows_booked (rows_in rows n) (decode m)
  pub kept : Kept m x
  pub small : Small x (small_figures + 8_000_000_000 * n)

pub booking_none : (m rows : List ℕ) → Small m small_figures → Booking m m rows 0
unfolding rows_booked
booking_none m rows s = record {
  book = rw (rows_none rows) refl;
  kept = kept_none m;
  small = small-more m small_figures (small_figures + 8_000_000_000 * 0)
      (omega arith) s;
}

pub booking_more : (m x y rows : List ℕ) (n : ℕ) → Booking m x rows n → RowTraded x y (row_at rows n) → Booking m y rows (n + 1)
unfolding rows_booked
booking_more m x y rows n b t = record {
  book =
      t.book ∙ ap (λ (z : Book). row_booked (row_at rows n) z) b.book
      ∙ sym (ap (λ (rs : List Row). rows_booked rs (decode m)) (rows_more rows n) ∙ booked_append (rows_in rows n) (row_at rows n ∷ []) (decode m));
  kept = kept_both m x y b.kept t.kept;
  small = small-more y (small_figures + 8_000_000_000 * n + 8_000_000_000) (small_figures + 8_000_000_000 * (n + 1)) (omega arith)
      (t.small (small_figures + 8_000_000_000 * n) b.small);
}

pub booking_end : (m x rows : List ℕ) (n : ℕ) (i : ℕ) → i ≡ n → Booking m x rows i → RowsTraded m x rows n
booking_end m x rows n i e b = rw (← e) (record { book = b.book; kept = b.kept })

-- what a row and each of its parties ask
pub row_asks : (m x rows : List ℕ) (n i : ℕ) → Readable m → 6 * n ≤ length rows → n ≤ 744 → RowsFit m rows n → i < n → Booking m x rows i
    → (Readable x) × (6 * i + 6 ≤ length rows) × (i < 744) × (RowFits x (row_at rows i)) × (Small x 1_900_000_000_000_000_000)
row_asks m x rows n i g l t f h b = (
  kept_readable m x b.kept g,
  omega arith,
  omega arith,
  kept_fits m x (row_at rows i) b.kept (f i h),
  small-more x
      (small_figures + 8_000_000_000 * i) 1_900_000_000_000_000_000 (omega arith) b.small,
)

pub seller-asks : (m : List ℕ) (r : Row) → Readable m → RowFits m r → Small m 1_900_000_000_000_000_000
    → (Readable m) × (r.period < 24 * word m DAYS) × (1 ≤ r.seller) × (r.seller ≤ word m UNITS) × (r.quantity ≤ most_energy)
    × (SmallAt m (r.seller - 1) r.period 2_000_000_000_000_000_000)
seller-asks m r g f s =
    let a = f.seller_from in
    let b = f.seller_to in (
      g,
      f.period,
      f.seller_from,
      f.seller_to,
      f.quantity,
      small-more m 1_900_000_000_000_000_000 2_000_000_000_000_000_000 (omega arith) s
          (r.seller - 1) r.period (omega arith) f.period,
    )

pub buyer-asks : (m x : List ℕ) (r : Row) → Readable m → RowFits m r → Small m 1_900_000_000_000_000_000
    → Traded m x r.way 0 r.period r.quantity r.seller
    → (Readable x) × (r.period < 24 * word x DAYS) × (1 ≤ r.buyer) × (r.buyer ≤ word x UNITS) × (r.quantity ≤ most_energy)
    × (SmallAt x (r.buyer - 1) r.period 2_000_000_000_000_000_000)
buyer-asks m x r g f s t =
    let k = kept_fits m x r t.kept f in
    let a = k.buyer_from in
    let b = k.buyer_to in
    let q = f.quantity in (
      kept_readable m x t.kept g,
      k.period,
      k.buyer_from,
      k.buyer_to,
      f.quantity,
      small-more x (1_900_000_000_000_000_000 + r.quantity) 2_000_000_000_000_000_000 (omega arith) (t.small 1_900_000_000_000_000_000 s) (r.buyer - 1)
          r.period (omega arith) k.period,
    )
