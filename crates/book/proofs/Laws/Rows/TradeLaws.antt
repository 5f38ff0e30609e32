-- What rows do to the figures, and what they leave (specs/Trades.antt).
use Rattle.std.proofs.Common.{◌≡◌, ℕ, zero, suc, ◌+◌, ◌-◌, ◌<◌, ◌≤◌, Bool, true, false, cond, ◌&&◌, eqb, leb, List, [], ◌∷◌, length, get_or, set, refl}
use Rattle.std.proofs.Common.{sym, ap, ◌∙◌, arith, length-set, get_or-set_other, get_or-set_same, eq-eqb, ne_eqb}
use native.Mathlib.Decide.{ℕ_discrete, dec_lt}
use lib.Seq.{set_out}
use Rattle.measures.specs.Lists.{sum_of, Each}
use Rattle.measures.proofs.RangeLaws.{In}
use Rattle.limits.specs.Units.{generator}
use Rattle.matching.specs.Orders.{Row}
use Rattle.book.specs.Book.{Figures, no_figures, EnrolledUnit, no_unit, Book, unit_of, figures_of, with_units}
use Rattle.book.specs.Trades.{raises, mark_after, traded, unit_traded, booked, row_booked, rows_booked}
use Rattle.matching.proofs.Laws.Lists.EachLaws.{each_at}
use Rattle.book.proofs.Laws.Sound.SoundLaws.{UnitRanges}

-- an element that is set keeps what f reads of it
module _ {A : Type 0} where
  pub set_keeps : {B : Type 0} (f : A → B) (l : List A) (i j : ℕ) (x d : A) → f x ≡ f (get_or l i d) → f (get_or (set l i x) j d) ≡ f (get_or l j d)
  set_keeps f l i j x d e = go (ℕ_discrete j i) (dec_lt i (length l))
    where
      go : Dec (j ≡ i) → Dec (i < length l) → f (get_or (set l i x) j d) ≡ f (get_or l j d)
      go (yes q) (yes h) = rw q (ap f (get_or-set_same l i x d h) ∙ e)
      go (yes q) (no h) = ap (λ (m : List A). f (get_or m j d)) (set_out l i x (omega arith))
      go (no q) h = ap f (get_or-set_other l i j x d q)

  pub each_set : (P : A → Type 0) (l : List A) (i : ℕ) (x : A) → Each P l → (i < length l → P x) → Each P (set l i x)
  each_set P [] i x e h = tt
  each_set P (y ∷ l) zero x e h = (h (omega arith), e.1)
  each_set P (y ∷ l) (suc i) x e h = (e.0, each_set P l i x e.1 (λ k. h (omega arith)))

-- b' differs from b in its units' figures alone
pub record Kept (b b' : Book) : Type 0 where
  pub rest : b' ≡ with_units b b'.units
  pub count : length b'.units ≡ length b.units
  pub kind : (u : ℕ) → (unit_of b' u).kind ≡ (unit_of b u).kind
  pub capacity : (u : ℕ) → (unit_of b' u).capacity ≡ (unit_of b u).capacity
  pub asset : (u : ℕ) → (unit_of b' u).asset ≡ (unit_of b u).asset
  pub figures : (u : ℕ) → length (unit_of b' u).figures ≡ length (unit_of b u).figures
  pub ranges : (days : ℕ) → Each (UnitRanges days) b.units → Each (UnitRanges days) b'.units

pub kept_none : (b : Book) → Kept b b
kept_none b =
    record { rest = refl; count = refl; kind = λ u. refl; capacity = λ u. refl; asset = λ u. refl; figures = λ u. refl; ranges = λ days h. h }

pub kept_then : (b b' b'' : Book) → Kept b b' → Kept b' b'' → Kept b b''
kept_then b b' b'' k l =
    record {
      rest = l.rest ∙ ap (λ (x : Book). with_units x b''.units) k.rest;
      count = l.count ∙ k.count;
      kind = λ u. l.kind u ∙ k.kind u;
      capacity = λ u. l.capacity u ∙ k.capacity u;
      asset = λ u. l.asset u ∙ k.asset u;
      figures = λ u. l.figures u ∙ k.figures u;
      ranges = λ days h. l.ranges days (k.ranges days h);
    }

-- a mark stays in its range
mark_after-small : (w d mark : ℕ) → d ≤ 1 → mark ≤ 3 → mark_after w d mark ≤ 3
mark_after-small w d mark h k = go (leb 3 w) (eqb mark 0) (eqb mark (2 - d))
  where
    go : (x y z : Bool) → cond x (cond y (d + 1) (cond z 3 mark)) mark ≤ 3
    go true true z = omega arith
    go true false true = omega arith
    go true false false = k
    go false y z = k

module _ (w d p q : ℕ) where
  mark_small : (f : Figures) (kind : ℕ) → d ≤ 1 → f.mark ≤ 3 → (traded kind w d q f).mark ≤ 3
  unfolding traded
  mark_small f kind h k = go (cond (generator kind) (eqb d 0) (eqb d 1))
    where
      go : (r : Bool)
          → (cond {A = Figures} r
          (record { held = f.held; raised = f.raised + q; lowered = f.lowered; volume = f.volume + q; mark = mark_after w d f.mark })
          (record { held = f.held; raised = f.raised; lowered = f.lowered + q; volume = f.volume + q; mark = mark_after w d f.mark })).mark ≤ 3
      go true = mark_after-small w d f.mark h k
      go false = mark_after-small w d f.mark h k

  trade_ranges : (days : ℕ) (u : EnrolledUnit) → d ≤ 1 → UnitRanges days u → UnitRanges days (unit_traded w d p q u)
  trade_ranges days u h r =
      record {
        kind = r.kind;
        capacity = r.capacity;
        asset = r.asset;
        figures = length-set u.figures p (traded u.kind w d q (get_or u.figures p no_figures)) ∙ r.figures;
        marks =
            each_set (λ (f : Figures). f.mark ≤ 3) u.figures p (traded u.kind w d q (get_or u.figures p no_figures)) r.marks
            (λ l. mark_small (get_or u.figures p no_figures) u.kind h (each_at (λ (f : Figures). f.mark ≤ 3) u.figures p no_figures r.marks l));
      }

  pub kept_booked : (v : ℕ) (b : Book) → d ≤ 1 → Kept b (booked w d p q v b)
  unfolding booked
  kept_booked v b h =
      record {
        rest = refl;
        count = length-set b.units (v - 1) x;
        kind = λ u. set_keeps (λ (y : EnrolledUnit). y.kind) b.units (v - 1) (u - 1) x no_unit refl;
        capacity = λ u. set_keeps (λ (y : EnrolledUnit). y.capacity) b.units (v - 1) (u - 1) x no_unit refl;
        asset = λ u. set_keeps (λ (y : EnrolledUnit). y.asset) b.units (v - 1) (u - 1) x no_unit refl;
        figures = λ u.
            set_keeps (λ (y : EnrolledUnit). length y.figures) b.units (v - 1) (u - 1) x no_unit
            (length-set (unit_of b v).figures p (traded (unit_of b v).kind w d q (get_or (unit_of b v).figures p no_figures)));
        ranges = λ days e. each_set (UnitRanges days) b.units (v - 1) x e
            (λ l. trade_ranges days (unit_of b v) h (each_at (UnitRanges days) b.units (v - 1) no_unit e l));
      }
    where
      x : EnrolledUnit
      x = unit_traded w d p q (unit_of b v)

  -- the figures of a unit and a period after a trade
  pub booked-figures : (v : ℕ) (b : Book) (u at : ℕ) → 1 ≤ v → In 1 (length b.units) u → at < length (unit_of b u).figures
      → figures_of (booked w d p q v b) u at ≡ cond (eqb v u && eqb p at) (traded (unit_of b u).kind w d q (figures_of b u at)) (figures_of b u at)
  unfolding booked
  booked-figures v b u at hv hu h = go (ℕ_discrete v u) (ℕ_discrete p at)
    where
      after : Book
      after = with_units b (set b.units (v - 1) (unit_traded w d p q (unit_of b v)))

      mine : v ≡ u → unit_of after u ≡ unit_traded w d p q (unit_of b u)
      mine e = rw e (get_or-set_same b.units (u - 1) (unit_traded w d p q (unit_of b u)) no_unit (omega arith))

      go : Dec (v ≡ u) → Dec (p ≡ at) → figures_of after u at
          ≡ cond (eqb v u && eqb p at) (traded (unit_of b u).kind w d q (figures_of b u at)) (figures_of b u at)
      go (yes e) (yes i) =
          let l : p < length (unit_of b u).figures = omega arith in
          ap (λ (x : EnrolledUnit). get_or x.figures at no_figures) (mine e)
          ∙ rw (eq-eqb v u e, eq-eqb p at i, ← i) (get_or-set_same (unit_of b u).figures p (traded (unit_of b u).kind w d q (figures_of b u p)) no_figures l)
      go (yes e) (no i) =
          ap (λ (x : EnrolledUnit). get_or x.figures at no_figures) (mine e)
          ∙ rw (eq-eqb v u e, ne_eqb p at i) (get_or-set_other (unit_of b u).figures p at (traded (unit_of b u).kind w d q (figures_of b u p)) no_figures
          (λ j. i (sym j)))
      go (no e) i =
          ap (λ (x : EnrolledUnit). get_or x.figures at no_figures) (get_or-set_other b.units (v - 1) (u - 1) (unit_traded w d p q (unit_of b v)) no_unit
          (omega arith))
          ∙ rw (ne_eqb v u e)

-- f' is f with r more raised and l more lowered
pub record Grown (f f' : Figures) (r l : ℕ) : Type 0 where
  pub held : f'.held ≡ f.held
  pub raised : f'.raised ≡ f.raised + r
  pub lowered : f'.lowered ≡ f.lowered + l
  pub volume : f'.volume ≡ f.volume + (r + l)

pub grown_then : (f f' f'' : Figures) (r l r' l' : ℕ) → Grown f f' r l → Grown f' f'' r' l' → Grown f f'' (r + r') (l + l')
grown_then f f' f'' r l r' l' g h = omega arith

-- a trade, where c says that it is of this unit and period
pub grown_trade : (kind w d q : ℕ) (f : Figures) (c : Bool)
    → Grown f (cond c (traded kind w d q f) f) (cond (raises kind d) (cond c q 0) 0) (cond (raises kind d) 0 (cond c q 0))
unfolding traded
grown_trade kind w d q f c = go (raises kind d) refl c
  where
    go : (r : Bool) → raises kind d ≡ r → (c : Bool)
        → Grown f (cond c (traded kind w d q f) f) (cond (raises kind d) (cond c q 0) 0) (cond (raises kind d) 0 (cond c q 0))
    go true e true = rw e (omega arith)
    go true e false = rw e (omega arith)
    go false e true = rw e (omega arith)
    go false e false = rw e (omega arith)

-- what a unit traded in a period, as the party that `who` reads
abbrev pub row_trades : (Row → ℕ) → ℕ → ℕ → Row → ℕ
row_trades who u p r = cond (eqb (who r) u && eqb r.period p) r.quantity 0

unfoldable pub traded_by : (Row → ℕ) → ℕ → ℕ → List Row → ℕ
traded_by who u p rs = sum_of (row_trades who u p) rs

abbrev pub sold : ℕ → ℕ → List Row → ℕ
sold u p rs = traded_by (λ (r : Row). r.seller) u p rs

abbrev pub bought : ℕ → ℕ → List Row → ℕ
bought u p rs = traded_by (λ (r : Row). r.buyer) u p rs

-- what it so raised and lowered
abbrev pub rows_raise : ℕ → ℕ → ℕ → List Row → ℕ
rows_raise kind u p rs = cond (generator kind) (sold u p rs) (bought u p rs)

abbrev pub rows_lower : ℕ → ℕ → ℕ → List Row → ℕ
rows_lower kind u p rs = cond (generator kind) (bought u p rs) (sold u p rs)

-- each row names two units
abbrev pub Named : Row → Type 0
Named r = (1 ≤ r.seller) × (1 ≤ r.buyer)

pub kept_rows : (rs : List Row) (b : Book) → Kept b (rows_booked rs b)
unfolding rows_booked
kept_rows [] b = kept_none b
kept_rows (r ∷ rs) b =
    let b1 = booked r.way 0 r.period r.quantity r.seller b in
    let b2 = booked r.way 1 r.period r.quantity r.buyer b1 in
    kept_then b b2 (rows_booked rs b2)
    (kept_then b b1 b2 (kept_booked r.way 0 r.period r.quantity r.seller b (omega arith))
    (kept_booked r.way 1 r.period r.quantity r.buyer b1 (omega arith)))
    (kept_rows rs b2)

-- a unit's figures of a period after one row, and after all
grown_row : (r : Row) (b : Book) (u p : ℕ) → Named r → In 1 (length b.units) u → p < length (unit_of b u).figures
    → Grown (figures_of b u p) (figures_of (row_booked r b) u p)
    (cond (raises (unit_of b u).kind 0) (row_trades (λ (r : Row). r.seller) u p r) 0 + cond (raises (unit_of b u).kind 1)
    (row_trades (λ (r : Row). r.buyer) u p r) 0)
    (cond (raises (unit_of b u).kind 0) 0 (row_trades (λ (r : Row). r.seller) u p r) + cond (raises (unit_of b u).kind 1) 0
    (row_trades (λ (r : Row). r.buyer) u p r))
grown_row r b u p n i h = grown_then (figures_of b u p) (figures_of b1 u p) (figures_of (row_booked r b) u p) _ _ _ _ sale purchase
  where
    b1 : Book
    b1 = booked r.way 0 r.period r.quantity r.seller b

    k : Kept b b1
    k = kept_booked r.way 0 r.period r.quantity r.seller b (omega arith)

    sale : Grown (figures_of b u p) (figures_of b1 u p) (cond (raises (unit_of b u).kind 0) (row_trades (λ (r : Row). r.seller) u p r) 0)
        (cond (raises (unit_of b u).kind 0) 0 (row_trades (λ (r : Row). r.seller) u p r))
    sale =
        rw (booked-figures r.way 0 r.period r.quantity r.seller b u p n.0 i h)
        (grown_trade (unit_of b u).kind r.way 0 r.quantity (figures_of b u p) (eqb r.seller u && eqb r.period p))

    purchase : Grown (figures_of b1 u p) (figures_of (row_booked r b) u p) (cond (raises (unit_of b u).kind 1) (row_trades (λ (r : Row). r.buyer) u p r) 0)
        (cond (raises (unit_of b u).kind 1) 0 (row_trades (λ (r : Row). r.buyer) u p r))
    purchase =
        rw (
          booked-figures r.way 1 r.period r.quantity r.buyer b1 u p n.1 (omega (arith, k.count)) (omega (arith, k.figures u)),
          ← k.kind
              u,
        )
        (grown_trade (unit_of b1 u).kind r.way 1 r.quantity (figures_of b1 u p) (eqb r.buyer u && eqb r.period p))

-- no trade, and the trades of a row and of those behind it, where g says that the unit is a generator
grown_none : (f : Figures) (g : Bool) → Grown f f (cond g 0 0) (cond g 0 0)
grown_none f true = omega arith
grown_none f false = omega arith

add_up : (g : Bool) (s t x y : ℕ)
    → (cond (cond g true false) s 0 + cond (cond g false true) t 0 + cond g x y ≡ cond g (s + x) (t + y))
    × (cond (cond g true false) 0 s + cond (cond g false true) 0 t + cond g y x ≡ cond g (t + y) (s + x))
add_up true s t x y = omega arith
add_up false s t x y = omega arith

pub grown_rows : (rs : List Row) (b : Book) (u p : ℕ) → Each Named rs → In 1 (length b.units) u → p < length (unit_of b u).figures
    → Grown (figures_of b u p) (figures_of (rows_booked rs b) u p) (rows_raise (unit_of b u).kind u p rs) (rows_lower (unit_of b u).kind u p rs)
unfolding rows_booked traded_by
grown_rows [] b u p n i h = grown_none (figures_of b u p) (generator (unit_of b u).kind)
grown_rows (r ∷ rs) b u p n i h =
    let k = kept_rows (r ∷ []) b in
    let rest = rw (k.kind u) at (grown_rows rs (row_booked r b) u p n.1 (omega (arith, k.count)) (omega (arith, k.figures u))) in
    let sums = add_up (generator (unit_of b u).kind) (row_trades (λ (r : Row). r.seller) u p r) (row_trades (λ (r : Row). r.buyer) u p r) (sold u p rs)
    (bought u p rs) in
    rw (← sums.0, ← sums.1)
    (grown_then (figures_of b u p) (figures_of (row_booked r b) u p) (figures_of (rows_booked rs (row_booked r b)) u p) _ _ _ _ (grown_row r b u p n.0 i h)
    rest)
