-- The fit of a unit in memory is that of the decoded book.
use Rattle.std.proofs.Common.{◌≡◌, ℕ, ◌+◌, ◌-◌, ◌<◌, ◌≤◌, Bool, true, false, cond, ◌&&◌, eqb, leb, List, ◌++◌, length, get_or, take, drop, sym, refl, ap, ◌∙◌, arith}
use Rattle.measures.specs.Lists.{holds, sum, every, all}
use Rattle.measures.proofs.RangeLaws.{In}
use Rattle.measures.proofs.ListLaws.{all_ext, sum_ext, sum_of-table, every-table, table_at}
use Rattle.limits.specs.Units.{periods, generator}
use Rattle.limits.specs.Limits.{hour_of, hour_limit, term_limit, volume_limit}
use Rattle.matching.specs.Orders.{Order as OpenOrder}
use Rattle.matching.specs.Memory.{order_at, orders_in}
use Rattle.book.specs.Book.{Figures, no_figures, EnrolledUnit, OpenOffer, unit_of, figures_of}
use Rattle.book.specs.Trades.{raises, lowers}
use Rattle.book.specs.Fit.{
  Declaration,
  nothing,
  unit_fits,
  open_orders,
  open_offers,
  open_raising,
  open_lowering,
  raising_today,
  lowering_today,
  hour_fits,
  term_of,
  term_fits,
  volume_fits,
}
use Rattle.book.specs.Layout.{DAYS, UNITS, OFFERS, ORDERS, unit_place, offer_place, UNIT, figure_place, LOWERED, word, figures_at}
use Rattle.book.specs.Layout.{amount_at, offer_at, orders_part, decode}
use Rattle.book.specs.Inner.Readable.{Readable, marks_in, unit_whole, declared, misfit_of, Fitted}
use Rattle.book.specs.Inner.Fitting.{Added, order_share, offer_share, mark_holds, hour_holds, term_part, volume_part, term_at, volume_at}
use Rattle.book.specs.Inner.Fitting.{unit_holds, UnitCame}
use Rattle.book.specs.Inner.Whole.{BothAdded}
use Rattle.book.specs.declared.pass.Amounts.{Amounts}
use Rattle.book.proofs.Laws.Check.ShareLaws.{added_first}
use Rattle.book.proofs.Laws.Memory.RangeFacts.{unit_at_lem, order_word_at}

-- the direction that raises a unit of a kind, and the one that lowers it
pub raises_by : (kind d : ℕ) → raises kind d ≡ eqb d (cond (generator kind) 0 1)
raises_by kind d = go (generator kind)
  where
    go : (g : Bool) → cond g (eqb d 0) (eqb d 1) ≡ eqb d (cond g 0 1)
    go true = refl
    go false = refl

pub lowers_by : (kind d : ℕ) → lowers kind d ≡ eqb d (cond (generator kind) 1 0)
lowers_by kind d = go (generator kind)
  where
    go : (g : Bool) → cond g (eqb d 1) (eqb d 0) ≡ eqb d (cond g 1 0)
    go true = refl
    go false = refl

-- what is open, by places
module _ (m : List ℕ) (u p : ℕ) where
  order_is : (f : ℕ → Bool) (direction k : ℕ) → ((d : ℕ) → f d ≡ eqb d direction) → k < 256
      → cond (eqb (order_at (orders_part m) k).unit u && eqb (order_at (orders_part m) k).period p
      && f (order_at (orders_part m) k).direction) (order_at (orders_part m) k).quantity 0
      ≡ order_share m u direction k p
  unfolding order_share
  order_is f direction k e h =
      let at = order_word_at m k h in
      rw (e (order_at (orders_part m) k).direction, at 1 (omega arith), at 2 (omega arith), at 3 (omega arith), at 5 (omega arith))

  pub orders_open : (f : ℕ → Bool) (direction : ℕ) → ((d : ℕ) → f d ≡ eqb d direction) → word m ORDERS ≤ 256
      → open_orders f u p (decode m).orders ≡ sum (word m ORDERS) (λ k. order_share m u direction k p)
  unfolding open_orders decode orders_in
  orders_open f direction e h =
      sum_of-table (λ (o : OpenOrder). cond (eqb o.unit u && eqb o.period p && f o.direction) o.quantity 0) (word m ORDERS) (order_at (orders_part m))
      ∙ sum_ext (word m ORDERS) _ _ (λ k l. order_is f direction k e (omega arith))

  pub offers_open : p < periods (word m DAYS) → open_offers u p (decode m).offers ≡ sum (word m OFFERS) (λ j. offer_share m u j p)
  unfolding open_offers decode offer_share
  offers_open h =
      sum_of-table (λ (o : OpenOffer). cond (eqb o.unit u) (get_or o.amounts p 0) 0) (word m OFFERS) (offer_at m (word m DAYS))
      ∙ sum_ext (word m OFFERS) _ _ (λ j l. ap (λ (x : ℕ). cond (eqb (word m (offer_place j + UNIT)) u) x 0)
      (table_at (periods (word m DAYS)) (amount_at m j) p 0 h))

-- the unit's figures, in memory
module _ (m : List ℕ) (u : ℕ) (h : In 1 (word m UNITS) u) where
  pub figures_at_lem : (p : ℕ) → p < periods (word m DAYS) → figures_of (decode m) u p ≡ figures_at m (u - 1) p
  figures_at_lem p l = ap (λ (x : EnrolledUnit). get_or x.figures p no_figures) (unit_at_lem m u h)
      ∙ table_at (periods (word m DAYS)) (figures_at m (u - 1)) p no_figures l

  marks_at : marks_in (decode m) u ≡ all (periods (word m DAYS)) (mark_holds m (u - 1))
  unfolding marks_in mark_holds
  marks_at =
      ap (λ (x : EnrolledUnit). every (λ (f : Figures). leb f.mark 3) x.figures) (unit_at_lem m u h)
      ∙ every-table (λ (f : Figures). leb f.mark 3) (periods (word m DAYS)) (figures_at m (u - 1))

-- two tests of the same numbers
tests_same : (a b c d x y z w : ℕ) → a ≡ x → b ≡ y → c ≡ z → d ≡ w → (leb a b && leb c d) ≡ (leb x y && leb z w)
tests_same a b c d x y z w e f g h = rw (e, f, g, h)

-- the totals by period hold what is open and the declaration
module _ (m : List ℕ) (u : ℕ) (h : In 1 (word m UNITS) u) (d : Declaration) (up down : ℕ → ℕ)
    (ups : (p : ℕ) → p < periods (word m DAYS) → up p ≡ d.raising p + open_raising (decode m) u p)
    (downs : (p : ℕ) → p < periods (word m DAYS) → down p ≡ d.lowering p + open_lowering (decode m) u p) where
  term_same_lem : (p : ℕ) → p < periods (word m DAYS) → term_part m (u - 1) p (up p)
      ≡ (figures_of (decode m) u p).held + (raising_today (decode m) u p + d.raising p)
  unfolding term_part
  term_same_lem p l =
      let f = figures_at_lem m u h p l in
      let held = ap (λ (x : Figures). x.held) f in
      let raised = ap (λ (x : Figures). x.raised) f in
      let a = ups p l in
      omega arith

  hour_same : (p : ℕ) → p < periods (word m DAYS) → hour_holds m (u - 1) p (up p) (down p) ≡ hour_fits (decode m) u d p
  unfolding hour_holds hour_fits term_part
  hour_same p l =
      let f = figures_at_lem m u h p l in
      let held = ap (λ (x : Figures). x.held) f in
      let lowered = ap (λ (x : Figures). x.lowered) f in
      let b = downs p l in
      let e : word m (figure_place (u - 1) p + LOWERED) + down p ≡ lowering_today (decode m) u p + d.lowering p = omega arith in
      tests_same _ _ _ _ _ _ _ _ (term_same_lem p l) (sym (ap (λ (x : EnrolledUnit). hour_limit x.kind x.capacity (hour_of p)) (unit_at_lem m u h))) e
      (sym held)

  volume_same_lem : (p : ℕ) → p < periods (word m DAYS)
      → volume_part m (u - 1) p (up p) (down p)
      ≡ (figures_of (decode m) u p).volume + (open_raising (decode m) u p + open_lowering (decode m) u p + (d.raising p + d.lowering p))
  unfolding volume_part
  volume_same_lem p l =
      let f = figures_at_lem m u h p l in
      let volume = ap (λ (x : Figures). x.volume) f in
      let a = ups p l in
      let b = downs p l in
      omega arith

  term_at_lem : term_at m (u - 1) ≡ term_of (decode m) u d
  unfolding term_at decode
  term_at_lem = sym (ap (λ (x : EnrolledUnit). term_limit x.kind x.capacity x.asset (word m DAYS)) (unit_at_lem m u h))

  volume_at_lem : volume_at m (u - 1) ≡ volume_limit (unit_of (decode m) u).kind (term_of (decode m) u d)
  unfolding volume_at
  volume_at_lem = ap (volume_limit (word m (unit_place (u - 1)))) term_at_lem
      ∙ sym (ap (λ (x : EnrolledUnit). volume_limit x.kind (term_of (decode m) u d)) (unit_at_lem m u h))

  hours-all : all (periods (word m DAYS)) (λ p. hour_holds m (u - 1) p (up p) (down p))
      ≡ all (periods (decode m).rules.days) (hour_fits (decode m) u d)
  unfolding decode
  hours-all = all_ext (periods (word m DAYS)) _ _ hour_same

  term-all : leb (sum (periods (word m DAYS)) (λ p. term_part m (u - 1) p (up p))) (term_at m (u - 1)) ≡ term_fits (decode m) u d
  unfolding term_fits decode
  term-all = rw (sum_ext (periods (word m DAYS)) _ _ term_same_lem, term_at_lem)

  volume-all : leb (sum (periods (word m DAYS)) (λ p. volume_part m (u - 1) p (up p) (down p))) (volume_at m (u - 1)) ≡ volume_fits (decode m) u d
  unfolding volume_fits decode
  volume-all = rw (sum_ext (periods (word m DAYS)) _ _ volume_same_lem, volume_at_lem)

  fitted : (r : ℕ) → UnitCame m (u - 1) up down r → Fitted (decode m) u d r
  unfolding misfit_of
  fitted r c =
      record {
        clean = λ w. rw (hours-all, term-all, volume-all) at (c.clean (sym (marks_at m u h) ∙ w));
        dirty = λ w. c.dirty (sym (marks_at m u h) ∙ w);
      }

-- a unit that fits with nothing declared, by what is open
pub whole_is : (m : List ℕ) (u : ℕ) → In 1 (word m UNITS) u → (up down : ℕ → ℕ)
    → ((p : ℕ) → p < periods (word m DAYS) → up p ≡ open_raising (decode m) u p)
    → ((p : ℕ) → p < periods (word m DAYS) → down p ≡ open_lowering (decode m) u p)
    → unit_whole (decode m) u ≡ unit_holds m (u - 1) up down
unfolding unit_whole unit_fits unit_holds holds
whole_is m u h up down ups downs =
    let a : (p : ℕ) → p < periods (word m DAYS) → up p ≡ 0 + open_raising (decode m) u p = λ p l. let e = ups p l in omega arith in
    let b : (p : ℕ) → p < periods (word m DAYS) → down p ≡ 0 + open_lowering (decode m) u p = λ p l. let e = downs p l in omega arith in
    sym (rw (marks_at m u h, hours-all m u h nothing up down a b, term-all m u h nothing up down a b, volume-all m u h nothing up down a b) refl)

-- the totals that the passes over offers and orders leave
module _ (m : List ℕ) (u : ℕ) (h : In 1 (word m UNITS) u) (few : word m ORDERS ≤ 256) where
  pub raising_open : (l x y : List ℕ) (g e direction : ℕ) → direction ≡ cond (generator (unit_of (decode m) u).kind) 0 1
      → Added (periods (word m DAYS)) l x (λ p. sum (word m OFFERS) (λ j. offer_share m u j p)) g
      → Added (periods (word m DAYS)) x y (λ p. sum (word m ORDERS) (λ k. order_share m u direction k p)) e
      → (p : ℕ) → p < periods (word m DAYS) → get_or y p 0 ≡ get_or l p 0 + open_raising (decode m) u p
  unfolding open_raising
  raising_open l x y g e direction w a b p i =
      let s = a.each p i in
      let t = b.each p i in
      let v = offers_open m u p i in
      let z = orders_open m u p (raises (unit_of (decode m) u).kind) direction (λ d. raises_by (unit_of (decode m) u).kind d ∙ ap (eqb d) (sym w)) few in
      omega arith

  pub lowering_open : (l x : List ℕ) (g direction : ℕ) → direction ≡ cond (generator (unit_of (decode m) u).kind) 1 0
      → Added (periods (word m DAYS)) l x (λ p. sum (word m ORDERS) (λ k. order_share m u direction k p)) g
      → (p : ℕ) → p < periods (word m DAYS) → get_or x p 0 ≡ get_or l p 0 + open_lowering (decode m) u p
  unfolding open_lowering
  lowering_open l x g direction w a p i =
      let s = a.each p i in
      let z = orders_open m u p (lowers (unit_of (decode m) u).kind) direction (λ d. lowers_by (unit_of (decode m) u).kind d ∙ ap (eqb d) (sym w)) few in
      omega arith

pub direction_other : (g : Bool) (direction : ℕ) → direction ≡ cond g 0 1 → 1 - direction ≡ cond g 1 0
direction_other true direction e = omega arith
direction_other false direction e = omega arith

-- the passes over offers and orders, and then over the periods
pub fitted_all : (m : List ℕ) (u direction : ℕ) (a b : Amounts 744) (x : List ℕ) (g e r : ℕ) → In 1 (word m UNITS) u → Readable m
    → length a.raising ≡ 744
    → direction ≡ cond (generator (unit_of (decode m) u).kind) 0 1
    → Added (length (take (periods (word m DAYS)) a.raising)) (take (periods (word m DAYS)) a.raising) x
    (λ p. sum (word m OFFERS) (λ j. offer_share m u j (0 + p))) g
    → BothAdded 744 (record { raising = x ++ drop (periods (word m DAYS)) a.raising; lowering = a.lowering }) b
    (λ p. sum (word m ORDERS) (λ i. order_share m u direction i p)) (λ p. sum (word m ORDERS) (λ i. order_share m u (1 - direction) i p)) e
    → UnitCame m (u - 1) (λ p. get_or b.raising p 0) (λ p. get_or b.lowering p 0) r → Fitted (decode m) u (declared a.raising a.lowering) r
fitted_all m u direction a b x g e r h d long w o s =
    fitted m u h (declared a.raising a.lowering) (λ p. get_or b.raising p 0) (λ p. get_or b.lowering p 0)
    (raising_open m u h d.orders_to a.raising (x ++ drop (periods (word m DAYS)) a.raising) b.raising g e direction w
    (whole (added_first (periods (word m DAYS)) a.raising x _ g (omega arith) o)) (fewer s.raising))
    (lowering_open m u h d.orders_to a.lowering b.lowering e (1 - direction) (direction_other (generator (unit_of (decode m) u).kind) direction w)
    (fewer s.lowering)) r
  where
    days : word m DAYS ≤ 31
    days = d.days_to

    whole : {l y : List ℕ} {k : ℕ} → Added (periods (word m DAYS)) l y (λ p. sum (word m OFFERS) (λ j. offer_share m u j (0 + p))) k
        → Added (periods (word m DAYS)) l y (λ p. sum (word m OFFERS) (λ j. offer_share m u j p)) k
    whole c =
        record {
          long = c.long;
          each = λ p q. let z : 0 + p ≡ p = omega arith in rw z at (c.each p q);
          grown = c.grown;
        }

    fewer : {l y : List ℕ} {f : ℕ → ℕ} {k : ℕ} → Added 744 l y f k → Added (periods (word m DAYS)) l y f k
    fewer c = record { long = c.long; each = λ p q. c.each p (let z = days in omega arith); grown = c.grown }
