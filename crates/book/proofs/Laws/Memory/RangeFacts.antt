-- The tests of ranges as facts, of a plain book and of one in memory.
use Rattle.std.proofs.Common.{◌≡◌, ℕ, ◌+◌, ◌-◌, ◌*◌, ◌<◌, ◌≤◌, Bool, true, false, not, leb, List, length, get_or, drop, refl}
use Rattle.std.proofs.Common.{sym, ap, ◌∙◌, arith, get_or-drop, get_or-take, ltb-true, lt-ltb, eq-eqb, ne_eqb, le-leb, leb-true}
use Rattle.measures.specs.Ranges.{between, most_energy, most_price}
use Rattle.measures.specs.Lists.{every, all, table}
use Rattle.measures.specs.Sharing.{total}
use Rattle.measures.proofs.RangeLaws.{In, inside, outside, within}
use Rattle.measures.proofs.ListLaws.{
  and_true,
  and_left,
  and_right,
  and_left-false,
  and_right_false,
  table-length,
  table_at,
  false_by,
  all_true,
  holds-all,
  every-table,
  not_both,
}
use Rattle.std.proofs.Common.{Result, Ok, Err}
use Rattle.std.specs.Result.{MatchResult}
use Rattle.measures.specs.declared.refusals.Refusal.{Refusal}
use Rattle.limits.specs.declared.Kind.{Kind}
use Rattle.limits.specs.Kinds.{kind_number, KindOf}
use Rattle.limits.specs.Units.{most_days, most_capacity, periods, generator}
use Rattle.matching.specs.Memory.{order_at, orders_in}
use Rattle.matching.proofs.Laws.Orders.OrderLaws.{orders_length}
use Rattle.book.specs.Book.{EnrolledUnit, Book, no_unit, unit_of, known, OpenOffer, no_offer}
use Rattle.book.specs.Sound.{head_in, bilateral_sides, offer_in, order_in}
use Rattle.book.specs.Layout.{
  DAYS,
  FLOOR,
  CEILING,
  PHASE,
  GIVEN,
  UNITS,
  OFFERS,
  ORDERS,
  unit_place,
  CAPACITY,
  ASSET,
  offer_place,
  orders_start,
  orders_words,
  order_place,
  UNIT,
  PARTNER,
  TAKEN,
  DIRECTION,
  PERIOD,
  PRICE,
  QUANTITY,
  book_words,
  word,
  unit_at,
  amount_at,
  offer_at,
  orders_part,
  decode,
}
use Rattle.book.specs.Inner.Readable.{Readable, unit_fields_in, sides_in}

-- how many units, offers and orders a memory holds
pub units_held : (m : List ℕ) → length (decode m).units ≡ word m UNITS
unfolding decode
units_held m = table-length _ _

pub offers_held : (m : List ℕ) → length (decode m).offers ≡ word m OFFERS
unfolding decode
offers_held m = table-length _ _

-- a test of whether a unit is known, as a fact of the memory
pub unit_test : (m : List ℕ) (u : ℕ) {r : Bool} → r ≡ known (decode m) u → r ≡ between 1 (word m UNITS) u
unit_test m u e = rw (units_held m) at e

pub orders_held : (m : List ℕ) → length (decode m).orders ≡ word m ORDERS
unfolding decode
orders_held m = orders_length (orders_part m) (word m ORDERS)

-- its days, its phase and the numbers given
pub days_held : (m : List ℕ) → (decode m).rules.days ≡ word m DAYS
unfolding decode
days_held m = refl

pub floor_held : (m : List ℕ) → (decode m).rules.floor ≡ word m FLOOR
unfolding decode
floor_held m = refl

pub ceiling_held : (m : List ℕ) → (decode m).rules.ceiling ≡ word m CEILING
unfolding decode
ceiling_held m = refl

pub phase_held : (m : List ℕ) → (decode m).phase ≡ word m PHASE
unfolding decode
phase_held m = refl

pub given_held : (m : List ℕ) → (decode m).given ≡ word m GIVEN
unfolding decode
given_held m = refl

-- the head of a book in memory
pub record Head (m : List ℕ) : Type 0 where
  pub days : In 1 most_days (word m DAYS)
  pub prices : word m FLOOR ≤ word m CEILING
  pub ceiling : word m CEILING ≤ most_price
  pub phase : word m PHASE ≤ 1
  pub given : word m GIVEN ≤ 65_535
  pub units : word m UNITS ≤ 64
  pub offers : word m OFFERS ≤ 8
  pub orders : word m ORDERS ≤ 256

pub head_facts : (m : List ℕ) → head_in (decode m) ≡ true → Head m
unfolding head_in decode
head_facts m e =
    let t = all_true _ e in
    record {
      days = within 1 most_days (word m DAYS) t.0;
      prices = leb-true _ _ (and_left (leb (word m FLOOR) (word m CEILING)) (leb (word m CEILING) most_price) t.1.0);
      ceiling = leb-true _ _ (and_right (leb (word m FLOOR) (word m CEILING)) (leb (word m CEILING) most_price) t.1.0);
      phase = leb-true _ _ t.1.1.0;
      given = leb-true _ _ t.1.1.1.0;
      units = rw (units_held m) at (leb-true (length (decode m).units) 64 t.1.1.1.1.0);
      offers = rw (offers_held m) at (leb-true (length (decode m).offers) 8 t.1.1.1.1.1.0);
      orders = rw (orders_held m) at (leb-true (length (decode m).orders) 256 t.1.1.1.1.1.1.0);
    }

pub head_holds : (m : List ℕ) → Head m → head_in (decode m) ≡ true
unfolding head_in decode
head_holds m h =
    holds-all _ (
      inside 1 most_days (word m DAYS) h.days,
      (
        and_true _ _ (le-leb _ _ h.prices) (le-leb _ _ h.ceiling),
        (
          le-leb _ _ h.phase,
          (
            le-leb _ _ h.given,
            (
              rw (units_held m) (le-leb _ _ h.units),
              (
                rw (offers_held m) (le-leb _ _ h.offers),
                (rw (orders_held m) (le-leb _ _ h.orders), tt),
              ),
            ),
          ),
        ),
      ),
    )

pub head_fails : (m : List ℕ) → (Head m → ⊥) → false ≡ head_in (decode m)
head_fails m n = sym (false_by _ (λ e. n (head_facts m e)))

-- a memory that is long enough and whose head is in range can be read
pub readable : (m : List ℕ) → Head m → book_words (word m DAYS) ≤ length m → Readable m
readable m h l =
    record { days_from = h.days.0; days_to = h.days.1; units_to = h.units; offers_to = h.offers; orders_to = h.orders; long = l }

-- the fields of a unit in memory
pub record UnitFields (m : List ℕ) (k : ℕ) : Type 0 where
  pub kind : In 1 4 (word m (unit_place k))
  pub capacity : In 1 most_capacity (word m (unit_place k + CAPACITY))
  pub asset : word m (unit_place k + ASSET) ≤ most_energy

pub unit_facts : (m : List ℕ) (k : ℕ) → unit_fields_in m k ≡ true → UnitFields m k
unfolding unit_fields_in
unit_facts m k e =
    let t = all_true _ e in
    record {
      kind = within 1 4 (word m (unit_place k)) t.0;
      capacity = within 1 most_capacity (word m (unit_place k + CAPACITY)) t.1.0;
      asset = leb-true _ _ t.1.1.0;
    }

pub unit_holds_lem : (m : List ℕ) (k : ℕ) → UnitFields m k → unit_fields_in m k ≡ true
unfolding unit_fields_in
unit_holds_lem m k u = holds-all _ (inside 1 4 _ u.kind, (inside 1 most_capacity _ u.capacity, (le-leb _ _ u.asset, tt)))

pub unit_fails : (m : List ℕ) (k : ℕ) → (UnitFields m k → ⊥) → false ≡ unit_fields_in m k
unit_fails m k n = sym (false_by _ (λ e. n (unit_facts m k e)))

-- the unit of a number, in memory
pub unit_at_lem : (m : List ℕ) (u : ℕ) → In 1 (word m UNITS) u → unit_of (decode m) u ≡ unit_at m (word m DAYS) (u - 1)
unfolding decode
unit_at_lem m u h = table_at (word m UNITS) (unit_at m (word m DAYS)) (u - 1) no_unit (omega arith)

-- the offer at a place, and its number
pub offer_at_lem : (m : List ℕ) (j : ℕ) → j < word m OFFERS → get_or (decode m).offers j no_offer ≡ offer_at m (word m DAYS) j
unfolding decode
offer_at_lem m j h = table_at (word m OFFERS) (offer_at m (word m DAYS)) j no_offer h

pub offer_number : (m : List ℕ) (j : ℕ) → j < word m OFFERS → (get_or (decode m).offers j no_offer).number ≡ word m (offer_place j)
offer_number m j h = ap (λ (o : OpenOffer). o.number) (offer_at_lem m j h)

-- what is answered of the kind of a number, and false where it has none, is answered of the number
pub kind_answers : (n : ℕ) (r : Result Kind Refusal) (b : Bool) → KindOf n r
    → MatchResult r (λ k. b ≡ generator (kind_number k)) (λ e. b ≡ false) → b ≡ generator n
kind_answers n (Ok k) b e h = h ∙ ap generator e
kind_answers n (Err f) b e h = h ∙ sym (outside 1 2 n (λ i. not_both _ (inside 1 4 n (i.0, omega (arith, i.1))) e.1))

pub kind_at : (m : List ℕ) (u : ℕ) → In 1 (word m UNITS) u → (unit_of (decode m) u).kind ≡ word m (unit_place (u - 1))
kind_at m u h = ap (λ (x : EnrolledUnit). x.kind) (unit_at_lem m u h)

-- a partner, by cases
pub sides_alone : (b : Book) (u v : ℕ) → v ≡ 0 → true ≡ sides_in b u v
unfolding sides_in
sides_alone b u v e = rw (eq-eqb v 0 e)

pub sides_unknown : (m : List ℕ) (u v : ℕ) → (v ≡ 0 → ⊥) → word m UNITS < v → false ≡ sides_in (decode m) u v
unfolding sides_in
sides_unknown m u v n l = rw (ne_eqb v 0 n, units_held m) (rw (outside 1 (word m UNITS) v (omega arith)))

pub sides_known : (m : List ℕ) (u v : ℕ) → (v ≡ 0 → ⊥) → v ≤ word m UNITS → bilateral_sides (decode m) u v ≡ sides_in (decode m) u v
unfolding sides_in
sides_known m u v n l = rw (ne_eqb v 0 n, units_held m) (rw (inside 1 (word m UNITS) v (omega arith)))

module _ (m : List ℕ) (u v : ℕ) (n : v ≡ 0 → ⊥) (l : v ≤ word m UNITS) where
  pub sides_no-generator : generator (unit_of (decode m) u).kind ≡ false → false ≡ sides_in (decode m) u v
  sides_no-generator e = sym (and_left-false (generator (unit_of (decode m) u).kind) (not (generator (unit_of (decode m) v).kind)) e)
      ∙ sides_known m u v n l

  pub sides_no_load : generator (unit_of (decode m) v).kind ≡ true → false ≡ sides_in (decode m) u v
  sides_no_load e = sym (and_right_false (generator (unit_of (decode m) u).kind) (not (generator (unit_of (decode m) v).kind)) (rw e refl))
      ∙ sides_known m u v n l

  pub sides_right : generator (unit_of (decode m) u).kind ≡ true → generator (unit_of (decode m) v).kind ≡ false → true ≡ sides_in (decode m) u v
  sides_right e f = sym (and_true (generator (unit_of (decode m) u).kind) (not (generator (unit_of (decode m) v).kind)) e (rw f refl))
      ∙ sides_known m u v n l

-- the order at a place of the orders' part, word by word
pub order_word : (m : List ℕ) (i : ℕ) → i < orders_words → get_or (orders_part m) i 0 ≡ word m (orders_start + i)
order_word m i h = get_or-take orders_words (drop orders_start m) i 0 h ∙ get_or-drop orders_start m i 0

-- an open offer in memory
pub record OfferWords (m : List ℕ) (j : ℕ) : Type 0 where
  pub number : In 1 (word m GIVEN) (word m (offer_place j))
  pub unit : In 1 (word m UNITS) (word m (offer_place j + UNIT))
  pub price : In (word m FLOOR) (word m CEILING) (word m (offer_place j + PRICE))
  pub taken : word m (offer_place j + TAKEN) ≤ 1
  pub whole : In 1 most_energy (total (table (periods (word m DAYS)) (amount_at m j)))
  pub sides : sides_in (decode m) (word m (offer_place j + UNIT)) (word m (offer_place j + PARTNER)) ≡ true

pub offer_facts : (m : List ℕ) (j : ℕ) → offer_in (decode m) (offer_at m (word m DAYS) j) ≡ true → OfferWords m j
unfolding offer_in decode sides_in
offer_facts m j e =
    let t = all_true _ e in
    record {
      number = within 1 (word m GIVEN) _ t.0;
      unit = within 1 (word m UNITS) _ (rw (units_held m) at t.1.0);
      price = within (word m FLOOR) (word m CEILING) _ t.1.1.1.0;
      taken = leb-true _ _ t.1.1.1.1.0;
      whole = within 1 most_energy _ t.1.1.1.1.1.1.0;
      sides = t.1.1.0;
    }

pub offer_holds : (m : List ℕ) (j : ℕ) → OfferWords m j → offer_in (decode m) (offer_at m (word m DAYS) j) ≡ true
unfolding offer_in decode sides_in
offer_holds m j w =
    holds-all _ (
      inside 1 (word m GIVEN) _ w.number,
      (
        rw (units_held m) (inside 1 (word m UNITS) _ w.unit),
        (
          w.sides,
          (
            inside (word m FLOOR) (word m CEILING) _ w.price,
            (
              le-leb _ _ w.taken,
              (
                eq-eqb _ _ (table-length _ _),
                (inside 1 most_energy _ w.whole, tt),
              ),
            ),
          ),
        ),
      ),
    )

pub offer_fails : (m : List ℕ) (j : ℕ) → (OfferWords m j → ⊥) → false ≡ offer_in (decode m) (offer_at m (word m DAYS) j)
offer_fails m j n = sym (false_by _ (λ e. n (offer_facts m j e)))

-- the sides decide where all else is in range
pub offer_by_sides : (m : List ℕ) (j : ℕ) → In 1 (word m GIVEN) (word m (offer_place j)) → In 1 (word m UNITS) (word m (offer_place j + UNIT))
    → In (word m FLOOR) (word m CEILING) (word m (offer_place j + PRICE))
    → word m (offer_place j + TAKEN) ≤ 1 → In 1 most_energy (total (table (periods (word m DAYS)) (amount_at m j)))
    → sides_in (decode m) (word m (offer_place j + UNIT)) (word m (offer_place j + PARTNER)) ≡ offer_in (decode m) (offer_at m (word m DAYS) j)
offer_by_sides m j n u p t w = go (sides_in (decode m) (word m (offer_place j + UNIT)) (word m (offer_place j + PARTNER))) refl
  where
    go : (s : Bool) → sides_in (decode m) (word m (offer_place j + UNIT)) (word m (offer_place j + PARTNER)) ≡ s
        → sides_in (decode m) (word m (offer_place j + UNIT)) (word m (offer_place j + PARTNER)) ≡ offer_in (decode m) (offer_at m (word m DAYS) j)
    go true e = e ∙ sym (offer_holds m j (record { number = n; unit = u; price = p; taken = t; whole = w; sides = e }))
    go false e = e ∙ offer_fails m j (λ f. not_both _ f.sides e)

-- an open order in memory
pub record OrderWords (m : List ℕ) (k : ℕ) : Type 0 where
  pub number : In 1 (word m GIVEN) (word m (order_place k))
  pub unit : In 1 (word m UNITS) (word m (order_place k + UNIT))
  pub direction : word m (order_place k + DIRECTION) ≤ 1
  pub period : word m (order_place k + PERIOD) < 24 * word m DAYS
  pub price : In (word m FLOOR) (word m CEILING) (word m (order_place k + PRICE))
  pub quantity : In 1 most_energy (word m (order_place k + QUANTITY))

module _ (m : List ℕ) (k : ℕ) (h : k < 256) where
  pub order_word_at : (i : ℕ) → i < 6 → get_or (orders_part m) (6 * k + i) 0 ≡ word m (order_place k + i)
  order_word_at i l = order_word m (6 * k + i) (omega arith) ∙ ap (word m) (omega arith)

  at0 : get_or (orders_part m) (6 * k) 0 ≡ word m (order_place k)
  at0 = order_word m (6 * k) (omega arith)

  pub order_facts : order_in (decode m) (order_at (orders_part m) k) ≡ true → OrderWords m k
  unfolding order_in decode
  order_facts e =
      let t = all_true _ e in
      record {
        number = within 1 (word m GIVEN) _ (rw at0 at t.0);
        unit = within 1 (word m UNITS) _ (rw (units_held m, order_word_at UNIT (omega arith)) at t.1.0);
        direction = leb-true _ _ (rw (order_word_at DIRECTION (omega arith)) at t.1.1.0);
        period = ltb-true _ _ (rw (order_word_at PERIOD (omega arith)) at t.1.1.1.0);
        price = within (word m FLOOR) (word m CEILING) _ (rw (order_word_at PRICE (omega arith)) at t.1.1.1.1.0);
        quantity = within 1 most_energy _ (rw (order_word_at QUANTITY (omega arith)) at t.1.1.1.1.1.0);
      }

  pub order_holds : OrderWords m k → order_in (decode m) (order_at (orders_part m) k) ≡ true
  unfolding order_in decode
  order_holds w =
      holds-all _ (
        rw at0 (inside 1 (word m GIVEN) _ w.number),
        (
          rw (units_held m, order_word_at UNIT (omega arith)) (inside 1 (word m UNITS) _ w.unit),
          (
            rw (order_word_at DIRECTION (omega arith)) (le-leb _ _ w.direction),
            (
              rw (order_word_at PERIOD (omega arith)) (lt-ltb _ _ w.period),
              (
                rw (order_word_at PRICE (omega arith)) (inside (word m FLOOR) (word m CEILING) _ w.price),
                (rw (order_word_at QUANTITY (omega arith)) (inside 1 most_energy _ w.quantity), tt),
              ),
            ),
          ),
        ),
      )

  pub order_fails : (OrderWords m k → ⊥) → false ≡ order_in (decode m) (order_at (orders_part m) k)
  order_fails n = sym (false_by _ (λ e. n (order_facts e)))

-- a test of each open offer and order, by places
pub offers_every : (m : List ℕ) → every (offer_in (decode m)) (decode m).offers ≡ all (word m OFFERS) (λ j. offer_in (decode m) (offer_at m (word m DAYS) j))
unfolding decode
offers_every m = every-table (offer_in (decode m)) (word m OFFERS) (offer_at m (word m DAYS))

pub orders_every : (m : List ℕ) → every (order_in (decode m)) (decode m).orders ≡ all (word m ORDERS) (λ k. order_in (decode m) (order_at (orders_part m) k))
unfolding decode orders_in
orders_every m = every-table (order_in (decode m)) (word m ORDERS) (order_at (orders_part m))

-- for checks to cite: what stands in memory stands in the book that it decodes to
pub ruleset held = (units_held, offers_held, orders_held, days_held, floor_held, ceiling_held, phase_held, given_held)
