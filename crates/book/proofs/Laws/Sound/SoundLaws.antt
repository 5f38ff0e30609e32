-- A sound book taken apart and put together (specs/Sound.antt).
use Rattle.std.proofs.Common.{◌≡◌, ℕ, ◌+◌, ◌-◌, ◌<◌, ◌≤◌, Bool, true, false, not, ◌&&◌, ◌||◌, eqb, leb, List, map, length}
use Rattle.std.proofs.Common.{ap, arith, ltb-true, lt-ltb, eq-eqb, ne_eqb, eqb-true, le-leb, leb-true}
use native.Mathlib.Decide.{ℕ_discrete}
use borrow.Author.Tests.{not-true}
use Rattle.measures.specs.Ranges.{most_energy, most_price}
use Rattle.measures.specs.Lists.{every, Each, all}
use Rattle.measures.specs.Sharing.{total}
use Rattle.measures.proofs.RangeLaws.{In, inside, within}
use Rattle.measures.proofs.ListLaws.{and_true, and_left, and_right, or_left, or_right, or_other, not_fails, all_true, holds-all, all_at, all_by}
use Rattle.limits.specs.Units.{most_days, most_capacity, periods, generator}
use Rattle.matching.specs.Orders.{Order as OpenOrder, rising, numbers}
use Rattle.book.specs.Book.{Figures, EnrolledUnit, OpenOffer, Book, rolling_phase, most_units, most_offers, most_orders, most_numbers, known, unit_of}
use Rattle.book.specs.Fit.{nothing, unit_fits}
use Rattle.book.specs.Sound.{head_in, unit_in, bilateral_sides, offer_sides, offer_in, order_in, numbers_differ, one_direction, apart, each_two, sound}
use Rattle.matching.proofs.Laws.Lists.RemainLaws.{each_of, each_holds}
use Rattle.book.proofs.Laws.Sound.FitLaws.{Fits, unit_fits_lem, fits_unit}

-- the ranges of the book's own figures, with n orders at most
pub record HeadUpTo (n : ℕ) (b : Book) : Type 0 where
  pub days : In 1 most_days b.rules.days
  pub prices : b.rules.floor ≤ b.rules.ceiling
  pub ceiling : b.rules.ceiling ≤ most_price
  pub phase : b.phase ≤ rolling_phase
  pub given : b.given ≤ most_numbers
  pub units : length b.units ≤ most_units
  pub offers : length b.offers ≤ most_offers
  pub orders : length b.orders ≤ n

abbrev pub HeadRanges : Book → Type 0
HeadRanges b = HeadUpTo most_orders b

pub head_ranges : (b : Book) → head_in b ≡ true → HeadRanges b
unfolding head_in
head_ranges b e =
    let t = all_true _ e in
    let x = leb b.rules.floor b.rules.ceiling in
    let y = leb b.rules.ceiling most_price in
    record {
      days = within 1 most_days b.rules.days t.0;
      prices = leb-true _ _ (and_left x y t.1.0);
      ceiling = leb-true _ _ (and_right x y t.1.0);
      phase = leb-true _ _ t.1.1.0;
      given = leb-true _ _ t.1.1.1.0;
      units = leb-true _ _ t.1.1.1.1.0;
      offers = leb-true _ _ t.1.1.1.1.1.0;
      orders = leb-true _ _ t.1.1.1.1.1.1.0;
    }

pub head_in_lem : (b : Book) → HeadRanges b → head_in b ≡ true
unfolding head_in
head_in_lem b h =
    holds-all _ (
      inside 1 most_days b.rules.days h.days,
      (
        and_true (leb b.rules.floor b.rules.ceiling) (leb b.rules.ceiling most_price) (le-leb _ _ h.prices) (le-leb _ _ h.ceiling),
        (le-leb _ _ h.phase, (le-leb _ _ h.given, (le-leb _ _ h.units, (le-leb _ _ h.offers, (le-leb _ _ h.orders, tt))))),
      ),
    )

-- the ranges of a unit's figures
pub record UnitRanges (days : ℕ) (u : EnrolledUnit) : Type 0 where
  pub kind : In 1 4 u.kind
  pub capacity : In 1 most_capacity u.capacity
  pub asset : u.asset ≤ most_energy
  pub figures : length u.figures ≡ periods days
  pub marks : Each (λ (f : Figures). f.mark ≤ 3) u.figures

pub unit_ranges : (days : ℕ) (u : EnrolledUnit) → unit_in days u ≡ true → UnitRanges days u
unfolding unit_in
unit_ranges days u e =
    let t = all_true _ e in
    record {
      kind = within 1 4 u.kind t.0;
      capacity = within 1 most_capacity u.capacity t.1.0;
      asset = leb-true _ _ t.1.1.0;
      figures = eqb-true _ _ t.1.1.1.0;
      marks = each_of (λ (f : Figures). leb f.mark 3) (λ (f : Figures). f.mark ≤ 3) (λ f h. leb-true _ _ h) u.figures t.1.1.1.1.0;
    }

pub unit_in_lem : (days : ℕ) (u : EnrolledUnit) → UnitRanges days u → unit_in days u ≡ true
unfolding unit_in
unit_in_lem days u r =
    holds-all _ (
      inside 1 4 u.kind r.kind,
      (
        inside 1 most_capacity u.capacity r.capacity,
        (
          le-leb _ _ r.asset,
          (
            eq-eqb _ _ r.figures,
            (each_holds (λ (f : Figures). leb f.mark 3) (λ (f : Figures). f.mark ≤ 3) (λ f h. le-leb _ _ h) u.figures r.marks, tt),
          ),
        ),
      ),
    )

-- the sides of a bilateral offer
pub record Sides (b : Book) (o : OpenOffer) : Type 0 where
  pub partner : In 1 (length b.units) o.partner
  pub sells : generator (unit_of b o.unit).kind ≡ true
  pub buys : generator (unit_of b o.partner).kind ≡ false

-- the ranges of an offer
pub record OfferRanges (b : Book) (o : OpenOffer) : Type 0 where
  pub number : In 1 b.given o.number
  pub unit : In 1 (length b.units) o.unit
  pub sides : (o.partner ≡ 0 → ⊥) → Sides b o
  pub price : In b.rules.floor b.rules.ceiling o.price
  pub taken : o.taken ≤ 1
  pub amounts : length o.amounts ≡ periods b.rules.days
  pub energy : In 1 most_energy (total o.amounts)

module _ (b : Book) (o : OpenOffer) where
  offer_sides_lem : offer_sides b o ≡ true → (o.partner ≡ 0 → ⊥) → Sides b o
  offer_sides_lem e n =
      let k = known b o.partner in
      let g = generator (unit_of b o.unit).kind in
      let h = not (generator (unit_of b o.partner).kind) in
      let t = or_other (eqb o.partner 0) (k && (g && h)) e (ne_eqb _ _ n) in
      let s = and_right k (g && h) t in
      record { partner = within _ _ _ (and_left k (g && h) t); sells = and_left g h s; buys = not-true _ (and_right g h s) }

  sides_in_lem : ((o.partner ≡ 0 → ⊥) → Sides b o) → offer_sides b o ≡ true
  sides_in_lem h = go (ℕ_discrete o.partner 0)
    where
      go : Dec (o.partner ≡ 0) → offer_sides b o ≡ true
      go (yes e) = or_left (eqb o.partner 0) (known b o.partner && bilateral_sides b o.unit o.partner) (eq-eqb _ _ e)
      go (no n) =
          let t = h n in
          or_right (eqb o.partner 0) (known b o.partner && bilateral_sides b o.unit o.partner)
          (and_true (known b o.partner) (bilateral_sides b o.unit o.partner) (inside 1 (length b.units) o.partner t.partner)
          (and_true (generator (unit_of b o.unit).kind) (not (generator (unit_of b o.partner).kind)) t.sells (not_fails _ t.buys)))

  pub offer_ranges : offer_in b o ≡ true → OfferRanges b o
  unfolding offer_in
  offer_ranges e =
      let t = all_true _ e in
      record {
        number = within 1 b.given o.number t.0;
        unit = within 1 (length b.units) o.unit t.1.0;
        sides = offer_sides_lem t.1.1.0;
        price = within b.rules.floor b.rules.ceiling o.price t.1.1.1.0;
        taken = leb-true _ _ t.1.1.1.1.0;
        amounts = eqb-true _ _ t.1.1.1.1.1.0;
        energy = within 1 most_energy (total o.amounts) t.1.1.1.1.1.1.0;
      }

  pub offer_in_lem : OfferRanges b o → offer_in b o ≡ true
  unfolding offer_in
  offer_in_lem r =
      holds-all _ (
        inside 1 b.given o.number r.number,
        (
          inside 1 (length b.units) o.unit r.unit,
          (
            sides_in_lem r.sides,
            (
              inside b.rules.floor b.rules.ceiling o.price r.price,
              (
                le-leb _ _ r.taken,
                (
                  eq-eqb _ _ r.amounts,
                  (inside 1 most_energy (total o.amounts) r.energy, tt),
                ),
              ),
            ),
          ),
        ),
      )

-- the ranges of an order
pub record OrderRanges (b : Book) (o : OpenOrder) : Type 0 where
  pub number : In 1 b.given o.number
  pub unit : In 1 (length b.units) o.unit
  pub direction : o.direction ≤ 1
  pub period : o.period < periods b.rules.days
  pub price : In b.rules.floor b.rules.ceiling o.price
  pub energy : In 1 most_energy o.quantity

module _ (b : Book) (o : OpenOrder) where
  pub order_ranges : order_in b o ≡ true → OrderRanges b o
  unfolding order_in
  order_ranges e =
      let t = all_true _ e in
      record {
        number = within 1 b.given o.number t.0;
        unit = within 1 (length b.units) o.unit t.1.0;
        direction = leb-true _ _ t.1.1.0;
        period = ltb-true _ _ t.1.1.1.0;
        price = within b.rules.floor b.rules.ceiling o.price t.1.1.1.1.0;
        energy = within 1 most_energy o.quantity t.1.1.1.1.1.0;
      }

  pub order_in_lem : OrderRanges b o → order_in b o ≡ true
  unfolding order_in
  order_in_lem r =
      holds-all _ (
        inside 1 b.given o.number r.number,
        (
          inside 1 (length b.units) o.unit r.unit,
          (
            le-leb _ _ r.direction,
            (
              lt-ltb _ _ r.period,
              (
                inside b.rules.floor b.rules.ceiling o.price r.price,
                (inside 1 most_energy o.quantity r.energy, tt),
              ),
            ),
          ),
        ),
      )

-- whether an order has another number, and whether no offer has the number of an order
abbrev pub other_number : ℕ → OpenOrder → Bool
other_number n o = not (eqb n o.number)

abbrev pub numbers_apart : List OpenOffer → List OpenOrder → Bool
numbers_apart fs os = every (λ (f : OpenOffer). every (other_number f.number) os) fs

-- all that a sound book is, but for the limits, with n orders at most
pub record FormedUpTo (n : ℕ) (b : Book) : Type 0 where
  pub head : HeadUpTo n b
  pub units : Each (UnitRanges b.rules.days) b.units
  pub offers : Each (OfferRanges b) b.offers
  pub orders : Each (OrderRanges b) b.orders
  pub offers_rise : rising (map (λ (o : OpenOffer). o.number) b.offers) ≡ true
  pub orders_rise : rising (numbers b.orders) ≡ true
  pub differ : numbers_apart b.offers b.orders ≡ true
  pub one_direction : each_two one_direction b.orders ≡ true
  pub apart : b.phase ≡ rolling_phase → each_two apart b.orders ≡ true

abbrev pub Formed : Book → Type 0
Formed b = FormedUpTo most_orders b

-- a sound book, with n orders at most
pub record SoundUpTo (n : ℕ) (b : Book) : Type 0 where
  pub formed : FormedUpTo n b
  pub fits : (u : ℕ) → In 1 (length b.units) u → Fits b u nothing

abbrev pub Sound : Book → Type 0
Sound b = SoundUpTo most_orders b

module _ (b : Book) where
  all_fit : all (length b.units) (λ k. unit_fits b (k + 1)) ≡ true → (u : ℕ) → In 1 (length b.units) u → Fits b u nothing
  all_fit e u i =
      let q : u - 1 + 1 ≡ u = omega arith in
      unit_fits_lem b u (rw q at (all_at (length b.units) (λ k. unit_fits b (k + 1)) (u - 1) e (omega arith)))

  rolling_apart : (b.phase ≡ rolling_phase → each_two apart b.orders ≡ true) → (not (eqb b.phase rolling_phase) || each_two apart b.orders) ≡ true
  rolling_apart h = go (ℕ_discrete b.phase rolling_phase)
    where
      go : Dec (b.phase ≡ rolling_phase) → (not (eqb b.phase rolling_phase) || each_two apart b.orders) ≡ true
      go (yes e) = or_right (not (eqb b.phase rolling_phase)) (each_two apart b.orders) (h e)
      go (no n) = or_left (not (eqb b.phase rolling_phase)) (each_two apart b.orders) (not_fails (eqb b.phase rolling_phase) (ne_eqb _ _ n))

  pub sound_facts : sound b ≡ true → Sound b
  unfolding sound numbers_differ
  sound_facts e =
      let t = all_true _ e in
      let n = all_true _ t.1.1.1.1.0 in
      record {
        formed = record {
          head = head_ranges b t.0;
          units = each_of (unit_in b.rules.days) (UnitRanges b.rules.days) (unit_ranges b.rules.days) b.units t.1.0;
          offers = each_of (offer_in b) (OfferRanges b) (offer_ranges b) b.offers t.1.1.0;
          orders = each_of (order_in b) (OrderRanges b) (order_ranges b) b.orders t.1.1.1.0;
          offers_rise = n.0;
          orders_rise = n.1.0;
          differ = n.1.1.0;
          one_direction = t.1.1.1.1.1.0;
          apart = λ r. or_other (not (eqb b.phase rolling_phase)) (each_two apart b.orders) t.1.1.1.1.1.1.0 (ap not (eq-eqb _ _ r));
        };
        fits = all_fit t.1.1.1.1.1.1.1.0;
      }

  pub sound-holds : Sound b → sound b ≡ true
  unfolding sound numbers_differ
  sound-holds s =
      let f = s.formed in
      holds-all _ (
        head_in_lem b f.head,
        (
          each_holds (unit_in b.rules.days) (UnitRanges b.rules.days) (unit_in_lem b.rules.days) b.units f.units,
          (
            each_holds (offer_in b) (OfferRanges b) (offer_in_lem b) b.offers f.offers,
            (
              each_holds (order_in b) (OrderRanges b) (order_in_lem b) b.orders f.orders,
              (
                holds-all _ (f.offers_rise, (f.orders_rise, (f.differ, tt))),
                (
                  f.one_direction,
                  (
                    rolling_apart f.apart,
                    (all_by (length b.units) (λ k. unit_fits b (k + 1)) (λ k h. fits_unit b (k + 1) (s.fits (k + 1) (omega arith))), tt),
                  ),
                ),
              ),
            ),
          ),
        ),
      )
