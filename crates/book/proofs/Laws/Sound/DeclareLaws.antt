-- A book with one offer or one order more.
use Rattle.std.proofs.Common.{◌≡◌, ℕ, ◌<◌, ◌≤◌, Bool, true, not, eqb, List, [], ◌∷◌, ◌++◌, length, refl, arith, length-append, eq-eqb, ne_eqb}
use native.Mathlib.Decide.{ℕ_discrete}
use Rattle.measures.specs.Lists.{every, Each}
use Rattle.measures.proofs.ListLaws.{and_true, not_fails}
use Rattle.matching.specs.Orders.{Order as OpenOrder}
use Rattle.matching.proofs.Laws.Orders.LeftLaws.{same_order}
use Rattle.book.specs.Book.{OpenOffer, Book, rolling_phase, most_offers, most_numbers, unit_of, with_offers, with_orders, next_number, numbered}
use Rattle.book.specs.Trades.{raises, lowers}
use Rattle.book.specs.Fit.{open_raising, open_lowering, Declaration}
use Rattle.book.specs.Sound.{one_direction, apart, each_two}
use Rattle.matching.proofs.Laws.Lists.EachLaws.{each_append}
use Rattle.matching.proofs.Laws.Lists.RemainLaws.{each_holds, each_imp, every_append, every_both, rising_append}
use Rattle.book.proofs.Laws.Sound.SoundLaws.{HeadUpTo, HeadRanges, OfferRanges, OrderRanges, other_number, FormedUpTo, Formed}
use Rattle.book.proofs.Laws.Sound.FitLaws.{Moved}
use Rattle.book.proofs.Laws.Sound.OpenLaws.{offer_opens, order_opens, offers_more, orders_more}
use Rattle.book.proofs.Laws.Sound.FormedLaws.{same_offer, Names, offer_after, order_after}

-- the book with an offer or an order more, under the next number
abbrev pub with_offer : Book → OpenOffer → Book
with_offer b o = numbered (with_offers b (b.offers ++ (o ∷ [])))

abbrev pub with_order : Book → OpenOrder → Book
with_order b o = numbered (with_orders b (b.orders ++ (o ∷ [])))

-- a new number is not that of an order or an offer
new_offer_differs : (b : Book) (n : ℕ) → n ≡ next_number b → Each (OrderRanges b) b.orders → every (other_number n) b.orders ≡ true
new_offer_differs b n e h =
    each_holds (other_number n) (OrderRanges b)
    (λ o r. let i = r.number in not_fails (eqb n o.number) (ne_eqb n o.number (omega arith))) b.orders h

new_order_differs : (b : Book) (n : ℕ) → n ≡ next_number b → Each (OfferRanges b) b.offers
    → every (λ (f : OpenOffer). not (eqb f.number n)) b.offers ≡ true
new_order_differs b n e h =
    each_holds (λ (f : OpenOffer). not (eqb f.number n)) (OfferRanges b)
    (λ f r. let i = r.number in not_fails (eqb f.number n) (ne_eqb f.number n (omega arith))) b.offers h

pub formed_offer : (b : Book) (o : OpenOffer) → Formed b → OfferRanges (with_offer b o) o → o.number ≡ next_number b → length b.offers < most_offers
    → b.given < most_numbers → Formed (with_offer b o)
formed_offer b o f r e few left =
    record {
      head = head;
      units = f.units;
      offers =
          each_append (OfferRanges (with_offer b o)) b.offers (o ∷ [])
          (each_imp (OfferRanges b) (OfferRanges (with_offer b o)) (λ x t. offer_after b (with_offer b o) names x x (same_offer x) t) b.offers f.offers)
          (r, tt);
      orders = each_imp (OrderRanges b) (OrderRanges (with_offer b o)) (λ x t. order_after b (with_offer b o) names x x (same_order x) t) b.orders
          f.orders;
      offers_rise =
          rising_append (λ (x : OpenOffer). x.number) b.offers o f.offers_rise
          (each_imp (OfferRanges b) (λ (x : OpenOffer). x.number < o.number) (λ x t. let i = t.number in omega arith) b.offers f.offers);
      orders_rise = f.orders_rise;
      differ =
          every_append (λ (x : OpenOffer). every (other_number x.number) b.orders) b.offers (o ∷ []) f.differ
          (and_true (every (other_number o.number) b.orders) true (new_offer_differs b o.number e f.orders) refl);
      one_direction = f.one_direction;
      apart = f.apart;
    }
  where
    names : Names b (with_offer b o)
    names = record { days = refl; floor = refl; ceiling = refl; given = omega arith; count = omega arith; kinds = λ u i. refl }

    head : HeadRanges (with_offer b o)
    head =
        let h = f.head in
        let l = length-append b.offers (o ∷ []) in
        record {
          days = h.days;
          prices = h.prices;
          ceiling = h.ceiling;
          phase = h.phase;
          given = omega arith;
          units = h.units;
          offers = omega arith;
          orders = h.orders;
        }

-- a test of each two orders, with one order more
pub two_more : (f : OpenOrder → OpenOrder → Bool) (os : List OpenOrder) (o : OpenOrder) → each_two f os ≡ true → every (f o) os ≡ true
    → every (λ a. f a o) os ≡ true
    → f o o ≡ true → each_two f (os ++ (o ∷ [])) ≡ true
unfolding each_two
two_more f os o e to from self =
    every_append (λ a. every (f a) (os ++ (o ∷ []))) os (o ∷ [])
    (every_both (λ a. every (f a) os) (λ a. f a o) (λ a. every (f a) (os ++ (o ∷ []))) (λ a p q. every_append (f a) os (o
    ∷ []) p (and_true (f a o) true q refl)) os e from)
    (and_true (every (f o) (os ++ (o ∷ []))) true (every_append (f o) os (o ∷ []) to (and_true (f o o) true self refl)) refl)

-- how a new order stands to those that are open
pub record Beside (f : OpenOrder → OpenOrder → Bool) (o : OpenOrder) (os : List OpenOrder) : Type 0 where
  pub to : every (f o) os ≡ true
  pub from : every (λ a. f a o) os ≡ true
  pub self : f o o ≡ true

pub formed_order : (n : ℕ) (b : Book) (o : OpenOrder) → Formed b → OrderRanges (with_order b o) o → o.number ≡ next_number b → length b.orders < n
    → b.given < most_numbers → Beside one_direction o b.orders → (b.phase ≡ rolling_phase → Beside apart o b.orders) → FormedUpTo n (with_order b o)
formed_order n b o f r e few left way cross =
    record {
      head = head;
      units = f.units;
      offers = each_imp (OfferRanges b) (OfferRanges (with_order b o)) (λ x t. offer_after b (with_order b o) names x x (same_offer x) t) b.offers
          f.offers;
      orders =
          each_append (OrderRanges (with_order b o)) b.orders (o ∷ [])
          (each_imp (OrderRanges b) (OrderRanges (with_order b o)) (λ x t. order_after b (with_order b o) names x x (same_order x) t) b.orders f.orders)
          (r, tt);
      offers_rise = f.offers_rise;
      orders_rise =
          rising_append (λ (x : OpenOrder). x.number) b.orders o f.orders_rise
          (each_imp (OrderRanges b) (λ (x : OpenOrder). x.number < o.number) (λ x t. let i = t.number in omega arith) b.orders f.orders);
      differ =
          every_both (λ (x : OpenOffer). every (other_number x.number) b.orders) (λ (x : OpenOffer). other_number x.number o)
          (λ (x : OpenOffer). every (other_number x.number) (b.orders ++ (o ∷ [])))
          (λ x p q. every_append (other_number x.number) b.orders (o ∷ []) p (and_true (not (eqb x.number o.number)) true q refl))
          b.offers f.differ (new_order_differs b o.number e f.offers);
      one_direction = two_more one_direction b.orders o f.one_direction way.to way.from way.self;
      apart = λ p. two_more apart b.orders o (f.apart p) (cross p).to (cross p).from (cross p).self;
    }
  where
    names : Names b (with_order b o)
    names = record { days = refl; floor = refl; ceiling = refl; given = omega arith; count = omega arith; kinds = λ u i. refl }

    head : HeadUpTo n (with_order b o)
    head =
        let h = f.head in
        let l = length-append b.orders (o ∷ []) in
        record {
          days = h.days;
          prices = h.prices;
          ceiling = h.ceiling;
          phase = h.phase;
          given = omega arith;
          units = h.units;
          offers = h.offers;
          orders = omega arith;
        }

-- orders of one unit and period that go the same way
pub same_direction : (x y : OpenOrder) → (x.unit ≡ y.unit → x.period ≡ y.period → x.direction ≡ y.direction) → one_direction x y ≡ true
same_direction x y h = go (ℕ_discrete x.unit y.unit) (ℕ_discrete x.period y.period)
  where
    go : Dec (x.unit ≡ y.unit) → Dec (x.period ≡ y.period) → one_direction x y ≡ true
    go (yes u) (yes p) = rw (eq-eqb x.unit y.unit u, eq-eqb x.period y.period p, eq-eqb x.direction y.direction (h u p))
    go (yes u) (no p) = rw (eq-eqb x.unit y.unit u, ne_eqb x.period y.period p)
    go (no u) d = rw (ne_eqb x.unit y.unit u)

-- what each unit then has declared
module _ (b : Book) (v : ℕ) (d : Declaration) where
  pub moved_offer : (o : OpenOffer) → ((p : ℕ) → offer_opens v p o ≤ d.raising p) → Moved b (with_offer b o) v d
  unfolding open_raising open_lowering
  moved_offer o h =
      record {
        days = refl;
        kind = refl;
        capacity = refl;
        asset = refl;
        raising = λ p l. omega (arith, offers_more v p b.offers o, h p);
        lowering = λ p l k. omega arith;
        volume = λ p l. omega (arith, offers_more v p b.offers o, h p);
      }

  pub moved_order : (o : OpenOrder) → ((p : ℕ) → order_opens (raises (unit_of b v).kind) v p o ≤ d.raising p)
      → ((p : ℕ) → order_opens (lowers (unit_of b v).kind) v p o ≤ d.lowering p) → Moved b (with_order b o) v d
  unfolding open_raising open_lowering
  moved_order o h g =
      record {
        days = refl;
        kind = refl;
        capacity = refl;
        asset = refl;
        raising = λ p l. omega (arith, orders_more v p (raises (unit_of b v).kind) b.orders o, h p);
        lowering = λ p l k. omega (arith, orders_more v p (lowers (unit_of b v).kind) b.orders o, g p);
        volume = λ p l. omega (
          arith,
          orders_more v p (raises (unit_of b v).kind) b.orders o,
          orders_more v p (lowers (unit_of b v).kind)
              b.orders o,
          h p,
          g p,
        );
      }
