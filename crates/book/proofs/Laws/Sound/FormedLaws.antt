-- When offers and orders stay in their ranges, and a book keeps its form.
use Rattle.std.proofs.Common.{◌≡◌, ℕ, ◌<◌, ◌≤◌, Bool, true, List, length, get_or, refl, ap, ◌∙◌, arith}
use Rattle.measures.specs.Lists.{every, Each}
use Rattle.measures.specs.Sharing.{total}
use Rattle.measures.proofs.RangeLaws.{In}
use Rattle.limits.specs.Units.{generator}
use Rattle.matching.specs.Orders.{Order as OpenOrder, leaving}
use Rattle.book.specs.Book.{OpenOffer, Book, rolling_phase, most_units, most_orders, most_numbers, unit_of}
use Rattle.book.specs.Sound.{one_direction, apart, each_two}
use Rattle.matching.proofs.Laws.Orders.LeftLaws.{LessOrder}
use Rattle.matching.proofs.Laws.Lists.RemainLaws.{Remains, remains_each, remains-every, remains-length, remains-rising}
use Rattle.book.proofs.Laws.Sound.SoundLaws.{HeadRanges, UnitRanges, Sides, OfferRanges, OrderRanges, other_number, numbers_apart, FormedUpTo, Formed}

-- an offer with other amounts left
abbrev pub offer_leaving : OpenOffer → ℕ → List ℕ → OpenOffer
offer_leaving o taken amounts =
    record { number = o.number; unit = o.unit; partner = o.partner; price = o.price; taken = taken; amounts = amounts }

-- x is what is left of the offer y
pub record LessOffer (x y : OpenOffer) : Type 0 where
  pub mark : ℕ
  pub left : List ℕ
  pub is : x ≡ offer_leaving y mark left
  pub marked : y.taken ≤ 1 → mark ≤ 1
  pub long : length left ≡ length y.amounts
  pub fewer : (p : ℕ) → get_or left p 0 ≤ get_or y.amounts p 0
  pub less : total left ≤ total y.amounts
  pub some : 0 < total y.amounts → 0 < total left

pub same_offer : (o : OpenOffer) → LessOffer o o
same_offer o =
    record { mark = o.taken; left = o.amounts; is = refl; marked = λ h. h; long = refl; fewer = λ p. omega arith; less = omega arith; some = λ h. h }

-- what is named in b is so in b'
pub record Names (b b' : Book) : Type 0 where
  pub days : b'.rules.days ≡ b.rules.days
  pub floor : b'.rules.floor ≡ b.rules.floor
  pub ceiling : b'.rules.ceiling ≡ b.rules.ceiling
  pub given : b.given ≤ b'.given
  pub count : length b.units ≤ length b'.units
  pub kinds : (u : ℕ) → In 1 (length b.units) u → (unit_of b' u).kind ≡ (unit_of b u).kind

module _ (b b' : Book) (n : Names b b') where
  pub offer_after : (x y : OpenOffer) → LessOffer x y → OfferRanges b y → OfferRanges b' x
  offer_after x y l r =
      rw l.is (record {
        number = omega arith;
        unit = omega arith;
        sides = sides;
        price = omega arith;
        taken = l.marked r.taken;
        amounts = omega arith;
        energy = let s = l.some (omega arith) in omega arith;
      })
    where
      sides : (y.partner ≡ 0 → ⊥) → Sides b' (offer_leaving y l.mark l.left)
      sides h =
          let s = r.sides h in
          record {
            partner = omega arith;
            sells = ap generator (n.kinds y.unit r.unit) ∙ s.sells;
            buys = ap generator (n.kinds y.partner s.partner) ∙ s.buys;
          }

  pub order_after : (x y : OpenOrder) → LessOrder x y → OrderRanges b y → OrderRanges b' x
  order_after x y l r =
      rw l.is (record {
        number = omega arith;
        unit = omega arith;
        direction = r.direction;
        period = omega arith;
        price = omega arith;
        energy = let s = l.some (omega arith) in omega arith;
      })

-- tests of two orders that do not read what is open
pub two_remain : (f : OpenOrder → OpenOrder → Bool) → ((x y : OpenOrder) (p q : ℕ) → f (leaving x p) (leaving y q) ≡ f x y)
    → (xs ys : List OpenOrder) → Remains LessOrder xs ys → each_two f ys ≡ true → each_two f xs ≡ true
unfolding each_two
two_remain f same xs ys t e =
    remains-every LessOrder (λ y. every (f y) ys) (λ x. every (f x) xs) outer xs ys t e
  where
    inner : (x y : OpenOrder) → LessOrder x y → (v w : OpenOrder) → LessOrder v w → f y w ≡ true → f x v ≡ true
    inner x y l v w k h = rw (l.is, k.is) (same y w l.left k.left ∙ h)

    outer : (x y : OpenOrder) → LessOrder x y → every (f y) ys ≡ true → every (f x) xs ≡ true
    outer x y l h = remains-every LessOrder (f y) (f x) (inner x y l) xs ys t h

-- numbers that differ still do
pub differ_remain : (fs gs : List OpenOffer) (os ps : List OpenOrder) → Remains LessOffer fs gs → Remains LessOrder os ps → numbers_apart gs ps ≡ true
    → numbers_apart fs os ≡ true
differ_remain fs gs os ps s t e =
    remains-every LessOffer (λ g. every (other_number g.number) ps) (λ f. every (other_number f.number) os) outer fs gs s e
  where
    inner : (f g : OpenOffer) → LessOffer f g → (o p : OpenOrder) → LessOrder o p → other_number g.number p ≡ true → other_number f.number o ≡ true
    inner f g l o p k h = rw (l.is, k.is) h

    outer : (f g : OpenOffer) → LessOffer f g → every (other_number g.number) ps ≡ true → every (other_number f.number) os ≡ true
    outer f g l h = remains-every LessOrder (other_number g.number) (other_number f.number) (inner f g l) os ps t h

-- a book whose offers and orders are what remains of those of b
pub record Remaining (b b' : Book) : Type 0 where
  pub names : Names b b'
  pub phase : b'.phase ≤ rolling_phase
  pub given : b'.given ≤ most_numbers
  pub most : length b'.units ≤ most_units
  pub units : Each (UnitRanges b'.rules.days) b'.units
  pub offers : Remains LessOffer b'.offers b.offers
  pub orders : Remains LessOrder b'.orders b.orders
  pub apart : b'.phase ≡ rolling_phase → each_two apart b'.orders ≡ true

-- whatever the count of its orders was, they are few enough now
pub formed_left : (n : ℕ) (b b' : Book) → length b'.orders ≤ most_orders → Remaining b b' → FormedUpTo n b → Formed b'
formed_left n b b' few r f =
    record {
      head = head;
      units = r.units;
      offers = remains_each LessOffer (OfferRanges b) (OfferRanges b') (offer_after b b' r.names) r.offers f.offers;
      orders = remains_each LessOrder (OrderRanges b) (OrderRanges b') (order_after b b' r.names) r.orders f.orders;
      offers_rise = remains-rising LessOffer (λ (o : OpenOffer). o.number) (λ x y l. ap (λ (o : OpenOffer). o.number) l.is) r.offers f.offers_rise;
      orders_rise = remains-rising LessOrder (λ (o : OpenOrder). o.number) (λ x y l. ap (λ (o : OpenOrder). o.number) l.is) r.orders f.orders_rise;
      differ = differ_remain b'.offers b.offers b'.orders b.orders r.offers r.orders f.differ;
      one_direction = two_remain one_direction (λ x y p q. refl) b'.orders b.orders r.orders f.one_direction;
      apart = r.apart;
    }
  where
    head : HeadRanges b'
    head =
        let h = f.head in
        let n = r.names in
        let k = remains-length LessOffer r.offers in
        record {
          days = omega arith;
          prices = omega arith;
          ceiling = omega arith;
          phase = r.phase;
          given = r.given;
          units = r.most;
          offers = omega arith;
          orders = few;
        }

pub formed_remaining : (b b' : Book) → Remaining b b' → Formed b → Formed b'
formed_remaining b b' r f =
    let h = f.head.orders in
    formed_left most_orders b b' (omega (arith, remains-length LessOrder r.orders)) r f
