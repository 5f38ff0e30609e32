-- What stands open of a unit in a period, when declarations go, lessen or come (specs/Fit.antt).
use Rattle.std.proofs.Common.{◌≡◌, ℕ, ◌+◌, ◌<◌, ◌≤◌, Bool, true, false, cond, ◌&&◌, eqb, List, [], ◌∷◌, ◌++◌, get_or, refl, ap, arith, ne_eqb, eq-eqb}
use Rattle.measures.specs.Lists.{Each, Has}
use Rattle.measures.proofs.ListLaws.{sum-zero, sum_of_append}
use Rattle.limits.specs.Units.{periods}
use Rattle.matching.specs.Orders.{Order as OpenOrder}
use Rattle.matching.proofs.Laws.Orders.LeftLaws.{LessOrder}
use Rattle.book.specs.Book.{Figures, no_figures, EnrolledUnit, OpenOffer, Book, unit_of, figures_of}
use Rattle.book.specs.Trades.{raises, lowers}
use Rattle.book.specs.Fit.{open_orders, open_offers, open_raising, open_lowering, nothing}
use Rattle.matching.proofs.Laws.Lists.RemainLaws.{Remains, remains-sum}
use Rattle.book.proofs.Laws.Sound.FormedLaws.{LessOffer}
use Rattle.book.proofs.Laws.Sound.FitLaws.{raised_to, volume_to, Fits, Moved}
use Rattle.matching.proofs.Laws.Lists.SumLaws.{sum_of_has}

cond_mono : (t : Bool) (x y : ℕ) → x ≤ y → cond t x 0 ≤ cond t y 0
cond_mono true x y h = h
cond_mono false x y h = omega arith

-- what one offer and one order have open of a unit in a period
abbrev pub offer_opens : ℕ → ℕ → OpenOffer → ℕ
offer_opens u p o = cond (eqb o.unit u) (get_or o.amounts p 0) 0

abbrev pub order_opens : (ℕ → Bool) → ℕ → ℕ → OpenOrder → ℕ
order_opens f u p o = cond (eqb o.unit u && eqb o.period p && f o.direction) o.quantity 0

-- an order in the direction that f picks is part of what its unit has open
pub open_part : (f : ℕ → Bool) (os : List OpenOrder) (o : OpenOrder) → Has o os → f o.direction ≡ true → o.quantity ≤ open_orders f o.unit o.period os
unfolding open_orders
open_part f os o h e =
    rw (eq-eqb o.unit o.unit refl, eq-eqb o.period o.period refl, e)
    at (sum_of_has (λ (x : OpenOrder). cond (eqb x.unit o.unit && eqb x.period o.period && f x.direction) x.quantity 0) os o h)

module _ (u p : ℕ) where
  pub offers_less_lem : (xs ys : List OpenOffer) → Remains LessOffer xs ys → open_offers u p xs ≤ open_offers u p ys
  unfolding open_offers
  offers_less_lem xs ys t = remains-sum LessOffer (offer_opens u p) (offer_opens u p) (λ x y l. rw l.is (cond_mono (eqb y.unit u) _ _ (l.fewer p))) t

  pub offers_more : (xs : List OpenOffer) (o : OpenOffer) → open_offers u p (xs ++ (o ∷ [])) ≡ open_offers u p xs + offer_opens u p o
  unfolding open_offers
  offers_more xs o = let t = sum_of_append (offer_opens u p) xs (o ∷ []) in omega arith

  pub offers_none : (xs : List OpenOffer) → Each (λ (o : OpenOffer). o.unit ≡ u → ⊥) xs → open_offers u p xs ≡ 0
  unfolding open_offers
  offers_none [] e = refl
  offers_none (x ∷ xs) e = rw (ne_eqb x.unit u e.0) (let t = offers_none xs e.1 in omega arith)

  module _ (f : ℕ → Bool) where
    pub orders_less : (xs ys : List OpenOrder) → Remains LessOrder xs ys → open_orders f u p xs ≤ open_orders f u p ys
    unfolding open_orders
    orders_less xs ys t =
        remains-sum LessOrder (order_opens f u p) (order_opens f u p)
        (λ x y l. rw l.is (cond_mono (eqb y.unit u && eqb y.period p && f y.direction) _ _ l.fewer)) t

    pub orders_more : (xs : List OpenOrder) (o : OpenOrder) → open_orders f u p (xs ++ (o ∷ [])) ≡ open_orders f u p xs + order_opens f u p o
    unfolding open_orders
    orders_more xs o = let t = sum_of_append (order_opens f u p) xs (o ∷ []) in omega arith

    pub orders_none : (xs : List OpenOrder) → Each (λ (o : OpenOrder). o.unit ≡ u → ⊥) xs → open_orders f u p xs ≡ 0
    unfolding open_orders
    orders_none [] e = refl
    orders_none (x ∷ xs) e = rw (ne_eqb x.unit u e.0) (let t = orders_none xs e.1 in omega arith)

-- a unit of the same kind, with what remains of the declarations
module _ (b b' : Book) (u p : ℕ) (kind : (unit_of b' u).kind ≡ (unit_of b u).kind) where
  pub raising_less : Remains LessOffer b'.offers b.offers → Remains LessOrder b'.orders b.orders → open_raising b' u p ≤ open_raising b u p
  unfolding open_raising
  raising_less s t =
      rw kind (omega (arith, offers_less_lem u p b'.offers b.offers s, orders_less u p (raises (unit_of b u).kind) b'.orders b.orders t))

  pub lowering_less : Remains LessOrder b'.orders b.orders → open_lowering b' u p ≤ open_lowering b u p
  unfolding open_lowering
  lowering_less t = rw kind (orders_less u p (lowers (unit_of b u).kind) b'.orders b.orders t)

-- a unit that stayed as it was, with what remains of the declarations
pub moved_remaining : (b b' : Book) (u : ℕ) → b'.rules.days ≡ b.rules.days → unit_of b' u ≡ unit_of b u → Remains LessOffer b'.offers b.offers
    → Remains LessOrder b'.orders b.orders → Moved b b' u nothing
moved_remaining b b' u days e s t =
    record {
      days = days;
      kind = kind;
      capacity = ap (λ (x : EnrolledUnit). x.capacity) e;
      asset = ap (λ (x : EnrolledUnit). x.asset) e;
      raising = λ p h. omega (arith, ap (λ (f : Figures). f.held) (same p), ap (λ (f : Figures). f.raised) (same p), raising_less b b' u p kind s t);
      lowering = λ p h k. omega (arith, ap (λ (f : Figures). f.held) (same p), ap (λ (f : Figures). f.lowered) (same p), lowering_less b b' u p kind t);
      volume = λ p h. omega (arith, ap (λ (f : Figures). f.volume) (same p), raising_less b b' u p kind s t, lowering_less b b' u p kind t);
    }
  where
    kind : (unit_of b' u).kind ≡ (unit_of b u).kind
    kind = ap (λ (x : EnrolledUnit). x.kind) e

    same : (p : ℕ) → figures_of b' u p ≡ figures_of b u p
    same p = ap (λ (x : EnrolledUnit). get_or x.figures p no_figures) e

-- a unit with nothing traded and nothing open fits
pub idle_fits : (b : Book) (u : ℕ) → ((p : ℕ) → p < periods b.rules.days → figures_of b u p ≡ no_figures)
    → Each (λ (o : OpenOffer). o.unit ≡ u → ⊥) b.offers
    → Each (λ (o : OpenOrder). o.unit ≡ u → ⊥) b.orders → Fits b u nothing
unfolding open_raising open_lowering
idle_fits b u none s t =
    record {
      raising = λ p h. omega (arith, raised p h);
      lowering = λ p h. omega (arith, ap (λ (f : Figures). f.lowered) (none p h), orders_none u p (lowers (unit_of b u).kind) b.orders t);
      term = omega (arith, sum-zero (periods b.rules.days) (raised_to b u nothing) raised);
      volume = omega (arith, sum-zero (periods b.rules.days) (volume_to b u nothing) volume);
    }
  where
    raised : (p : ℕ) → p < periods b.rules.days → raised_to b u nothing p ≡ 0
    raised p h =
        omega (
          arith,
          ap (λ (f : Figures). f.held) (none p h),
          ap (λ (f : Figures). f.raised) (none p h),
          offers_none u p b.offers s,
          orders_none u p
              (raises (unit_of b u).kind) b.orders t,
        )

    volume : (p : ℕ) → p < periods b.rules.days → volume_to b u nothing p ≡ 0
    volume p h =
        omega (
          arith,
          ap (λ (f : Figures). f.volume) (none p h),
          offers_none u p b.offers s,
          orders_none u p (raises (unit_of b u).kind)
              b.orders t,
          orders_none u p (lowers (unit_of b u).kind) b.orders t,
        )
