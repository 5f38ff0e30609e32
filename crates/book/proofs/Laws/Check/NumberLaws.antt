-- Laws of open numbers in memory.
use Rattle.std.proofs.Common.{◌≡◌, ℕ, suc, ◌-◌, ◌*◌, ◌<◌, ◌≤◌, Bool, true, false, not, eqb, List, length, get_or, sym, refl, ap, ◌∙◌, arith}
use Rattle.std.proofs.Common.{Option, Some, None, is_some, eq-eqb, ne_eqb}
use borrow.Author.Tests.{not-true, not-false}
use lib.ListN.{length-map, get_or-map}
use Rattle.measures.specs.Lists.{all}
use Rattle.measures.proofs.ListLaws.{table_at, every-table, all_ext, all_true, all_by, all_fails, holds-all, false_by, not_both}
use Rattle.matching.specs.Orders.{Order as OpenOrder, rising, numbers}
use Rattle.matching.specs.Memory.{order_at, orders_in}
use Rattle.matching.proofs.Laws.Orders.FitLaws.{rising_by, rising_fails}
use Rattle.book.specs.Book.{OpenOffer, no_offer}
use Rattle.book.specs.Sound.{numbers_differ}
use Rattle.book.specs.Layout.{DAYS, OFFERS, ORDERS, offer_place, order_place, word, offer_at, orders_part, decode}
use Rattle.book.specs.Inner.Readable.{offer_numbers, number_free, numbers_free}
use Rattle.book.specs.Inner.Search.{OrderFound}
use Rattle.book.proofs.Laws.Memory.RangeFacts.{offers_held, order_word}

-- the number of the open offer at a place
pub offer_number : (m : List ℕ) (j : ℕ) → j < word m OFFERS → get_or (offer_numbers (decode m)) j 0 ≡ word m (offer_place j)
unfolding decode
offer_number m j h =
    get_or-map (λ (o : OpenOffer). o.number) (decode m).offers j no_offer
    ∙ ap (λ (o : OpenOffer). o.number) (table_at (word m OFFERS) (offer_at m (word m DAYS)) j no_offer h)

pub offer_numbers-length : (m : List ℕ) → length (offer_numbers (decode m)) ≡ word m OFFERS
offer_numbers-length m = length-map (decode m).offers (λ (o : OpenOffer). o.number) ∙ offers_held m

-- the numbers of the offers before place j rise by neighbours
abbrev pub Climbing : List ℕ → ℕ → Type 0
Climbing m j = (i : ℕ) → suc i < j → word m (offer_place i) < word m (offer_place (suc i))

pub climbing_rises : (m : List ℕ) (j : ℕ) → word m OFFERS ≤ j → Climbing m j → true ≡ rising (offer_numbers (decode m))
climbing_rises m j h c = sym (rising_by (offer_numbers (decode m)) at)
  where
    at : (i : ℕ) → suc i < length (offer_numbers (decode m)) → get_or (offer_numbers (decode m)) i 0 < get_or (offer_numbers (decode m)) (suc i) 0
    at i l =
        let u : suc i < word m OFFERS = omega (arith, offer_numbers-length m) in
        let a = offer_number m i (omega arith) in
        let b = offer_number m (suc i) u in
        let t = c i (omega arith) in
        omega arith

pub climbing_fails : (m : List ℕ) (j : ℕ) → 1 ≤ j → j < word m OFFERS → word m (offer_place j) ≤ word m (offer_place (j - 1)) → false
    ≡ rising (offer_numbers (decode m))
climbing_fails m j one l h =
    let e : suc (j - 1) ≡ j = omega arith in
    let a = offer_number m (j - 1) (omega arith) in
    let b : get_or (offer_numbers (decode m)) (suc (j - 1)) 0 ≡ word m (offer_place j) = ap (λ (x : ℕ). get_or (offer_numbers (decode m)) x 0) e
    ∙ offer_number m j l in
    sym (rising_fails (offer_numbers (decode m)) (j - 1) (omega (arith, offer_numbers-length m)) (omega arith))

-- a number that no order has, by places
pub number_by_places : (m : List ℕ) (n : ℕ) → word m ORDERS ≤ 256 → number_free (decode m) n ≡ all (word m ORDERS) (λ k. not (eqb n (word m (order_place k))))
unfolding number_free decode orders_in
number_by_places m n h =
    every-table (λ (o : OpenOrder). not (eqb n o.number)) (word m ORDERS) (order_at (orders_part m))
    ∙ all_ext (word m ORDERS) _ _ (λ k l. ap (λ (x : ℕ). not (eqb n x)) (order_word m (6 * k) (omega arith)))

-- a number is free where no order is found with it
pub free_by : (m : List ℕ) (n : ℕ) (r : Option ℕ) → word m ORDERS ≤ 256 → OrderFound m n r → (b : Bool) → is_some r ≡ not b → b ≡ number_free (decode m) n
free_by m n None few f b e =
    not-false b (sym e) ∙ sym (number_by_places m n few ∙ all_by (word m ORDERS) _ (λ k l. ap not (ne_eqb _ _ (λ q. f k l (sym q)))))
free_by m n (Some k) few f b e =
    not-true b (sym e) ∙ sym (number_by_places m n few ∙ all_fails (word m ORDERS) _ k f.there (ap not (eq-eqb _ _ (sym f.here))))

pub numbers_by_places : (m : List ℕ) → numbers_free (decode m) ≡ all (word m OFFERS) (λ j. number_free (decode m) (word m (offer_place j)))
unfolding numbers_free decode
numbers_by_places m = every-table (λ (f : OpenOffer). number_free (decode m) f.number) (word m OFFERS) (offer_at m (word m DAYS))

-- the three tests together
module _ (m : List ℕ) where
  differ_facts : numbers_differ (decode m) ≡ true → (rising (offer_numbers (decode m)) ≡ true) × (rising (numbers (decode m).orders) ≡ true)
      × (numbers_free (decode m) ≡ true)
  unfolding numbers_differ numbers_free number_free
  differ_facts e = let t = all_true _ e in (t.0, t.1.0, t.1.1.0)

  differ_holds : rising (offer_numbers (decode m)) ≡ true → rising (numbers (decode m).orders) ≡ true → numbers_free (decode m) ≡ true
      → numbers_differ (decode m) ≡ true
  unfolding numbers_differ numbers_free number_free
  differ_holds e f g = holds-all _ (e, (f, (g, tt)))

  pub differ_offers : rising (offer_numbers (decode m)) ≡ false → false ≡ numbers_differ (decode m)
  differ_offers e = sym (false_by _ (λ t. not_both _ (differ_facts t).0 e))

  pub differ_orders : rising (numbers (decode m).orders) ≡ false → false ≡ numbers_differ (decode m)
  differ_orders e = sym (false_by _ (λ t. not_both _ (differ_facts t).1 e))

  pub differ_free : rising (offer_numbers (decode m)) ≡ true → rising (numbers (decode m).orders) ≡ true → numbers_free (decode m) ≡ numbers_differ (decode m)
  differ_free e f = go (numbers_free (decode m)) refl
    where
      go : (b : Bool) → numbers_free (decode m) ≡ b → numbers_free (decode m) ≡ numbers_differ (decode m)
      go true g = g ∙ sym (differ_holds e f g)
      go false g = g ∙ sym (false_by _ (λ t. not_both _ (differ_facts t).2 g))

-- the orders' part is what the memory's orders are read from
pub orders_from : (m : List ℕ) → (decode m).orders ≡ orders_in (orders_part m) (word m ORDERS)
unfolding decode
orders_from m = refl
