-- A take's rows and what they leave of the offers (specs/Take.antt).
use Rattle.std.proofs.Common.{◌≡◌, ℕ, zero, suc, ◌+◌, ◌<◌, ◌≤◌, Bool, true, false, cond, not, ◌&&◌, eqb, List, [], ◌∷◌, length, get_or, refl}
use Rattle.std.proofs.Common.{sym, ◌∙◌, not-suc-le-zero, arith, eq-eqb, ne_eqb, eqb-true}
use native.Mathlib.Decide.{ℕ_discrete}
use borrow.Author.Tests.{eqb-false}
use Rattle.measures.specs.Lists.{Each, keep}
use Rattle.measures.specs.Sharing.{total, less_each}
use Rattle.measures.proofs.ListLaws.{both_ways, and_right_false, cond_zero, with_true}
use Rattle.measures.proofs.SharingLaws.{Within, within_at}
use Rattle.measures.proofs.LessLaws.{less-length, less_at_lem, less-total}
use Rattle.limits.specs.Units.{generator}
use Rattle.matching.specs.Orders.{Row}
use Rattle.book.specs.Book.{OpenOffer, no_offer, Book, unit_of}
use Rattle.book.specs.Fit.{open_offers}
use Rattle.book.specs.Take.{take_rows_from, take_rows, way_of, offer_less, offers_less}
use Rattle.matching.proofs.Laws.Lists.RemainLaws.{Remains, gone, kept, ended, remains-all}
use Rattle.book.proofs.Laws.Sound.FormedLaws.{LessOffer, same_offer}
use Rattle.book.proofs.Laws.Rows.TradeLaws.{traded_by, rows_raise, rows_lower, Named}

-- the row of a part
abbrev pub take_row : ℕ → ℕ → ℕ → ℕ → ℕ → ℕ → Row
take_row way s t price k q = record { way = way; period = k; seller = s; buyer = t; quantity = q; price = price }

-- each row of a take names its two units
pub take_named : (k way s t price : ℕ) (ps : List ℕ) → 1 ≤ s → 1 ≤ t → Each Named (take_rows_from k way s t price ps)
unfolding take_rows_from
take_named k way s t price [] hs ht = tt
take_named k way s t price (q ∷ ps) hs ht = go (eqb q 0) (take_named (suc k) way s t price ps hs ht)
  where
    go : (z : Bool) → Each Named (take_rows_from (suc k) way s t price ps)
        → Each Named (cond z (take_rows_from (suc k) way s t price ps) (take_row way s t price k q ∷ take_rows_from (suc k) way s t price ps))
    go true h = h
    go false h = ((hs, ht), h)

cond_add : (c : Bool) (x y z : ℕ) → x + y ≡ z → cond c x 0 + cond c y 0 ≡ cond c z 0
cond_add true x y z e = e
cond_add false x y z e = omega arith

-- what a party of the rows traded in a period is that period's part
module _ (way s t price : ℕ) (who : Row → ℕ) (v : ℕ) (is : (k q : ℕ) → who (take_row way s t price k q) ≡ v) (u : ℕ) where
  one-part : (p k q : ℕ) (rest : List Row)
      → traded_by who u p (cond (eqb q 0) rest (take_row way s t price k q ∷ rest)) ≡ cond (eqb v u && eqb k p) q 0 + traded_by who u p rest
  unfolding traded_by
  one-part p k q rest = go (ℕ_discrete q 0)
    where
      go : Dec (q ≡ 0) → traded_by who u p (cond (eqb q 0) rest (take_row way s t price k q ∷ rest)) ≡ cond (eqb v u && eqb k p) q 0 + traded_by who u p rest
      go (yes e) = rw e (omega (arith, cond_zero (eqb v u && eqb k p)))
      go (no n) = rw (ne_eqb q 0 n, is k q)

  part-before : (p k : ℕ) (ps : List ℕ) → p < k → traded_by who u p (take_rows_from k way s t price ps) ≡ 0
  unfolding take_rows_from traded_by
  part-before p k [] h = refl
  part-before p k (q ∷ ps) h =
      one-part p k q (take_rows_from (suc k) way s t price ps)
      ∙ rw (and_right_false (eqb v u) (eqb k p) (ne_eqb k p (omega arith))) (let r = part-before p (suc k) ps (omega arith) in omega arith)

  pub part_at : (p k j : ℕ) (ps : List ℕ) → k + j ≡ p → traded_by who u p (take_rows_from k way s t price ps) ≡ cond (eqb v u) (get_or ps j 0) 0
  unfolding take_rows_from traded_by
  part_at p k j [] h = sym (cond_zero (eqb v u))
  part_at p k zero (q ∷ ps) h =
      one-part p k q (take_rows_from (suc k) way s t price ps)
      ∙ rw (eq-eqb k p (omega arith)) (omega (arith, with_true (eqb v u) q, part-before p (suc k) ps (omega arith)))
  part_at p k (suc j) (q ∷ ps) h =
      one-part p k q (take_rows_from (suc k) way s t price ps)
      ∙ rw (and_right_false (eqb v u) (eqb k p) (ne_eqb k p (omega arith))) (let r = part_at p (suc k) j ps (omega arith) in omega arith)

-- of a total of nothing each amount is nothing
none_at : (l : List ℕ) (i : ℕ) → total l ≡ 0 → get_or l i 0 ≡ 0
none_at [] i e = refl
none_at (x ∷ l) zero e = omega arith
none_at (x ∷ l) (suc i) e = none_at l i (omega arith)

-- the offer of a number in a list
abbrev pub offers_numbered : ℕ → List OpenOffer → List OpenOffer
offers_numbered n os = keep (λ (o : OpenOffer). eqb o.number n) os

abbrev pub offer_numbered : ℕ → List OpenOffer → OpenOffer
offer_numbered n os = get_or (offers_numbered n os) 0 no_offer

module _ (n : ℕ) (ps : List ℕ) where
  less_offer : (o : OpenOffer) → eqb (total (less_each o.amounts ps)) 0 ≡ false → LessOffer (offer_less o ps) o
  less_offer o e =
      record {
        mark = 1;
        left = less_each o.amounts ps;
        is = refl;
        marked = λ h. omega arith;
        long = less-length o.amounts ps;
        fewer = λ p. omega (arith, less_at_lem o.amounts ps p);
        less = less-total o.amounts ps;
        some = λ h. let z : (total (less_each o.amounts ps) ≡ 0 → ⊥) = eqb-false _ _ e in omega arith;
      }

  pub offers_remain : (os : List OpenOffer) → Remains LessOffer (offers_less n ps os) os
  unfolding offers_less
  offers_remain [] = ended
  offers_remain (o ∷ os) = go (eqb o.number n) (eqb (total (less_each o.amounts ps)) 0) refl (offers_remain os)
    where
      go : (t z : Bool) → eqb (total (less_each o.amounts ps)) 0 ≡ z → Remains LessOffer (offers_less n ps os) os
          → Remains LessOffer (cond t (cond z os (offer_less o ps ∷ os)) (o ∷ offers_less n ps os)) (o ∷ os)
      go true true e h = gone (remains-all LessOffer same_offer os)
      go true false e h = kept (less_offer o e) (remains-all LessOffer same_offer os)
      go false z e h = kept (same_offer o) h

  -- what stands open falls by the parts, of the offer's unit alone
  pub offers_fall : (os : List OpenOffer) → 0 < length (offers_numbered n os) → Within ps (offer_numbered n os).amounts → (u p : ℕ)
      → open_offers u p (offers_less n ps os) + cond (eqb (offer_numbered n os).unit u) (get_or ps p 0) 0 ≡ open_offers u p os
  unfolding offers_less open_offers
  offers_fall [] l w u p = absurd (not-suc-le-zero l)
  offers_fall (o ∷ os) l w u p = go (eqb o.number n) (eqb (total (less_each o.amounts ps)) 0) refl l w (λ l w. offers_fall os l w u p)
    where
      others : List OpenOffer
      others = offers_numbered n os

      go : (t z : Bool) → eqb (total (less_each o.amounts ps)) 0 ≡ z → 0 < length (cond t (o ∷ others) others)
          → Within ps (get_or (cond t (o ∷ others) others) 0 no_offer).amounts
          → (0 < length others → Within ps (get_or others 0 no_offer).amounts
          → open_offers u p (offers_less n ps os) + cond (eqb (get_or others 0 no_offer).unit u) (get_or ps p 0) 0 ≡ open_offers u p os)
          → open_offers u p (cond t (cond z os (offer_less o ps ∷ os)) (o ∷ offers_less n ps os)) + cond
          (eqb (get_or (cond t (o ∷ others) others) 0 no_offer).unit u) (get_or ps p 0) 0 ≡ open_offers u p (o ∷ os)
      go true true e l w ih =
          let r : get_or o.amounts p 0 ≡ get_or ps p 0 = omega
          (arith, none_at (less_each o.amounts ps) p (eqb-true _ _ e), less_at_lem o.amounts ps p, within_at ps o.amounts p w) in
          rw r (omega arith)
      go true false e l w ih =
          omega (
            arith,
            cond_add (eqb o.unit u) (get_or (less_each o.amounts ps) p 0) (get_or ps p 0) (get_or o.amounts p 0)
                (omega (arith, less_at_lem o.amounts ps p, within_at ps o.amounts p w)),
          )
      go false z e l w ih = let h = ih l w in omega arith

not_itself : {X : Type 0} (g : Bool) → g ≡ not g → X
not_itself true e = both_ways e
not_itself false e = both_ways (sym e)

-- each side's trade raises: a is whether a unit is the one side, c whether it is the other, g and k whether the first
-- side and the unit are generators
each_side : (a c g k : Bool) (x : ℕ) → (a ≡ true → k ≡ g) → (c ≡ true → k ≡ not g)
    → (cond k (cond (cond g a c) x 0) (cond (cond g c a) x 0) ≡ cond a x 0 + cond c x 0) × (cond k (cond (cond g c a) x 0) (cond (cond g a c) x 0) ≡ 0)
each_side true true g k x m t = not_itself g (sym (m refl) ∙ t refl)
each_side true false true true x m t = omega arith
each_side true false true false x m t = both_ways (sym (m refl))
each_side true false false true x m t = both_ways (m refl)
each_side true false false false x m t = omega arith
each_side false true true true x m t = both_ways (t refl)
each_side false true true false x m t = omega arith
each_side false true false true x m t = omega arith
each_side false true false false x m t = both_ways (sym (t refl))
each_side false false true true x m t = omega arith
each_side false false true false x m t = omega arith
each_side false false false true x m t = omega arith
each_side false false false false x m t = omega arith

-- what the take's rows raise: of the offer's unit and of the taker, each period's part; they lower nothing
module _ (b : Book) (o : OpenOffer) (u : ℕ) (ps : List ℕ) (sides : generator (unit_of b u).kind ≡ not (generator (unit_of b o.unit).kind)) where
  pub rows_named : 1 ≤ o.unit → 1 ≤ u → Each Named (take_rows b o u ps)
  unfolding take_rows
  rows_named ho hu = go (generator (unit_of b o.unit).kind)
    where
      go : (g : Bool) → Each Named (cond g (take_rows_from 0 (way_of o) o.unit u o.price ps) (take_rows_from 0 (way_of o) u o.unit o.price ps))
      go true = take_named 0 (way_of o) o.unit u o.price ps ho hu
      go false = take_named 0 (way_of o) u o.unit o.price ps hu ho

  module _ (v p : ℕ) where
    -- a party of the rows, which is s where the offer's unit sells and t where the taker does
    take_trades : (who : Row → ℕ) (s t : ℕ)
        → ((k q : ℕ) → who (take_row (way_of o) o.unit u o.price k q) ≡ s)
        → ((k q : ℕ) → who (take_row (way_of o) u o.unit o.price k q) ≡ t)
        → traded_by who v p (take_rows b o u ps) ≡ cond (cond (generator (unit_of b o.unit).kind) (eqb s v) (eqb t v)) (get_or ps p 0) 0
    unfolding take_rows
    take_trades who s t one other = go (generator (unit_of b o.unit).kind)
      where
        go : (g : Bool)
            → traded_by who v p (cond g (take_rows_from 0 (way_of o) o.unit u o.price ps) (take_rows_from 0 (way_of o) u o.unit o.price ps))
            ≡ cond (cond g (eqb s v) (eqb t v)) (get_or ps p 0) 0
        go true = part_at (way_of o) o.unit u o.price who s one v p 0 p ps (omega arith)
        go false = part_at (way_of o) u o.unit o.price who t other v p 0 p ps (omega arith)

    pub take-raises : (rows_raise (unit_of b v).kind v p (take_rows b o u ps) ≡ cond (eqb o.unit v) (get_or ps p 0) 0 + cond (eqb u v) (get_or ps p 0) 0)
        × (rows_lower (unit_of b v).kind v p (take_rows b o u ps) ≡ 0)
    take-raises =
        rw (
          take_trades (λ (r : Row). r.seller) o.unit u (λ k q. refl) (λ k q. refl),
          take_trades (λ (r : Row). r.buyer) u o.unit (λ k q. refl)
              (λ k q. refl),
        )
        (each_side (eqb o.unit v) (eqb u v) (generator (unit_of b o.unit).kind) (generator (unit_of b v).kind) (get_or ps p 0)
        (λ e. rw (eqb-true o.unit v e) refl) (λ e. rw (← eqb-true u v e) sides))
