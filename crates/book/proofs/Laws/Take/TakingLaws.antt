-- Take leaves a sound book.
use Rattle.std.proofs.Common.{◌≡◌, ℕ, ◌+◌, ◌-◌, ◌<◌, ◌≤◌, Bool, true, false, cond, not, ◌&&◌, eqb, leb, List, [], ◌∷◌, length, get_or, refl}
use Rattle.std.proofs.Common.{sym, ap, ◌∙◌, arith, ltb-true, eq-eqb, ne_eqb, eqb-true, leb-true}
use native.Mathlib.Decide.{ℕ_discrete}
use borrow.Author.Tests.{eqb-false, not-false}
use Rattle.measures.specs.Ranges.{most_energy}
use Rattle.measures.specs.Lists.{Each}
use Rattle.measures.specs.Sharing.{total}
use Rattle.measures.proofs.RangeLaws.{In, within}
use Rattle.measures.proofs.ListLaws.{both_ways, and_left, and_right}
use Rattle.measures.proofs.SharingLaws.{no-part_exceeds}
use Rattle.limits.specs.Units.{periods, generator}
use Rattle.matching.specs.Orders.{Row}
use Rattle.matching.proofs.Laws.Orders.LeftLaws.{LessOrder, same_order}
use Rattle.book.specs.Book.{no_unit, OpenOffer, no_offer, Book, unit_of, figures_of, offers_of, offer_of, with_units, with_offers}
use Rattle.book.specs.Trades.{rows_booked}
use Rattle.book.specs.Fit.{open_offers, open_raising, open_lowering, Declaration, nothing}
use Rattle.book.specs.Sound.{sound}
use Rattle.book.specs.Refusals.{same_side, can_take, unsound, unknown_unit, few_rows, bad_quantity, no_such_offer, cannot_take, hour_misfit, term_misfit, volume_misfit}
use Rattle.book.specs.Offer.{raising_amounts}
use Rattle.book.specs.Take.{taken_parts, take_refusal, take_rows, offers_less, taking}
use Rattle.matching.proofs.Laws.Lists.EachLaws.{each_at}
use Rattle.matching.proofs.Laws.Lists.RemainLaws.{remains-all, remains-keep, remains_each}
use Rattle.book.proofs.Laws.Sound.FitLaws.{Fits, fits_with, Moved, fits_after}
use Rattle.book.proofs.Laws.Sound.SoundLaws.{UnitRanges, OfferRanges, Sound, sound_facts, sound-holds}
use Rattle.book.proofs.Laws.Answer.RefusalLaws.{NoneApplies, none_applies, decided-sound}
use Rattle.book.proofs.Laws.Sound.FormedLaws.{Remaining, formed_remaining}
use Rattle.book.proofs.Laws.Rows.TradeLaws.{Kept, kept_rows, Grown, grown_rows}
use Rattle.book.proofs.Laws.Take.TakeLaws.{offers_remain, offers_fall, rows_named, take-raises}

other_side : (g k : Bool) → not (cond g k (not k)) ≡ true → k ≡ not g
other_side true true e = both_ways (sym e)
other_side true false e = refl
other_side false true e = refl
other_side false false e = both_ways (sym e)

module _ (b : Book) (u n q : ℕ) where
  -- what an accepted take passed
  pub record TakePassed : Type 0 where
    pub taker : In 1 (length b.units) u
    pub found : 0 < length (offers_of b n)
    pub offer : OfferRanges b (offer_of b n)
    pub sides : generator (unit_of b u).kind ≡ not (generator (unit_of b (offer_of b n).unit).kind)
    pub some : 0 < q
    pub enough : q ≤ total (offer_of b n).amounts
    pub fits : Fits b u (raising_amounts (taken_parts b n q))

  found_ranges : Each (OfferRanges b) b.offers → 0 < length (offers_of b n) → OfferRanges b (offer_of b n)
  found_ranges h l =
      each_at (OfferRanges b) (offers_of b n) 0 no_offer
      (remains_each (λ (x y : OpenOffer). x ≡ y) (OfferRanges b) (OfferRanges b) (λ x y e r. rw e r)
      (remains-keep (λ (x y : OpenOffer). x ≡ y) (λ o. eqb o.number n) (λ x. refl) b.offers) h) l

  can_take_lem : OfferRanges b (offer_of b n) → can_take b (offer_of b n) u q ≡ true
      → (generator (unit_of b u).kind ≡ not (generator (unit_of b (offer_of b n).unit).kind)) × (q ≤ total (offer_of b n).amounts)
  can_take_lem r e = go (eqb (offer_of b n).partner 0) refl e
    where
      o : OpenOffer
      o = offer_of b n

      go : (t : Bool) → eqb (offer_of b n).partner 0 ≡ t
          → cond t (not (same_side b o.unit u) && leb q (total o.amounts)) (eqb o.partner u && eqb q (total o.amounts)) ≡ true
          → (generator (unit_of b u).kind ≡ not (generator (unit_of b o.unit).kind)) × (q ≤ total o.amounts)
      go true z h =
          let x = not (same_side b o.unit u) in
          let y = leb q (total o.amounts) in
          (other_side (generator (unit_of b o.unit).kind) (generator (unit_of b u).kind) (and_left x y h), leb-true _ _ (and_right x y h))
      go false z h =
          let x = eqb o.partner u in
          let y = eqb q (total o.amounts) in
          let s = r.sides (eqb-false _ _ z) in
          let e : o.partner ≡ u = eqb-true _ _ (and_left x y h) in
          let f : q ≡ total o.amounts = eqb-true _ _ (and_right x y h) in
          (ap (λ (v : ℕ). generator (unit_of b v).kind) (sym e) ∙ s.buys ∙ ap not (sym s.sells), omega arith)

  pub take_passed : (lent : ℕ) → Sound b → take_refusal b u n q lent ≡ 0 → TakePassed
  unfolding take_refusal
  take_passed lent s z =
      record {
        taker = taker;
        found = found;
        offer = offer;
        sides = can.0;
        some = (within 1 most_energy q (not-false _ t.1.1.1.0)).0;
        enough = can.1;
        fits =
            fits_with b u (raising_amounts (taken_parts b n q)) (s.fits u taker) (not-false _ t.1.1.1.1.1.1.0)
            (not-false _ t.1.1.1.1.1.1.1.0)
            (not-false _ t.1.1.1.1.1.1.1.1.0);
      }
    where
      d : Declaration
      d = raising_amounts (taken_parts b n q)

      t : NoneApplies
          (unsound b ∷ unknown_unit b u ∷ few_rows lent ∷ bad_quantity q ∷ no_such_offer b n ∷ cannot_take b u n q
          ∷ hour_misfit b u d ∷ term_misfit b u d ∷ volume_misfit b u d ∷ [])
      t = none_applies _ (omega arith) z

      taker : In 1 (length b.units) u
      taker = within 1 (length b.units) u (not-false _ t.1.0)

      found : 0 < length (offers_of b n)
      found = ltb-true _ _ (not-false _ t.1.1.1.1.0)

      offer : OfferRanges b (offer_of b n)
      offer = found_ranges s.formed.offers found

      can : (generator (unit_of b u).kind ≡ not (generator (unit_of b (offer_of b n).unit).kind)) × (q ≤ total (offer_of b n).amounts)
      can = can_take_lem offer (not-false _ t.1.1.1.1.1.0)

  -- the book after the take: the parts go off the offer, and the rows into the figures
  abbrev ps : List ℕ
  ps = taken_parts b n q

  abbrev rows : List Row
  rows = take_rows b (offer_of b n) u ps

  abbrev less : Book
  less = with_offers b (offers_less n ps b.offers)

  abbrev after : Book
  after = with_units less (rows_booked rows less).units

  stay : Kept less (rows_booked rows less)
  stay = kept_rows rows less

  left : Sound b → Remaining b after
  left s =
      let f = s.formed in
      record {
        names = record {
          days = refl;
          floor = refl;
          ceiling = refl;
          given = omega arith;
          count = omega (arith, stay.count);
          kinds = λ v i. stay.kind v;
        };
        phase = f.head.phase;
        given = f.head.given;
        most = omega (arith, stay.count, f.head.units);
        units = stay.ranges b.rules.days f.units;
        offers = offers_remain n ps b.offers;
        orders = remains-all LessOrder same_order b.orders;
        apart = f.apart;
      }

  -- what a unit then has declared: the taker its parts more, the others no more than before
  moved : Sound b → TakePassed → (v : ℕ) (d : Declaration) → In 1 (length b.units) v → ((p : ℕ) → cond (eqb u v) (get_or ps p 0) 0 ≤ d.raising p)
      → Moved b after v d
  unfolding open_raising open_lowering
  moved s a v d i h =
      record {
        days = refl;
        kind = stay.kind v;
        capacity = stay.capacity v;
        asset = stay.asset v;
        raising = λ p l. let g = grown p l in rw (stay.kind v) (omega (arith, fall p, h p));
        lowering = λ p l k. let g = grown p l in rw (stay.kind v) (omega arith);
        volume = λ p l. let g = grown p l in rw (stay.kind v) (omega (arith, fall p, h p));
      }
    where
      grown : (p : ℕ) → p < periods b.rules.days
          → Grown (figures_of b v p) (figures_of after v p) (cond (eqb (offer_of b n).unit v) (get_or ps p 0) 0 + cond (eqb u v) (get_or ps p 0) 0) 0
      grown p l =
          let r = take-raises b (offer_of b n) u ps a.sides v p in
          let f = (each_at (UnitRanges b.rules.days) b.units (v - 1) no_unit s.formed.units (omega arith)).figures in
          rw (r.0, r.1) at (grown_rows rows less v p (rows_named b (offer_of b n) u ps a.sides a.offer.unit.0 a.taker.0) i (omega arith))

      fall : (p : ℕ) → open_offers v p (offers_less n ps b.offers) + cond (eqb (offer_of b n).unit v) (get_or ps p 0) 0 ≡ open_offers v p b.offers
      fall p = offers_fall n ps b.offers a.found (no-part_exceeds q (offer_of b n).amounts a.some a.enough) v p

  taken-sound : Sound b → TakePassed → Sound after
  taken-sound s a =
      record { formed = formed_remaining b after (left s) s.formed; fits = λ v i. fit v (omega (arith, stay.count)) (ℕ_discrete u v) }
    where
      fit : (v : ℕ) → In 1 (length b.units) v → Dec (u ≡ v) → Fits after v nothing
      fit v i (yes e) = fits_after b after v (raising_amounts ps) (moved s a v (raising_amounts ps) i (λ p. rw (eq-eqb u v e) (omega arith)))
          (rw e at a.fits)
      fit v i (no e) = fits_after b after v nothing (moved s a v nothing i (λ p. rw (ne_eqb u v e) (omega arith))) (s.fits v i)

  pub taking-sound : (lent : ℕ) → sound b ≡ true → sound (taking b u n q lent).book ≡ true
  unfolding taking
  taking-sound lent e =
      let s = sound_facts b e in
      decided-sound (take_refusal b u n q lent) b _ e (λ z. rw stay.rest (sound-holds after (taken-sound s (take_passed lent s z))))
