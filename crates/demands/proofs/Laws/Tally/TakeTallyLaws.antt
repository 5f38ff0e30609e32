-- Tally and book agree after a take.
use Prim.Native.Nat.{ℕ, zero, suc, ◌-◌, ◌≤◌, ◌<◌}
use mathlib.Core.Path.{◌≡◌, refl, sym, ap, ap₂, ◌∙◌}
use mathlib.Core.Bool.{Bool, true, false, cond}
use mathlib.Core.List.{List, [], ◌∷◌, ◌++◌, map, append_assoc}
use native.Mathlib.Omega.{arith}
use borrow.Author.Tests.{eqb-true, eq-eqb, ne_eqb, ltb-true, not-false}
use lib.ListN.{length, get_or, set, length-append}
use lib.Seq.{get_or_at, set_at}
use lib.Dec.{eqb, ltb}
use Rattle.measures.specs.Lists.{Each, keep, every}
use Rattle.measures.specs.Sharing.{total, less_each}
use Rattle.measures.proofs.SharingLaws.{parts-length}
use Rattle.measures.proofs.RangeLaws.{In, within}
use Rattle.measures.proofs.ListLaws.{cond_case, and_left, and_right}
use Rattle.limits.specs.Units.{periods, generator}
use Rattle.matching.specs.Orders.{Row, rising}
use Rattle.matching.proofs.Laws.Lists.EachLaws.{each_map, each_keep, each_at, kept}
use Rattle.book.specs.Book.{OpenOffer, no_offer, Book, unit_of, offers_of, offer_of, with_offers}
use Rattle.book.specs.Trades.{rows_booked}
use Rattle.book.specs.Refusals.{accepted}
use Rattle.book.specs.Take.{taken_parts, take_refusal, take_rows_from, way_of, take_rows, offer_less, offers_less, taking}
use Rattle.book.specs.Calls.{call_take, outcome}
use Rattle.demands.specs.Tally.{Amounts, Tally, less_at, offer_lessened, take_tallied, accounted}
use Rattle.demands.proofs.Laws.Tally.AgreeLaws.{amounts_of, remains, Parties, Agree}
use Rattle.demands.proofs.Laws.Tally.StandingLaws.{Standing}
use Rattle.book.proofs.Laws.Sound.SoundLaws.{OfferRanges}
use Rattle.demands.proofs.Laws.Tally.MapLaws.{each_unmap}
use Rattle.book.proofs.Laws.Answer.RefusalLaws.{none_applies}
use Rattle.demands.proofs.Laws.Tally.AcceptedLaws.{AgreeAfter, decided_is, accepted_agree, agree_changed}

-- amounts after rows, each taken off in its period
unfoldable amounts_less : List Row → List ℕ → List ℕ
amounts_less [] l = l
amounts_less (r ∷ rs) l = amounts_less rs (set l r.period (get_or l r.period 0 - r.quantity))

abbrev less_rows : List Row → Amounts → Amounts
less_rows rs a = record { number = a.number; unit = a.unit; amounts = amounts_less rs a.amounts }

-- what a take does to each offer of a tally
abbrev taken : ℕ → List Row → Amounts → Amounts
taken n rs a = cond (eqb a.number n) (less_rows rs a) a

taken-first : (n : ℕ) (r : Row) (rs : List Row) (os : List Amounts) → map (taken n rs) (offer_lessened n r os) ≡ map (taken n (r ∷ rs)) os
unfolding offer_lessened amounts_less
taken-first n r rs [] = refl
taken-first n r rs (a ∷ os) = go (eqb a.number n) refl (taken-first n r rs os)
  where
    go : (c : Bool) → eqb a.number n ≡ c → map (taken n rs) (offer_lessened n r os) ≡ map (taken n (r ∷ rs)) os
        → map (taken n rs) (cond c (less_at a r ∷ offer_lessened n r os) (a ∷ offer_lessened n r os)) ≡ cond c (less_rows (r ∷ rs) a) a
        ∷ map (taken n (r ∷ rs)) os
    go true e ih = rw (e, ih)
    go false e ih = rw (e, ih)

taken_none : (n : ℕ) (os : List Amounts) → map (taken n []) os ≡ os
unfolding amounts_less
taken_none n [] = refl
taken_none n (a ∷ os) = ap₂ (λ (x : Amounts) (l : List Amounts). x ∷ l) (go (eqb a.number n)) (taken_none n os)
  where
    go : (c : Bool) → cond c (less_rows [] a) a ≡ a
    go true = refl
    go false = refl

take_tallied_lem : (n : ℕ) (rs : List Row) (os : List Amounts) → take_tallied n rs os ≡ map (taken n rs) os
unfolding take_tallied
take_tallied_lem n [] os = sym (taken_none n os)
take_tallied_lem n (r ∷ rs) os = take_tallied_lem n rs (offer_lessened n r os) ∙ taken-first n r rs os

-- an emptied offer stays empty
less-total : (l : List ℕ) (p q : ℕ) → total (set l p (get_or l p 0 - q)) ≤ total l
less-total [] p q = omega arith
less-total (x ∷ l) zero q = omega arith
less-total (x ∷ l) (suc p) q = let h = less-total l p q in omega arith

rows-total : (rs : List Row) (l : List ℕ) → total (amounts_less rs l) ≤ total l
unfolding amounts_less
rows-total [] l = omega arith
rows-total (r ∷ rs) l =
    let h = less-total l r.period r.quantity in
    let k = rows-total rs (set l r.period (get_or l r.period 0 - r.quantity)) in
    omega arith

taken_empty : (n : ℕ) (rs : List Row) (a : Amounts) → remains a ≡ false → remains (taken n rs a) ≡ false
taken_empty n rs a e = go (eqb a.number n)
  where
    z : total a.amounts ≡ 0
    z = eqb-true (total a.amounts) 0 (not-false (eqb (total a.amounts) 0) e)

    go : (c : Bool) → remains (cond c (less_rows rs a) a) ≡ false
    go true = rw (eq-eqb (total (amounts_less rs a.amounts)) 0 (omega (arith, z, rows-total rs a.amounts)))
    go false = e

still_remain : (n : ℕ) (rs : List Row) (os : List Amounts) → keep remains (map (taken n rs) os) ≡ keep remains (map (taken n rs) (keep remains os))
still_remain n rs [] = refl
still_remain n rs (a ∷ os) = go (remains a) refl (still_remain n rs os)
  where
    go : (c : Bool) → remains a ≡ c → keep remains (map (taken n rs) os) ≡ keep remains (map (taken n rs) (keep remains os))
        → keep remains (taken n rs a ∷ map (taken n rs) os) ≡ keep remains (map (taken n rs) (cond c (a ∷ keep remains os) (keep remains os)))
    go true e ih = ap (λ (l : List Amounts). cond (remains (taken n rs a)) (taken n rs a ∷ l) l) ih
    go false e ih = rw (taken_empty n rs a e) ih

-- rows of a take, on amounts with one part each
rows-less : (pre l ps : List ℕ) (p w s y price : ℕ) → length pre ≡ p → length l ≡ length ps → amounts_less (take_rows_from p w s y price ps) (pre ++ l) ≡ pre
    ++ less_each l ps
unfolding amounts_less take_rows_from less_each
rows-less pre [] [] p w s y price e h = refl
rows-less pre [] (x ∷ ps) p w s y price e h = absurd (omega arith)
rows-less pre (a ∷ l) [] p w s y price e h = absurd (omega arith)
rows-less pre (a ∷ l) (x ∷ ps) p w s y price e h = go (eqb x 0) refl (rows-less (pre
    ++ ((a - x) ∷ [])) l ps (suc p) w s y price (length-append pre ((a - x) ∷ []) ∙ omega arith) (omega arith))
  where
    row : Row
    row = record { way = w; period = p; seller = s; buyer = y; quantity = x; price = price }

    rest : List Row
    rest = take_rows_from (suc p) w s y price ps

    joined : amounts_less rest ((pre ++ ((a - x) ∷ [])) ++ l) ≡ (pre ++ ((a - x) ∷ [])) ++ less_each l ps → amounts_less rest (pre ++ ((a - x) ∷ l)) ≡ pre
        ++ ((a - x) ∷ less_each l ps)
    joined ih = ap (amounts_less rest) (sym (append_assoc pre ((a - x) ∷ []) l)) ∙ ih ∙ append_assoc pre ((a - x) ∷ []) (less_each l ps)

    go : (c : Bool) → eqb x 0 ≡ c → amounts_less rest ((pre ++ ((a - x) ∷ [])) ++ l) ≡ (pre ++ ((a - x) ∷ [])) ++ less_each l ps
        → amounts_less (cond c rest (row ∷ rest)) (pre ++ (a ∷ l)) ≡ pre ++ ((a - x) ∷ less_each l ps)
    go true f ih =
        let z : x ≡ 0 = eqb-true x 0 f in
        let m : a ≡ a - x = omega arith in
        ap (λ (k : ℕ). amounts_less rest (pre ++ (k ∷ l))) m ∙ joined ih
    go false f ih =
        ap (λ (k : ℕ). amounts_less rest (set (pre ++ (a ∷ l)) p (k - x))) (get_or_at pre a l 0 p e)
        ∙ ap (amounts_less rest) (set_at pre a l (a - x) p e)
        ∙ joined ih

-- the offers of a book
module _ (n : ℕ) (rs : List Row) (ps : List ℕ) (less : (l : List ℕ) → length l ≡ length ps → amounts_less rs l ≡ less_each l ps) where
  others : (os : List OpenOffer) → every (ltb n) (map (λ (o : OpenOffer). o.number) os) ≡ true → Each (λ o. remains (amounts_of o) ≡ true) os
      → keep remains (map (taken n rs) (map amounts_of os)) ≡ map amounts_of os
  others [] e r = refl
  others (o ∷ os) e r =
      let l = ltb-true n o.number (and_left (ltb n o.number) (every (ltb n) (map (λ (o : OpenOffer). o.number) os)) e) in
      let ih = others os (and_right (ltb n o.number) (every (ltb n) (map (λ (o : OpenOffer). o.number) os)) e) r.1 in
      rw (ne_eqb o.number n (omega arith), r.0) (ap (λ (x : List Amounts). amounts_of o ∷ x) ih)

  offers_less_lem : (os : List OpenOffer) → rising (map (λ (o : OpenOffer). o.number) os) ≡ true → Each (λ o. remains (amounts_of o) ≡ true) os
      → Each (λ o. length o.amounts ≡ length ps) os
      → keep remains (map (taken n rs) (map amounts_of os)) ≡ map amounts_of (offers_less n ps os)
  unfolding rising offers_less
  offers_less_lem [] e r k = refl
  offers_less_lem (o ∷ os) e r k = go (eqb o.number n) refl (offers_less_lem os (and_right fore (rising ns) e) r.1 k.1)
    where
      ns : List ℕ
      ns = map (λ (o : OpenOffer). o.number) os

      fore : Bool
      fore = every (ltb o.number) ns

      behind : eqb o.number n ≡ true → keep remains (map (taken n rs) (map amounts_of os)) ≡ map amounts_of os
      behind c =
          let q : o.number ≡ n = eqb-true o.number n c in
          let f : every (ltb o.number) ns ≡ true = and_left fore (rising ns) e in
          others os (rw q at f) r.1

      here : (d : Bool) → eqb (total (less_each o.amounts ps)) 0 ≡ d → eqb o.number n ≡ true
          → keep remains (less_rows rs (amounts_of o) ∷ map (taken n rs) (map amounts_of os)) ≡ map amounts_of (cond d os (offer_less o ps ∷ os))
      here true f c = rw (less o.amounts k.0, f) (behind c)
      here false f c = rw (less o.amounts k.0, f) (ap (λ (x : List Amounts). amounts_of (offer_less o ps) ∷ x) (behind c))

      go : (c : Bool) → eqb o.number n ≡ c → keep remains (map (taken n rs) (map amounts_of os)) ≡ map amounts_of (offers_less n ps os)
          → keep remains (cond c (less_rows rs (amounts_of o)) (amounts_of o) ∷ map (taken n rs) (map amounts_of os))
          ≡ map amounts_of (cond c (cond (eqb (total (less_each o.amounts ps)) 0) os (offer_less o ps ∷ os)) (o ∷ offers_less n ps os))
      go true c ih = here (eqb (total (less_each o.amounts ps)) 0) refl c
      go false c ih = rw r.0 (ap (λ (x : List Amounts). amounts_of o ∷ x) ih)

-- the rows name the offer's unit and the taker
from_parties : (n p w s y price : ℕ) (ps : List ℕ) → In 1 n s → In 1 n y → Each (Parties n) (take_rows_from p w s y price ps)
unfolding take_rows_from
from_parties n p w s y price [] h k = tt
from_parties n p w s y price (x ∷ ps) h k =
    let ih = from_parties n (suc p) w s y price ps h k in
    cond_case (λ (rs : List Row). Each (Parties n) rs) (eqb x 0) _ _ (λ e. ih) (λ e. ((h, k), ih))

take_parties : (n : ℕ) (b : Book) (o : OpenOffer) (u : ℕ) (ps : List ℕ) → In 1 n o.unit → In 1 n u → Each (Parties n) (take_rows b o u ps)
unfolding take_rows
take_parties n b o u ps h k =
    cond_case (λ (rs : List Row). Each (Parties n) rs) (generator (unit_of b o.unit).kind) _ _
    (λ e. from_parties n 0 (way_of o) o.unit u o.price ps h k)
    (λ e. from_parties n 0 (way_of o) u o.unit o.price ps k h)

take_less : (b : Book) (o : OpenOffer) (u : ℕ) (ps l : List ℕ) → length l ≡ length ps → amounts_less (take_rows b o u ps) l ≡ less_each l ps
unfolding take_rows
take_less b o u ps l h =
    cond_case (λ (rs : List Row). amounts_less rs l ≡ less_each l ps) (generator (unit_of b o.unit).kind) _ _
    (λ e. rows-less [] l ps 0 (way_of o) o.unit u o.price refl h)
    (λ e. rows-less [] l ps 0 (way_of o) u o.unit o.price refl h)

module _ (t : Tally) (b : Book) (a : Agree t b) (w : Standing b) where
  something_left : Each (λ (o : OpenOffer). remains (amounts_of o) ≡ true) b.offers
  something_left = each_unmap (λ x. remains x ≡ true) amounts_of b.offers (rw a.offers at (kept remains t.offers))

  pub agree_take : (unit number quantity lent : ℕ) → (outcome b (call_take unit number quantity lent)).refusal ≡ 0
      → AgreeAfter t b (call_take unit number quantity lent)
  unfolding taking take_refusal accounted
  agree_take unit number quantity lent e =
      let ps = taken_parts b number quantity in
      let of = offer_of b number in
      let rs = take_rows b of unit ps in
      let o = accepted 0 rs (rows_booked rs (with_offers b (offers_less number ps b.offers))) in
      let d = decided_is (take_refusal b unit number quantity lent) b o e in
      let c = none_applies _ (omega arith) d.0 in
      let hu : In 1 (length b.units) unit = within 1 (length b.units) unit (not-false _ c.1.0) in
      let some : 0 < length (offers_of b number) = ltb-true _ _ (not-false _ c.1.1.1.1.0) in
      let st : OfferRanges b of = each_at (OfferRanges b) (offers_of b number) 0 no_offer
      (each_keep (OfferRanges b) (λ o. eqb o.number number) b.offers w.offers) some in
      let lp : length ps ≡ periods b.rules.days = parts-length quantity of.amounts ∙ st.amounts in
      let f : keep remains (take_tallied number rs t.offers) ≡ map amounts_of (offers_less number ps b.offers) =
      ap (keep remains) (take_tallied_lem number rs t.offers)
      ∙ still_remain number rs t.offers
      ∙ ap (λ (l : List Amounts). keep remains (map (taken number rs) l)) a.offers
      ∙ offers_less_lem number rs ps (take_less b of unit ps) b.offers w.offers_rise something_left
      (each_map (OfferRanges b) (λ o. length o.amounts ≡ length ps) b.offers (λ o s. s.amounts ∙ sym lp) w.offers) in
      accepted_agree t b (call_take unit number quantity lent) o d.1 refl
      (agree_changed t b a w rs (take_tallied number rs t.offers) (offers_less number ps b.offers) t.orders b.orders
      (take_parties (length b.units) b of unit ps st.unit hu) f a.orders)
