-- From a take by place to the take of a number: what its effect promises.
use Rattle.std.proofs.Common.{◌≡◌, ℕ, ◌+◌, ◌*◌, ◌<◌, ◌≤◌, true, not, eqb, List, ◌++◌, length, get_or, take, drop, set, refl}
use Rattle.std.proofs.Common.{sym, ap, ◌∙◌, subst, arith, take_at, ltb-false, eqb-true}
use native.Mathlib.Decide.{dec_lt}
use lib.ListN.{get_or-append}
use Rattle.measures.specs.Lists.{keep, table}
use Rattle.measures.specs.Sharing.{total, parts, less_each}
use Rattle.measures.proofs.SharingLaws.{parts-length, no-part_exceeds, within_at}
use Rattle.measures.proofs.LessLaws.{less-parts}
use Rattle.measures.proofs.ListLaws.{table-length, table_at}
use Rattle.measures.proofs.RangeLaws.{In}
use Rattle.limits.specs.Units.{periods}
use Rattle.matching.specs.Orders.{Row}
use Rattle.matching.specs.Memory.{written}
use Rattle.book.specs.Book.{OpenOffer, no_offer, offer_of, with_offers}
use Rattle.book.specs.Trades.{rows_booked}
use Rattle.book.specs.Take.{taken_parts, take_checks, take_refusal, take_rows, offer_less, offers_less}
use Rattle.book.specs.Refusals.{first_refusal}
use Rattle.book.specs.Layout.{DAYS, UNITS, LAYOUT, offer_place, UNIT, amount_place, word, amount_at, offer_at, decode, Aside}
use Rattle.book.specs.Contract.{sound_in}
use Rattle.book.specs.Inner.Readable.{Readable}
use Rattle.book.specs.Inner.Search.{OfferHas}
use Rattle.book.specs.Inner.RowsIn.{Small, RowsFit, small_figures, RowsTraded, parts_at, AmountsLeft, PartsThere, OfferLessened}
use Rattle.book.specs.Inner.RowsIn.{RowsPut, PartsLent, TakeMade}
use Rattle.book.proofs.Laws.Memory.RangeFacts.{units_held, offers_held, offer_at_lem}
use Rattle.book.proofs.Laws.Answer.RefusalLaws.{none_applies}
use Rattle.book.proofs.Laws.Sound.SoundLaws.{sound_facts}
use Rattle.book.proofs.Laws.Answer.MadeLaws.{sound-book, sound_readable, chain_sound}
use Rattle.book.proofs.Laws.Memory.KeptLaws.{number_apart}
use Rattle.book.proofs.Laws.Memory.WordLaws.{aside_by}
use Rattle.book.proofs.Laws.Cancel.CancelLaws.{sound_rises}
use Rattle.book.proofs.Laws.Take.EnterLaws.{rows-asks, parts_first}
use Rattle.book.proofs.Laws.Take.FoundLaws.{unmet_before, met_there, found_offer}
use Rattle.book.proofs.Laws.Take.TakenLaws.{less_stays, less_goes, less-few}
use Rattle.book.proofs.Laws.Take.TakingLaws.{TakePassed, take_passed}
use Rattle.book.proofs.Laws.Take.EnteredLaws.{enter_asks, entered, entered_aside}

pub left_some : (rs : List ℕ) (q : ℕ) → 1 ≤ q → q < total rs → total (less_each rs (parts q rs)) ≡ 0 → ⊥
left_some rs q some less z = omega (arith, less-parts q rs (omega arith) (omega arith))

left_none : (rs : List ℕ) (q : ℕ) → 1 ≤ q → q ≡ total rs → total (less_each rs (parts q rs)) ≡ 0
left_none rs q some all = omega (arith, less-parts q rs (omega arith) (omega arith))

module _ (m : List ℕ) (n q j : ℕ) (f : OfferHas m n j) where
  amounts_are : taken_parts (decode m) n q ≡ parts q (table (periods (word m DAYS)) (amount_at m j))
  amounts_are = ap (λ (o : OpenOffer). parts q o.amounts) (found_offer m n j f).0

  taken_long : length (taken_parts (decode m) n q) ≡ 24 * word m DAYS
  taken_long = ap (λ (t : List ℕ). length t) amounts_are ∙ parts-length q (table (periods (word m DAYS)) (amount_at m j))
      ∙ table-length (periods (word m DAYS)) (amount_at m j)

  -- the parts as the checks leave them
  module _ (z l : List ℕ) (e : l ≡ taken_parts (decode m) n q ++ drop (periods (word m DAYS)) z) where
    pub parts-taken : take (24 * word m DAYS) l ≡ taken_parts (decode m) n q
    parts-taken = ap (λ (t : List ℕ). take (24 * word m DAYS) t) e
        ∙ take_at (taken_parts (decode m) n q) (drop (periods (word m DAYS)) z) (24 * word m DAYS) taken_long

    parts_there : 1 ≤ q → q ≤ total (table (periods (word m DAYS)) (amount_at m j)) → PartsThere m j l
    parts_there some most p k =
        let a : get_or l p 0 ≡ get_or (taken_parts (decode m) n q) p 0 =
        ap (λ (t : List ℕ). get_or t p 0) e ∙ get_or-append (taken_parts (decode m) n q) (drop (periods (word m DAYS)) z) 0 p (omega (arith, taken_long)) in
        let b : get_or (taken_parts (decode m) n q) p 0 ≡ get_or (parts q (table (periods (word m DAYS)) (amount_at m j))) p 0 = ap (λ (t : List ℕ). get_or t p 0)
        amounts_are in
        let c = within_at (parts q (table (periods (word m DAYS)) (amount_at m j))) (table (periods (word m DAYS)) (amount_at m j))
        p (no-part_exceeds q (table (periods (word m DAYS)) (amount_at m j)) (omega arith) most) in
        let d = table_at (periods (word m DAYS)) (amount_at m j) p 0 k in
        omega arith

    rows_are : (u : ℕ) → take_rows (decode m) (offer_at m (word m DAYS) j) u (take (24 * word m DAYS) l)
        ≡ take_rows (decode m) (offer_of (decode m) n) u (taken_parts (decode m) n q)
    rows_are u =
        ap (λ (s : List ℕ). take_rows (decode m) (offer_at m (word m DAYS) j) u s) parts-taken
        ∙ ap (λ (o : OpenOffer). take_rows (decode m) o u (taken_parts (decode m) n q)) (sym (found_offer m n j f).0)

    -- the offer as the definition leaves it: with less, or gone
    left_of : total (less_each (get_or (decode m).offers j no_offer).amounts (taken_parts (decode m) n q))
        ≡ total (less_each (table (periods (word m DAYS)) (amount_at m j)) (parts q (table (periods (word m DAYS)) (amount_at m j))))
    left_of =
        ap (λ (o : OpenOffer). total (less_each o.amounts (taken_parts (decode m) n q))) (offer_at_lem m j f.there)
        ∙ ap (λ (ps : List ℕ). total (less_each (table (periods (word m DAYS)) (amount_at m j)) ps)) amounts_are

    less_are : 1 ≤ q → q < total (table (periods (word m DAYS)) (amount_at m j))
        → set (decode m).offers j (offer_less (offer_at m (word m DAYS) j) (take (24 * word m DAYS) l))
        ≡ offers_less n (taken_parts (decode m) n q) (decode m).offers
    less_are some less =
        let hj = f.there in
        ap (λ (s : List ℕ). set (decode m).offers j (offer_less (offer_at m (word m DAYS) j) s)) parts-taken
        ∙ ap (λ (o : OpenOffer). set (decode m).offers j (offer_less o (taken_parts (decode m) n q))) (sym (offer_at_lem m j hj))
        ∙ sym (less_stays n (taken_parts (decode m) n q) (decode m).offers j (omega (arith, offers_held m)) (met_there m n j f) (unmet_before m n j f)
        (λ y. left_some (table (periods (word m DAYS)) (amount_at m j)) q some less (sym left_of ∙ y)))

    gone_are : sound_in m ≡ true → 1 ≤ q → q ≡ total (table (periods (word m DAYS)) (amount_at m j))
        → keep (λ (o : OpenOffer). not (eqb o.number n)) (decode m).offers ≡ offers_less n (taken_parts (decode m) n q) (decode m).offers
    gone_are s some all =
        let hj = f.there in
        sym (less_goes n (taken_parts (decode m) n q) (decode m).offers j (omega (arith, offers_held m)) (met_there m n j f)
        (number_apart (λ (o : OpenOffer). o.number) (decode m).offers no_offer refl (sound_rises m s).0 n j (omega (arith, offers_held m))
        (eqb-true _ _ (met_there m n j f)))
        (left_of ∙ left_none (table (periods (word m DAYS)) (amount_at m j)) q some all))

-- what a passed take asks of its effect
module _ (m : List ℕ) (u n q lent : ℕ) (s : sound_in m ≡ true) (e : 0 ≡ first_refusal (take_checks (decode m) u n q lent)) where
  passed : TakePassed (decode m) u n q
  unfolding take_refusal
  passed = take_passed (decode m) u n q lent (sound_facts (decode m) (sound-book m s))
      (chain_sound (decode m) (take_checks (decode m) u n q lent) (sound-book m s) ∙ sym e)

  lent_enough : 4464 ≤ lent
  lent_enough =
      let t = none_applies (take_checks (decode m) u n q lent)
      (omega arith, (omega arith, (omega arith, (omega arith, (omega arith, (omega arith, (omega arith, (omega arith, tt)))))))) (sym e) in
      ltb-false lent 4464 t.1.0

  take_some : 1 ≤ q
  take_some = passed.some

  module _ (j : ℕ) (f : OfferHas m n j) where
    take-most : q ≤ total (table (periods (word m DAYS)) (amount_at m j))
    take-most = let a = passed.enough in let b = ap (λ (o : OpenOffer). total o.amounts) (found_offer m n j f).0 in omega arith

    taker : In 1 (word m UNITS) u
    taker = let t = passed.taker in let c = units_held m in (omega arith, omega arith)

    -- the take by parts that are lent
    module _ (l : List ℕ) (room : 744 ≤ length l) (p : PartsLent m n q l) where
      there : PartsThere m j l
      there = parts_there m n q j f p.behind l p.parts take_some take-most

      abbrev rs : List Row
      rs = take_rows (decode m) (offer_at m (word m DAYS) j) u (take (24 * word m DAYS) l)

      pub rows_asks : (rows : List ℕ) → lent ≡ length rows
          → (j < 8) × (1 ≤ word m (offer_place j + UNIT)) × (word m (offer_place j + UNIT) ≤ word m UNITS) × (744 ≤ length l) × (4464 ≤ length rows)
      rows_asks rows e = rows-asks m u j l s f.there taker room there rows (omega (arith, lent_enough))

      -- what the offer becomes: all of it goes, or it stays with less
      abbrev Gone : ℕ → List ℕ → Type 0
      Gone w x = w ≤ q → (decode x ≡ with_offers (decode m) (keep (λ (o : OpenOffer). not (eqb o.number n)) (decode m).offers)) × (Aside m x)

      abbrev Less : ℕ → List ℕ → Type 0
      Less w x = q < w → (ps : List ℕ) → ((i : ℕ) → i < 24 * word m DAYS → get_or l i 0 ≡ get_or ps i 0) → OfferLessened m x j ps

      abbrev left : List OpenOffer
      left = offers_less n (taken_parts (decode m) n q) (decode m).offers

      -- what the offers come to, and what the take leaves in its place
      module _ (x : List ℕ) (w : ℕ) (hw : w ≡ total (table (periods (word m DAYS)) (amount_at m j))) (g : Gone w x) (h : Less w x) where
        less_by : q < w → OfferLessened m x j (take (24 * word m DAYS) l)
        less_by z = h z (take (24 * word m DAYS) l) (parts_first m u j l s f.there taker room there)

        offers_left : (decode x ≡ with_offers (decode m) left) × (Aside m x)
        offers_left = go (dec_lt q w)
          where
            go : Dec (q < w) → (decode x ≡ with_offers (decode m) left) × (Aside m x)
            go (no z) = let t = g (omega arith) in (
              t.0 ∙ ap (with_offers (decode m)) (gone_are m n q j f p.behind l p.parts s take_some (omega (arith, take-most))),
              t.1,
            )
            go (yes z) = let t = less_by z in (
              t.book ∙ ap (with_offers (decode m)) (less_are m n q j f p.behind l p.parts take_some (omega arith)),
              aside_by x m t.long (t.head LAYOUT (omega arith)) (λ i k. t.figures i (omega arith)),
            )

        amounts_left : q < total (table (periods (word m DAYS)) (amount_at m j)) → (y out : List ℕ) (k : ℕ) → RowsTraded x y out k
            → AmountsLeft m y j (parts_at m j q)
        unfolding parts_at
        amounts_left z y out k t =
            let a = (less_by (omega arith)).left in
            subst (AmountsLeft m y j) (parts-taken m n q j f p.behind l p.parts ∙ amounts_are m n q j f)
            (record {
              own = λ i k. t.kept.head (amount_place j i) (omega (arith, sound_readable m s)) ∙ a.own i k;
              others = λ i k v o. t.kept.head i k ∙ a.others i k v o;
            })

        module _ (lx : length x ≡ length m) (rows out : List ℕ) (k : ℕ) (r : RowsPut rows out k rs) where
          pub booking_asks : lent ≡ length rows → (Readable x) × (6 * k ≤ length out) × (k ≤ 744) × (RowsFit x out k) × (Small x small_figures)
          booking_asks y = enter_asks m u j l s f.there taker room there x left offers_left.0 (less-few n _ _) lx rows out k r (omega (arith, lent_enough))

          pub take_made : (y : List ℕ) → RowsTraded x y out k → TakeMade m y u n q rows out k
          take_made y t =
              let is = rows_are m n q j f p.behind l p.parts u in
              record {
                book = entered m u j l s f.there taker room there x left offers_left.0 (less-few n _ _) lx y rows out k r t
                    ∙ ap (λ (z : List Row). rows_booked z (with_offers (decode m) left)) is;
                rows = record { count = r.count ∙ ap (λ (z : List Row). length z) is; rows = r.rows ∙ ap (λ (z : List Row). written rows z) is };
                aside = entered_aside m u j l s f.there taker room there x left offers_left.0 (less-few n _ _) lx y out k offers_left.1 t;
                place = j;
                found = f;
                left = λ z. amounts_left z y out k t;
              }
