-- Tally and book agree after the calls that make no rows: enrol, offer, withdraw, cancel, close.
use Prim.Native.Nat.{ℕ, ◌+◌, ◌-◌, ◌≤◌, ◌<◌}
use mathlib.Core.Path.{◌≡◌, refl, sym, ap, ap₂, ◌∙◌}
use mathlib.Core.Bool.{Bool, true, false, cond, not, ◌&&◌}
use mathlib.Core.List.{List, [], ◌∷◌, ◌++◌, map, append-nil}
use native.Mathlib.Omega.{arith}
use native.Mathlib.Decide.{dec_lt}
use borrow.Author.Tests.{ne_eqb, not-false}
use lib.ListN.{length, length-append, length-map, get_or-append, get_or-map, get_or-replicate}
use lib.Seq.{get_or_at}
use lib.Dec.{eqb}
use Rattle.measures.specs.Ranges.{most_energy}
use Rattle.measures.specs.Lists.{Each, keep}
use Rattle.measures.specs.Sharing.{total}
use Rattle.measures.proofs.RangeLaws.{In, within}
use Rattle.measures.proofs.ListLaws.{and_right, keep_append}
use Rattle.limits.specs.Units.{periods, generator}
use Rattle.matching.specs.Orders.{Order as OpenOrder, Row}
use Rattle.matching.proofs.Laws.Lists.EachLaws.{each_map}
use Rattle.matching.proofs.Laws.Lists.SumLaws.{sum_of-zero}
use Rattle.book.specs.Book.{Figures, no_figures, EnrolledUnit, no_unit, OpenOffer, Book, unit_of, figures_of, with_units, with_offers, with_orders, no_trades, next_number}
use Rattle.book.specs.Trades.{rows_booked}
use Rattle.book.specs.Sound.{energy_in}
use Rattle.book.specs.Refusals.{first_refusal, accepted, unsound}
use Rattle.book.specs.Enrol.{enrol_refusal, enrolment}
use Rattle.book.specs.Enrol.{enrolled as with_unit}
use Rattle.book.specs.Offer.{offer_refusal, offered, offering}
use Rattle.book.specs.Withdraw.{withdraw_refusal, withdrawal}
use Rattle.book.specs.Cancel.{cancel_refusal, cancellation}
use Rattle.book.specs.Close.{day_over, unit_day_over, day_closed, closing}
use Rattle.book.specs.Calls.{call_enrol, call_offer, call_withdraw, call_cancel, call_close, outcome}
use Rattle.demands.specs.Tally.{Member, Amounts, Tally, accounted}
use Rattle.demands.proofs.Laws.Tally.AgreeLaws.{member, amounts_of, remains, sold_in, bought_in, Figured, AllFigured, Parties, Agree}
use Rattle.demands.proofs.Laws.Tally.StandingLaws.{Standing}
use Rattle.demands.proofs.Laws.Tally.MapLaws.{map_join, keep-keep, keep-map}
use Rattle.book.proofs.Laws.Answer.RefusalLaws.{none_applies}
use Rattle.demands.proofs.Laws.Tally.AcceptedLaws.{AgreeAfter, decided_is, accepted_agree, agree_head, agree_changed}

-- a unit that no row names has traded nothing
figured_none : (kind s d : ℕ) → s ≡ 0 → d ≡ 0 → Figured kind s d no_figures
figured_none kind s d e f = record { net = go (generator kind); volume = omega arith }
  where
    go : (g : Bool) → 0 + 0 + cond g d s ≡ cond g s d + 0
    go true = omega arith
    go false = omega arith

module _ (b : Book) (x : EnrolledUnit) where
  abbrev joined : Book
  joined = with_units b (b.units ++ (x ∷ []))

  joined-count : length joined.units ≡ length b.units + 1
  joined-count = length-append b.units (x ∷ [])

  more_parties : (r : Row) → Parties (length b.units) r → Parties (length joined.units) r
  more_parties r h = rw joined-count ((omega arith, omega arith), (omega arith, omega arith))

  unnamed : (party : Row → ℕ) (u p : ℕ) (r : Row) → length b.units < u → party r ≤ length b.units
      → cond (eqb (party r) u && eqb r.period p) r.quantity 0 ≡ 0
  unnamed party u p r l h = rw (ne_eqb (party r) u (omega arith))

  joined_figured : (rs : List Row) → x.figures ≡ no_trades b.rules.days → Each (Parties (length b.units)) rs → AllFigured rs b → AllFigured rs joined
  joined_figured rs e h a u p hu l = go (dec_lt (length b.units) u)
    where
      top : u ≤ length b.units + 1
      top = rw joined-count at hu.1

      go : Dec (length b.units < u) → Figured (unit_of joined u).kind (sold_in rs u p) (bought_in rs u p) (figures_of joined u p)
      go (yes k) =
          let i : length b.units ≡ u - 1 = omega (arith, top) in
          rw (get_or_at b.units x [] no_unit (u - 1) i, e, get_or-replicate (periods b.rules.days) p no_figures no_figures l)
          (figured_none x.kind (sold_in rs u p) (bought_in rs u p)
          (sum_of-zero _ rs (each_map _ _ rs (λ r g. unnamed (λ r. r.seller) u p r k g.0.1) h))
          (sum_of-zero _ rs (each_map _ _ rs (λ r g. unnamed (λ r. r.buyer) u p r k g.1.1) h)))
      go (no k) =
          let lo = hu.0 in
          rw (get_or-append b.units (x ∷ []) no_unit (u - 1) (omega arith)) (a u p (lo, omega arith) l)

-- offers of which something is left, and those of other numbers
not-zero : (n : ℕ) → 1 ≤ n → not (eqb n 0) ≡ true
not-zero n h = rw (ne_eqb n 0 (omega arith))

kept_one : (x : Amounts) → remains x ≡ true → keep remains (x ∷ []) ≡ x ∷ []
kept_one x e = rw e

right_amounts : (b : Book) (amounts : List ℕ) → (eqb (length amounts) (periods b.rules.days) && energy_in (total amounts)) ≡ true → 1 ≤ total amounts
right_amounts b amounts e = (within 1 most_energy (total amounts) (and_right (eqb (length amounts) (periods b.rules.days)) (energy_in (total amounts)) e)).0

-- "held becomes net"
over : (kind s d : ℕ) (f : Figures) → f.lowered ≤ f.held → Figured kind s d f → Figured kind s d (day_over f)
over kind s d f l x = let n = x.net in record { net = omega arith; volume = x.volume }

map_over : (us : List EnrolledUnit) → map member (map unit_day_over us) ≡ map member us
map_over [] = refl
map_over (u ∷ us) = ap (λ (l : List Member). member u ∷ l) (map_over us)

module _ (t : Tally) (b : Book) (a : Agree t b) (w : Standing b) where
  pub agree_enrol : (kind capacity asset : ℕ) → (outcome b (call_enrol kind capacity asset)).refusal ≡ 0 → AgreeAfter t b (call_enrol kind capacity asset)
  unfolding enrolment accounted
  agree_enrol kind capacity asset e =
      let after = with_unit b kind capacity asset in
      let x : EnrolledUnit = record { kind = kind; capacity = capacity; asset = asset; figures = no_trades b.rules.days } in
      let d = decided_is (enrol_refusal b kind capacity asset) b (accepted (length after.units) [] after) e in
      accepted_agree t b (call_enrol kind capacity asset) (accepted (length after.units) [] after) d.1 refl
      (record {
        days = a.days;
        units = rw a.units (sym (map_join member b.units (x ∷ [])));
        offers = a.offers;
        orders = a.orders;
        parties = rw (append-nil t.rows) (each_map _ _ t.rows (more_parties b x) a.parties);
        figures = rw (append-nil t.rows) (joined_figured b x t.rows refl a.parties a.figures);
      })

  pub agree_offer : (unit partner price : ℕ) (amounts : List ℕ) → (outcome b (call_offer unit partner price amounts)).refusal ≡ 0
      → AgreeAfter t b (call_offer unit partner price amounts)
  unfolding offering offer_refusal accounted rows_booked
  agree_offer unit partner price amounts e =
      let o = accepted (next_number b) [] (offered b unit partner price amounts) in
      let x : OpenOffer = record { number = next_number b; unit = unit; partner = partner; price = price; taken = 0; amounts = amounts } in
      let d = decided_is (offer_refusal b unit partner price amounts) b o e in
      let c = none_applies _ (omega arith) d.0 in
      let q = right_amounts b amounts (not-false _ c.1.1.1.1.0) in
      let f : keep remains (t.offers ++ (amounts_of x ∷ [])) ≡ map amounts_of (b.offers ++ (x ∷ [])) =
      keep_append remains t.offers (amounts_of x ∷ [])
      ∙ ap₂ (λ (l m : List Amounts). l ++ m) a.offers (kept_one (amounts_of x) (not-zero (total amounts) q))
      ∙ sym (map_join amounts_of b.offers (x ∷ [])) in
      accepted_agree t b (call_offer unit partner price amounts) o d.1 refl
      (agree_head _ _ (agree_changed t b a w [] (t.offers ++ (amounts_of x ∷ [])) (b.offers ++ (x ∷ [])) t.orders b.orders tt f a.orders)
      b.phase (next_number b))

  pub agree_withdraw : (unit number : ℕ) → (outcome b (call_withdraw unit number)).refusal ≡ 0 → AgreeAfter t b (call_withdraw unit number)
  unfolding withdrawal accounted rows_booked
  agree_withdraw unit number e =
      let os = keep (λ (o : OpenOffer). not (eqb o.number number)) b.offers in
      let o = accepted 0 [] (with_offers b os) in
      let d = decided_is (withdraw_refusal b unit number) b o e in
      let f : keep remains (keep (λ (o : Amounts). not (eqb o.number number)) t.offers) ≡ map amounts_of os =
      keep-keep remains (λ (o : Amounts). not (eqb o.number number)) t.offers
      ∙ ap (keep (λ (o : Amounts). not (eqb o.number number))) a.offers
      ∙ keep-map (λ (o : Amounts). not (eqb o.number number)) amounts_of b.offers in
      accepted_agree t b (call_withdraw unit number) o d.1 refl
      (agree_changed t b a w [] (keep (λ (o : Amounts). not (eqb o.number number)) t.offers) os t.orders b.orders tt f a.orders)

  pub agree_cancel : (unit number : ℕ) → (outcome b (call_cancel unit number)).refusal ≡ 0 → AgreeAfter t b (call_cancel unit number)
  unfolding cancellation accounted rows_booked
  agree_cancel unit number e =
      let f : OpenOrder → Bool = λ o. not (eqb o.number number) in
      let o = accepted 0 [] (with_orders b (keep f b.orders)) in
      let d = decided_is (cancel_refusal b unit number) b o e in
      accepted_agree t b (call_cancel unit number) o d.1 refl
      (agree_changed t b a w [] t.offers b.offers (keep f t.orders) (keep f b.orders) tt a.offers (ap (keep f) a.orders))

  closed_figured : AllFigured t.rows (day_closed b)
  closed_figured u p hu l =
      let h : In 1 (length b.units) u = rw (length-map b.units unit_day_over) at hu in
      let k = (w.fits u h).lowering p l in
      rw (get_or-map unit_day_over b.units (u - 1) no_unit)
      (rw (get_or-map day_over (unit_of b u).figures p no_figures)
      (over (unit_of b u).kind (sold_in t.rows u p) (bought_in t.rows u p) (figures_of b u p) (omega arith) (a.figures u p h l)))

  pub agree_close : (outcome b call_close).refusal ≡ 0 → AgreeAfter t b call_close
  unfolding closing accounted
  agree_close e =
      let d = decided_is (first_refusal (unsound b ∷ [])) b (accepted 0 [] (day_closed b)) e in
      accepted_agree t b call_close (accepted 0 [] (day_closed b)) d.1 refl
      (record {
        days = a.days;
        units = a.units ∙ sym (map_over b.units);
        offers = refl;
        orders = refl;
        parties = rw (append-nil t.rows, length-map b.units unit_day_over) a.parties;
        figures = rw (append-nil t.rows) closed_figured;
      })
