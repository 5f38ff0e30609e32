-- Opening, enrol, withdraw, cancel and close leave a sound book.
use Prim.Native.Nat.{ℕ, ◌+◌, ◌-◌, ◌≤◌, ◌<◌}
use mathlib.Core.Path.{◌≡◌, refl, ap, ◌∙◌}
use mathlib.Core.Bool.{true, not, ◌&&◌}
use mathlib.Core.List.{List, [], ◌∷◌, map}
use native.Mathlib.Omega.{arith}
use native.Mathlib.Decide.{dec_le}
use lib.ListN.{length, get_or, length-append, length-replicate, get_or-replicate, get_or-append, length-map, get_or-map}
use lib.Seq.{get_or_at}
use lib.Dec.{eqb, leb}
use borrow.Author.Tests.{leb-true, leb-false, not-false}
use Rattle.measures.specs.Ranges.{most_price, most_energy}
use Rattle.measures.specs.Lists.{Each}
use Rattle.measures.proofs.RangeLaws.{In, within}
use Rattle.measures.proofs.ListLaws.{and_left, and_right}
use Rattle.limits.specs.Units.{most_days, most_capacity, days_in, periods, capacity_in, asset_in}
use Rattle.matching.specs.Orders.{Order as OpenOrder, rising}
use Rattle.matching.proofs.Laws.Orders.LeftLaws.{LessOrder, same_order}
use Rattle.book.specs.Book.{Rules, Figures, no_figures, EnrolledUnit, no_unit, OpenOffer, Book, most_units, unit_of, figures_of, with_offers, with_orders, no_trades}
use Rattle.book.specs.Fit.{open_orders, open_offers, open_raising, open_lowering, nothing}
use Rattle.book.specs.Sound.{prices_in, apart, each_two, sound}
use Rattle.book.specs.Refusals.{first_refusal, accepted, unsound, bad_opening, bad_kind, bad_size, units_full}
use Rattle.book.specs.Opening.{fresh, too_short, opening_refusal}
use Rattle.book.specs.Enrol.{enrol_refusal, enrolled, enrolment}
use Rattle.book.specs.Withdraw.{withdraw_refusal, withdrawal}
use Rattle.book.specs.Cancel.{cancel_refusal, cancellation}
use Rattle.book.specs.Close.{day_over, unit_day_over, day_closed, closing}
use Rattle.matching.proofs.Laws.Lists.EachLaws.{each_append}
use Rattle.matching.proofs.Laws.Lists.RemainLaws.{each_by, each_imp, Remains, remains-all, remains-keep}
use Rattle.book.proofs.Laws.Sound.FitLaws.{Fits, Moved, fits_after}
use Rattle.book.proofs.Laws.Sound.SoundLaws.{UnitRanges, OfferRanges, OrderRanges, Formed, Sound, sound_facts, sound-holds}
use Rattle.book.proofs.Laws.Answer.RefusalLaws.{NoneApplies, none_applies, decided-sound}
use Rattle.book.proofs.Laws.Sound.FormedLaws.{LessOffer, same_offer, Names, two_remain, Remaining, formed_remaining}
use Rattle.book.proofs.Laws.Sound.OpenLaws.{moved_remaining, idle_fits}

-- a book that opening makes
pub fresh-sound : (words : ℕ) (r : Rules) → opening_refusal words r ≡ 0 → sound (fresh r) ≡ true
unfolding opening_refusal rising each_two
fresh-sound words r e =
    let t = not-false _ (none_applies (too_short words r ∷ bad_opening r ∷ []) (omega arith) e).1.0 in
    let d = within 1 most_days r.days (and_left (days_in r.days) (prices_in r.floor r.ceiling) t) in
    let p = and_right (days_in r.days) (prices_in r.floor r.ceiling) t in
    sound-holds (fresh r) (record {
      formed = record {
        head = record {
          days = d;
          prices = leb-true _ _ (and_left (leb r.floor r.ceiling) (leb r.ceiling most_price) p);
          ceiling = leb-true _ _ (and_right (leb r.floor r.ceiling) (leb r.ceiling most_price) p);
          phase = omega arith;
          given = omega arith;
          units = omega arith;
          offers = omega arith;
          orders = omega arith;
        };
        units = tt;
        offers = tt;
        orders = tt;
        offers_rise = refl;
        orders_rise = refl;
        differ = refl;
        one_direction = refl;
        apart = λ h. refl;
      };
      fits = λ u i. absurd (omega arith);
    })

-- declarations that go or lessen leave a sound book
pub fewer_sound : (b : Book) (fs : List OpenOffer) (os : List OpenOrder) → Remains LessOffer fs b.offers → Remains LessOrder os b.orders → sound b
    ≡ true
    → sound (with_orders (with_offers b fs) os) ≡ true
fewer_sound b fs os p q e =
    sound-holds after (record {
      formed = formed_remaining b after left s.formed;
      fits = λ u i. fits_after b after u nothing (moved_remaining b after u refl refl p q) (s.fits u i);
    })
  where
    s : Sound b
    s = sound_facts b e

    after : Book
    after = with_orders (with_offers b fs) os

    left : Remaining b after
    left =
        let f = s.formed in
        record {
          names = record { days = refl; floor = refl; ceiling = refl; given = omega arith; count = omega arith; kinds = λ v i. refl };
          phase = f.head.phase;
          given = f.head.given;
          most = f.head.units;
          units = f.units;
          offers = p;
          orders = q;
          apart = λ r. two_remain apart (λ x y k l. refl) os b.orders q (f.apart r);
        }

module _ (b : Book) (u n : ℕ) (e : sound b ≡ true) where
  pub withdrawal-sound : sound (withdrawal b u n).book ≡ true
  unfolding withdrawal
  withdrawal-sound =
      decided-sound (withdraw_refusal b u n) b _ e
      (λ z. fewer_sound b _ b.orders (remains-keep LessOffer (λ o. not (eqb o.number n)) same_offer b.offers)
      (remains-all LessOrder same_order b.orders) e)

  pub cancellation-sound : sound (cancellation b u n).book ≡ true
  unfolding cancellation
  cancellation-sound =
      decided-sound (cancel_refusal b u n) b _ e
      (λ z. fewer_sound b b.offers _ (remains-all LessOffer same_offer b.offers)
      (remains-keep LessOrder (λ o. not (eqb o.number n)) same_order b.orders) e)

-- enrol: the other units stay, and the new one has nothing declared
module _ (b : Book) (kind capacity asset : ℕ) where
  abbrev newcomer : EnrolledUnit
  newcomer = record { kind = kind; capacity = capacity; asset = asset; figures = no_trades b.rules.days }

  one_more : length (enrolled b kind capacity asset).units ≡ length b.units + 1
  one_more = length-append b.units (newcomer ∷ [])

  others_stay : (u : ℕ) → In 1 (length b.units) u → unit_of (enrolled b kind capacity asset) u ≡ unit_of b u
  others_stay u i = get_or-append b.units (newcomer ∷ []) no_unit (u - 1) (omega arith)

  newcomer_ranges : In 1 4 kind → In 1 most_capacity capacity → asset ≤ most_energy → UnitRanges b.rules.days newcomer
  newcomer_ranges k c a =
      let l = length-replicate (periods b.rules.days) no_figures in
      record {
        kind = k;
        capacity = c;
        asset = a;
        figures = l;
        marks = each_by (λ (f : Figures). f.mark ≤ 3) (no_trades b.rules.days) no_figures
            (λ i h. rw (get_or-replicate (periods b.rules.days) i no_figures no_figures (rw l at h)) (omega arith));
      }

  newcomer_fits : Formed b → (u : ℕ) → u ≡ length b.units + 1 → Fits (enrolled b kind capacity asset) u nothing
  newcomer_fits f u e =
      idle_fits (enrolled b kind capacity asset) u figures
      (each_imp (OfferRanges b) (λ (o : OpenOffer). o.unit ≡ u → ⊥) (λ o r q. let i = r.unit in omega arith) b.offers f.offers)
      (each_imp (OrderRanges b) (λ (o : OpenOrder). o.unit ≡ u → ⊥) (λ o r q. let i = r.unit in omega arith) b.orders f.orders)
    where
      last : unit_of (enrolled b kind capacity asset) u ≡ newcomer
      last = get_or_at b.units newcomer [] no_unit (u - 1) (omega arith)

      figures : (p : ℕ) → p < periods b.rules.days → figures_of (enrolled b kind capacity asset) u p ≡ no_figures
      figures p h = ap (λ (x : EnrolledUnit). get_or x.figures p no_figures) last ∙ get_or-replicate (periods b.rules.days) p no_figures no_figures h

  pub enrolment-sound : sound b ≡ true → sound (enrolment b kind capacity asset).book ≡ true
  unfolding enrolment enrol_refusal
  enrolment-sound e = decided-sound (enrol_refusal b kind capacity asset) b _ e (λ z. sound-holds after (enrolled-sound z))
    where
      s : Sound b
      s = sound_facts b e

      after : Book
      after = enrolled b kind capacity asset

      names : Names b after
      names =
          record {
            days = refl;
            floor = refl;
            ceiling = refl;
            given = omega arith;
            count = omega (arith, one_more);
            kinds = λ u i. ap (λ (x : EnrolledUnit). x.kind) (others_stay u i);
          }

      enrolled-sound : enrol_refusal b kind capacity asset ≡ 0 → Sound after
      enrolled-sound z = record { formed = formed_remaining b after left s.formed; fits = λ u i. fit u i (dec_le u (length b.units)) }
        where
          passed : NoneApplies (unsound b ∷ bad_kind kind ∷ bad_size capacity asset ∷ units_full b ∷ [])
          passed = none_applies _ (omega arith) z

          sizes : (capacity_in capacity && asset_in asset) ≡ true
          sizes = not-false _ passed.1.1.0

          left : Remaining b after
          left =
              let f = s.formed in
              let room = leb-false most_units (length b.units) passed.1.1.1.0 in
              record {
                names = names;
                phase = f.head.phase;
                given = f.head.given;
                most = omega (arith, one_more);
                units =
                    each_append (UnitRanges b.rules.days) b.units (newcomer ∷ []) f.units (
                      newcomer_ranges (within 1 4 kind (not-false _ passed.1.0))
                          (within 1 most_capacity capacity (and_left (capacity_in capacity) (asset_in asset) sizes))
                          (leb-true _ _ (and_right (capacity_in capacity) (asset_in asset) sizes)),
                      tt,
                    );
                offers = remains-all LessOffer same_offer b.offers;
                orders = remains-all LessOrder same_order b.orders;
                apart = f.apart;
              }

          fit : (u : ℕ) → In 1 (length after.units) u → Dec (u ≤ length b.units) → Fits after u nothing
          fit u i (yes k) =
              fits_after b after u nothing (moved_remaining b after u refl (others_stay u (i.0, k)) (remains-all LessOffer same_offer b.offers)
              (remains-all LessOrder same_order b.orders))
              (s.fits u (i.0, k))
          fit u i (no k) = newcomer_fits s.formed u (omega (arith, one_more))

-- close: nothing is open, and what is held is the net
module _ (b : Book) where
  each_map : {A B : Type 0} (f : A → B) (P : A → Type 0) (Q : B → Type 0) → ((x : A) → P x → Q (f x)) → (l : List A) → Each P l → Each Q (map f l)
  each_map f P Q h [] e = tt
  each_map f P Q h (x ∷ l) e = (h x e.0, each_map f P Q h l e.1)

  unit_over : (u : ℕ) → unit_of (day_closed b) u ≡ unit_day_over (unit_of b u)
  unit_over u = get_or-map unit_day_over b.units (u - 1) no_unit

  figures_over : (u p : ℕ) → figures_of (day_closed b) u p ≡ day_over (figures_of b u p)
  figures_over u p = ap (λ (x : EnrolledUnit). get_or x.figures p no_figures) (unit_over u) ∙ get_or-map day_over (unit_of b u).figures p no_figures

  over_moved : (u : ℕ) → Moved b (day_closed b) u nothing
  unfolding open_raising open_lowering open_offers open_orders
  over_moved u =
      record {
        days = refl;
        kind = ap (λ (x : EnrolledUnit). x.kind) (unit_over u);
        capacity = ap (λ (x : EnrolledUnit). x.capacity) (unit_over u);
        asset = ap (λ (x : EnrolledUnit). x.asset) (unit_over u);
        raising = λ p h. omega (arith, ap (λ (f : Figures). f.held) (figures_over u p), ap (λ (f : Figures). f.raised) (figures_over u p));
        lowering = λ p h k. omega (arith, ap (λ (f : Figures). f.lowered) (figures_over u p));
        volume = λ p h. omega (arith, ap (λ (f : Figures). f.volume) (figures_over u p));
      }

  pub closing-sound : sound b ≡ true → sound (closing b).book ≡ true
  unfolding closing rising each_two
  closing-sound e = decided-sound (first_refusal (unsound b ∷ [])) b (accepted 0 [] (day_closed b)) e
      (λ z. sound-holds (day_closed b) (record { formed = formed; fits = fits }))
    where
      s : Sound b
      s = sound_facts b e

      over : (u : EnrolledUnit) → UnitRanges b.rules.days u → UnitRanges b.rules.days (unit_day_over u)
      over u r =
          record {
            kind = r.kind;
            capacity = r.capacity;
            asset = r.asset;
            figures = length-map u.figures day_over ∙ r.figures;
            marks = each_map day_over (λ (f : Figures). f.mark ≤ 3) (λ (f : Figures). f.mark ≤ 3) (λ f h. omega arith) u.figures r.marks;
          }

      formed : Formed (day_closed b)
      formed =
          let h = s.formed.head in
          record {
            head = record {
              days = h.days;
              prices = h.prices;
              ceiling = h.ceiling;
              phase = omega arith;
              given = omega arith;
              units = omega (arith, length-map b.units unit_day_over);
              offers = omega arith;
              orders = omega arith;
            };
            units = each_map unit_day_over (UnitRanges b.rules.days) (UnitRanges b.rules.days) over b.units s.formed.units;
            offers = tt;
            orders = tt;
            offers_rise = refl;
            orders_rise = refl;
            differ = refl;
            one_direction = refl;
            apart = λ r. refl;
          }

      fits : (u : ℕ) → In 1 (length (day_closed b).units) u → Fits (day_closed b) u nothing
      fits u i = fits_after b (day_closed b) u nothing (over_moved u) (s.fits u (omega (arith, length-map b.units unit_day_over)))
