-- Demand 3 of a tally and a sound book that agree.
use Prim.Native.Nat.{ℕ, zero, suc, ◌+◌, ◌-◌, ◌*◌, ◌≤◌, ◌<◌}
use mathlib.Core.Path.{◌≡◌, refl, sym, ap, ◌∙◌}
use mathlib.Core.Bool.{Bool, true, false, cond, not, ◌&&◌}
use native.Mathlib.Omega.{arith}
use native.Mathlib.Nat.{le_trans}
use lib.ListN.{length, get_or}
use lib.Dec.{eqb}
use Rattle.measures.specs.Lists.{keep, sum_of, sum}
use Rattle.measures.proofs.RangeLaws.{In}
use Rattle.measures.proofs.ListLaws.{sum_ext, sum_add, sum_mono}
use Rattle.limits.specs.Units.{periods, generator}
use Rattle.matching.specs.Orders.{Order as OpenOrder}
use Rattle.matching.proofs.Laws.Lists.EachLaws.{each_map}
use Rattle.book.specs.Book.{OpenOffer, Book, unit_of, figures_of, net}
use Rattle.book.specs.Trades.{raises, lowers}
use Rattle.book.specs.Fit.{nothing, open_orders, open_offers, open_raising, open_lowering}
use Rattle.book.specs.Sound.{sound}
use Rattle.book.specs.Curve.{first_half, second_half, points_from, points}
use Rattle.demands.specs.Tally.{Member, Tally}
use Rattle.demands.specs.Demand3.{
  member_of,
  sold,
  bought,
  raised_by,
  lowered_by,
  net_of,
  volume_of,
  Part,
  part_of_orders,
  raising_part,
  lowering_part,
  nets_of,
  Bounded,
  Demand3,
}
use Rattle.demands.proofs.Laws.Tally.AgreeLaws.{member, amounts_of, remains, Agree, member_of_lem, units_count, enrolled_in}
use Rattle.demands.proofs.Laws.Tally.StandingLaws.{Standing, standing}
use Rattle.book.proofs.Laws.Sound.FitLaws.{raised_to, volume_to}
use Rattle.demands.proofs.Laws.Tally.MapLaws.{sum_of-map}
use Rattle.demands.proofs.Laws.Theorem.PartLaws.{left, offers_part, orders_part_lem, parties_sum}

-- the curve's points, two a period
pub points_at : (b : Book) (u p n h : ℕ) → h < n
    → (get_or (points_from b u p n) (2 * h) 0 ≡ first_half (net (figures_of b u (p + h))))
    × (get_or (points_from b u p n) (2 * h + 1) 0 ≡ second_half (net (figures_of b u (p + h))))
unfolding points_from
points_at b u p zero h l = absurd (omega arith)
points_at b u p (suc n) zero l = let e : p + 0 ≡ p = omega arith in rw e (refl, refl)
points_at b u p (suc n) (suc h) l =
    let ih = points_at b u (suc p) n h (omega arith) in
    let e : 2 * suc h ≡ suc (suc (2 * h)) = omega arith in
    let f : 2 * suc h + 1 ≡ suc (suc (2 * h + 1)) = omega arith in
    let g : p + suc h ≡ suc p + h = omega arith in
    rw (f, e, g) ih

-- of one unit, by its kind: its net, by side
one_side : (g : Bool) (s d : ℕ) → cond g d s ≤ cond g s d → cond g (cond g s d - cond g d s) 0 + d ≡ cond (not g) (cond g s d - cond g d s) 0 + s
one_side true s d h = omega arith
one_side false s d h = omega arith

module _ (t : Tally) (b : Book) (a : Agree t b) (w : Standing b) where
  at_unit : (u p : ℕ) → In 1 (length b.units) u → p < periods t.rules.days
      → ((figures_of b u p).held + (figures_of b u p).raised + lowered_by t u p ≡ raised_by t u p + (figures_of b u p).lowered)
      × ((figures_of b u p).volume ≡ sold t u p + bought t u p)
  unfolding sold bought
  at_unit u p h l =
      let f = a.figures u p h (rw a.days at l) in
      (rw (member_of_lem t b a u) f.net, f.volume)

  -- lowering never passes held
  low : (u p : ℕ) → In 1 (length b.units) u → p < periods t.rules.days → (figures_of b u p).lowered + open_lowering b u p ≤ (figures_of b u p).held
  low u p h l = let k = (w.fits u h).lowering p (rw a.days at l) in omega arith

  same_net : (u p : ℕ) → In 1 (length b.units) u → p < periods t.rules.days → net (figures_of b u p) ≡ net_of t u p
  same_net u p h l = let e = at_unit u p h l in let k = low u p h l in omega arith

  lowered_within : (u p : ℕ) → In 1 (length b.units) u → p < periods t.rules.days → lowered_by t u p ≤ raised_by t u p
  lowered_within u p h l = let e = at_unit u p h l in let k = low u p h l in omega arith

  -- each row is sold by one unit and bought by one
  sold-bought : (p : ℕ) → sum (length b.units) (λ k. sold t (k + 1) p) ≡ sum (length b.units) (λ k. bought t (k + 1) p)
  unfolding sold bought
  sold-bought p =
      let n = length b.units in
      parties_sum (λ r. r.seller) p n t.rows (each_map _ _ t.rows (λ r h. h.0) a.parties)
      ∙ sym (parties_sum (λ r. r.buyer) p n t.rows (each_map _ _ t.rows (λ r h. h.1) a.parties))

  balanced : (p : ℕ) → p < periods t.rules.days → nets_of generator t p ≡ nets_of (λ kind. not (generator kind)) t p
  unfolding nets_of
  balanced p l =
      rw (units_count t b a)
      (let n = length b.units in
      let x = sum_add n (λ k. cond (generator (member_of t (k + 1)).kind) (net_of t (k + 1) p) 0) (λ k. bought t (k + 1) p) in
      let y = sum_add n (λ k. cond (not (generator (member_of t (k + 1)).kind)) (net_of t (k + 1) p) 0) (λ k. sold t (k + 1) p) in
      let e = sum_ext n (λ k. cond (generator (member_of t (k + 1)).kind) (net_of t (k + 1) p) 0 + bought t (k + 1) p)
      (λ k. cond (not (generator (member_of t (k + 1)).kind)) (net_of t (k + 1) p) 0 + sold t (k + 1) p)
      (λ k h. one_side (generator (member_of t (k + 1)).kind) (sold t (k + 1) p) (bought t (k + 1) p) (lowered_within (k + 1) p (omega arith) l)) in
      let s = sold-bought p in
      omega arith)

  -- a part of what is open is at most what is open
  module _ (x : Part t) (u p : ℕ) where
    orders_bound : (side : ℕ → ℕ → Bool)
        → part_of_orders x.of_order (side (member_of t u).kind) u p t.orders
        ≤ sum_of (λ (o : OpenOrder). cond (eqb o.unit u && eqb o.period p && side (unit_of b u).kind o.direction) o.quantity 0) b.orders
    orders_bound side =
        let k : (member_of t u).kind ≡ (unit_of b u).kind = ap (λ (m : Member). m.kind) (member_of_lem t b a u) in
        rw (← k, ← a.orders) (orders_part_lem u p (side (member_of t u).kind) x.of_order t.orders x.orders)

    raising_part_lem : raising_part t x u p ≤ open_raising b u p
    unfolding raising_part open_raising open_offers open_orders
    raising_part_lem =
        let f = offers_part u p x.of_offer t.offers x.offers in
        let e : sum_of (left u p) (keep remains t.offers)
        ≡ sum_of (λ (o : OpenOffer). cond (eqb o.unit u) (get_or o.amounts p 0) 0) b.offers =
        ap (sum_of (left u p)) a.offers ∙ sum_of-map (left u p) amounts_of b.offers in
        let g = orders_bound raises in
        omega arith

    lowering_part_lem : lowering_part t x u p ≤ open_lowering b u p
    unfolding lowering_part open_lowering open_orders
    lowering_part_lem = orders_bound lowers

  module _ (x : Part t) (u : ℕ) (h : In 1 (length b.units) u) where
    none_below : (p : ℕ) → p < periods t.rules.days → lowered_by t u p + lowering_part t x u p ≤ raised_by t u p + raising_part t x u p
    none_below p l =
        let e = at_unit u p h l in
        let k = low u p h l in
        let g = lowering_part_lem x u p in
        omega arith

    net_within : (p : ℕ) → p < periods t.rules.days
        → raised_by t u p + raising_part t x u p - (lowered_by t u p + lowering_part t x u p) ≤ raised_to b u nothing p
    net_within p l =
        let e = at_unit u p h l in
        let g = raising_part_lem x u p in
        omega arith

    same_member : member_of t u ≡ member (unit_of b u)
    same_member = member_of_lem t b a u

    volume_within :
        volume_of t u + sum (periods t.rules.days) (λ p. raising_part t x u p + lowering_part t x u p)
        ≤ sum (periods t.rules.days) (volume_to b u nothing)
    volume_within =
        let s = sum_add (periods t.rules.days) (λ p. sold t u p + bought t u p) (λ p. raising_part t x u p + lowering_part t x u p) in
        let m = sum_mono (periods t.rules.days) (λ p. sold t u p + bought t u p + (raising_part t x u p + lowering_part t x u p)) (volume_to b u nothing)
        (λ p l. let e = at_unit u p h l in let r = raising_part_lem x u p in let g = lowering_part_lem x u p in omega arith) in
        omega arith

    bounded : Bounded t x u
    bounded =
        record {
          at_least_none = none_below;
          within_hour = λ p l. le_trans (net_within p l) (rw same_member ((w.fits u h).raising p (rw a.days at l)));
          within_term = le_trans (sum_mono (periods t.rules.days) _ _ net_within) (rw (same_member, a.days) (w.fits u h).term);
          within_volume = le_trans volume_within (rw (same_member, a.days) (w.fits u h).volume);
        }

  curved : (u day : ℕ) → In 1 (length b.units) u → day < t.rules.days → (h : ℕ) → h < 24
      → (get_or (points b u day) (2 * h) 0 + get_or (points b u day) (2 * h + 1) 0 ≡ net_of t u (24 * day + h))
      × (get_or (points b u day) (2 * h) 0 ≤ get_or (points b u day) (2 * h + 1) 0)
      × (get_or (points b u day) (2 * h + 1) 0 ≤ get_or (points b u day) (2 * h) 0 + 1)
  curved u day i l h k =
      let e = points_at b u (24 * day) 24 h k in
      let n = same_net u (24 * day + h) i (omega arith) in
      (omega arith, omega arith, omega arith)

  volumes_same : (u : ℕ) → In 1 (length b.units) u → sum (periods t.rules.days) (λ p. (figures_of b u p).volume) ≡ volume_of t u
  volumes_same u h = sum_ext (periods t.rules.days) _ _ (λ p l. (at_unit u p h l).1)

pub demand_from : (t : Tally) (b : Book) → Agree t b → sound b ≡ true → Demand3 t b
demand_from t b a s =
    let w = standing b s in
    record {
      nets = λ u e p l. same_net t b a w u p (enrolled_in t b a u e) l;
      volumes = λ u e. volumes_same t b a w u (enrolled_in t b a u e);
      balance = balanced t b a w;
      bounds = λ x u e. bounded t b a w x u (enrolled_in t b a u e);
      curves = λ u day e l h k. curved t b a w u day (enrolled_in t b a u e) l h k;
    }
