-- Laws of clearing a period: what its steps give is what the definition says.
use Prim.Native.Nat.{ℕ, ◌+◌, ◌*◌, ◌<◌, ◌≤◌}
use mathlib.Core.Path.{◌≡◌, refl, sym, ap, ap₂, ◌∙◌}
use mathlib.Core.Bool.{true, false}
use mathlib.Core.List.{List, []}
use native.Mathlib.Omega.{arith}
use lib.Dec.{eqb}
use borrow.Author.Tests.{eq-eqb, ne_eqb, eqb-true}
use lib.ListN.{length, drop}
use Rattle.measures.specs.Lists.{keep}
use Rattle.measures.specs.Ranges.{most_energy}
use Rattle.measures.proofs.ListLaws.{cond-true, cond-false, both_ways, and_left}
use Rattle.std.specs.Prelude.{Some}
use Rattle.matching.specs.declared.orders.Cleared.{Cleared as ClearedValue}
use Rattle.matching.specs.Orders.{Order, quantities, bid_ahead, ask_ahead, laid, bids, asks}
use Rattle.matching.specs.Memory.{orders_in, written}
use Rattle.matching.specs.Clearing.{
  Fill,
  cleared_volume,
  marginal,
  clearing_price,
  fills_of,
  bid_fills,
  ask_fills,
  end_to_end,
  overlap_rows,
  after_fills,
  Cleared,
  clear_period,
}
use Rattle.matching.specs.Answers.{fit, Clears}
use Rattle.matching.specs.declared.orders.Direction.TheVariants.{Sell, Buy}
use Rattle.matching.specs.declared.fills.Which.TheVariants.{Better, Margin}
use Rattle.matching.specs.Inner.Places.{orders_at, ahead_on, belongs, chosen, Stand, AreMargins, AtMargin}
use Rattle.matching.proofs.Laws.Orders.OrderLaws.{orders_length}
use Rattle.matching.proofs.Laws.Orders.RowLaws.{written_none}
use Rattle.matching.proofs.Laws.Orders.FitLaws.{fit_gives}
use Rattle.matching.proofs.Laws.Orders.LaidLaws.{laid-length, laid-quantities}
use Rattle.matching.proofs.Laws.Orders.AheadLaws.{dearer, cheaper, dearer_strict, cheaper_strict, bids-ordered, asks-ordered}
use Rattle.matching.proofs.Laws.Clearing.VolumeLaws.{keep_some}
use Rattle.matching.proofs.Laws.Laying.LayingLaws.{stand_length}
use Rattle.matching.proofs.Laws.Clearing.PickLaws.{keep_apart}
use Rattle.matching.proofs.Laws.Clearing.PlaceLaws.{at_margin}
use Rattle.matching.proofs.Laws.Clearing.MarginLaws.{volume-bids, volume-asks}

-- the definition, where nothing trades and where something does
none_trades : (period : ℕ) (os : List Order) → cleared_volume (bids period os) (asks period os) ≡ 0 → clear_period period os
    ≡ record { rows = []; orders = os }
unfolding clear_period
none_trades period os e = cond-true _ _ _ (eq-eqb _ 0 e) refl

some_trades : (period : ℕ) (os : List Order) (v b s : ℕ) (fb fa : List Fill) → v ≡ cleared_volume (bids period os) (asks period os) → 0 < v → b
    ≡ marginal v (bids period os) → s ≡ marginal v (asks period os)
    → fb ≡ bid_fills v b (bids period os) → fa ≡ ask_fills v s (asks period os)
    → clear_period period os ≡ record {
      rows = overlap_rows period (clearing_price b s) (end_to_end 0 fb) (end_to_end 0 fa);
      orders = after_fills fa
          (after_fills fb os);
    }
unfolding clear_period
some_trades period os v b s fb fa ev pos eb es efb efa =
    let n : (cleared_volume (bids period os) (asks period os) ≡ 0 → ⊥) = λ z. (let y : v ≡ 0 = ev ∙ z in omega arith) in
    rw (efb, efa, eb, es, ev) (cond-false _ _ _ (ne_eqb _ 0 n) refl)

pub clears_none : (m rows : List ℕ) (n period v b s : ℕ) (bs ks : List ℕ) (a : ClearedValue)
    → fit m n rows ≡ true → a.count ≡ 0 → a.standing ≡ n
    → Stand m bs n (laid (ahead_on 1) (keep (belongs 1 period) (orders_in m n)))
    → Stand m ks n (laid (ahead_on 0) (keep (belongs 0 period) (orders_in m n)))
    → AreMargins (orders_at m bs) (orders_at m ks) v b s → v ≡ 0
    → Clears m rows n period (Some a) m rows
unfolding ahead_on
clears_none m rows n period v b s bs ks a e ec en sb sa g ev =
    let c : cleared_volume (bids period (orders_in m n)) (asks period (orders_in m n)) ≡ 0 = ap₂ cleared_volume (sym sb.orders) (sym sa.orders)
    ∙ sym g.cleared ∙ ev in
    let k = none_trades period (orders_in m n) c in
    record {
      fits = sym e;
      stay = λ t. both_ways (sym e ∙ t);
      left = λ _. refl;
      count = λ _. ec ∙ ap (λ (x : Cleared). length x.rows) (sym k);
      orders = λ _. ap (λ (x : ℕ). orders_in m x) en ∙ ap (λ (x : Cleared). x.orders) (sym k);
      handed = λ _. written_none rows ∙ ap (λ (x : Cleared). written rows x.rows) (sym k);
      past = refl;
    }

-- both sides together are no more than the orders
pub sides_few : (m bs ks : List ℕ) (n period : ℕ) → Stand m bs n (laid (ahead_on 1) (keep (belongs 1 period) (orders_in m n)))
    → Stand m ks n (laid (ahead_on 0) (keep (belongs 0 period) (orders_in m n))) → length bs + length ks ≤ n
sides_few m bs ks n period sb sa =
    let a = stand_length m bs n _ sb in
    let lb = laid-length (ahead_on 1) (keep (belongs 1 period) (orders_in m n)) in
    let la = laid-length (ahead_on 0) (keep (belongs 0 period) (orders_in m n)) in
    let b = stand_length m ks n _ sa in
    let k = keep_apart (belongs 1 period) (belongs 0 period) (orders_in m n) (λ o e. other o e) in
    omega (arith, orders_length m n)
  where
    other : (o : Order) → belongs 1 period o ≡ true → belongs 0 period o ≡ false
    other o e =
        let d = eqb-true o.direction 1 (and_left (eqb o.direction 1) (eqb o.period period) e) in
        let z : eqb o.direction 0 ≡ false = ne_eqb o.direction 0 (omega arith) in
        rw z

-- the volume lies at the margin of each side
module _ (m rows bs ks : List ℕ) (n period v b s : ℕ) (e : fit m n rows ≡ true) (pos : 0 < v)
    (sb : Stand m bs n (laid (ahead_on 1) (keep (belongs 1 period) (orders_in m n))))
    (sa : Stand m ks n (laid (ahead_on 0) (keep (belongs 0 period) (orders_in m n))))
    (g : AreMargins (orders_at m bs) (orders_at m ks) v b s) where
  bids_are : orders_at m bs ≡ bids period (orders_in m n)
  unfolding ahead_on
  bids_are = sb.orders

  asks_are : orders_at m ks ≡ asks period (orders_in m n)
  unfolding ahead_on
  asks_are = sa.orders

  volume_is : v ≡ cleared_volume (bids period (orders_in m n)) (asks period (orders_in m n))
  volume_is = g.cleared ∙ ap₂ cleared_volume bids_are asks_are

  small : quantities (orders_in m n) ≤ most_energy
  small = (fit_gives m rows n e).small

  bids-small : quantities (bids period (orders_in m n)) ≤ most_energy
  bids-small =
      let l = laid-quantities bid_ahead (keep (belongs 1 period) (orders_in m n)) in
      omega (arith, small, keep_some (belongs 1 period) (orders_in m n))

  asks-small : quantities (asks period (orders_in m n)) ≤ most_energy
  asks-small =
      let l = laid-quantities ask_ahead (keep (belongs 0 period) (orders_in m n)) in
      omega (arith, small, keep_some (belongs 0 period) (orders_in m n))

  pub bids_at_margin : AtMargin v (keep (chosen (Better Buy) b) (orders_at m bs)) (keep (chosen Margin b) (orders_at m bs))
  bids_at_margin =
      let w = volume-bids (bids period (orders_in m n)) (asks period (orders_in m n)) in
      rw (g.of_bids pos, bids_are) (at_margin dearer dearer_strict v (bids period (orders_in m n)) (bids-ordered period (orders_in m n)) pos
      (omega (arith, volume_is)) bids-small)

  pub asks_at_margin : AtMargin v (keep (chosen (Better Sell) s) (orders_at m ks)) (keep (chosen Margin s) (orders_at m ks))
  asks_at_margin =
      let w = volume-asks (bids period (orders_in m n)) (asks period (orders_in m n)) in
      rw (g.of_asks pos, asks_are) (at_margin cheaper cheaper_strict v (asks period (orders_in m n)) (asks-ordered period (orders_in m n)) pos
      (omega (arith, volume_is)) asks-small)

  pub clears_some : (fb fa : List Fill) (p : ℕ) (a : ClearedValue) (m' rows' : List ℕ) → p ≡ clearing_price b s
      → fb ≡ fills_of v (keep (chosen (Better Buy) b) (orders_at m bs)) (keep (chosen Margin b) (orders_at m bs))
      → fa ≡ fills_of v (keep (chosen (Better Sell) s) (orders_at m ks)) (keep (chosen Margin s) (orders_at m ks))
      → rows' ≡ written rows (overlap_rows period p (end_to_end 0 fb) (end_to_end 0 fa)) → a.count ≡ length (overlap_rows period p (end_to_end 0 fb) (end_to_end 0 fa))
      → orders_in m' a.standing ≡ after_fills fa (after_fills fb (orders_in m n)) → drop (6 * n) m' ≡ drop (6 * n) m
      → Clears m rows n period (Some a) m' rows'
  clears_some fb fa p a m' rows' ep efb efa er ec eo past =
      let k = some_trades period (orders_in m n) v b s fb fa volume_is pos (g.of_bids pos ∙ ap (marginal v) bids_are) (g.of_asks pos
      ∙ ap (marginal v) asks_are)
      (rw bids_are at efb) (rw asks_are at efa) in
      record {
        fits = sym e;
        stay = λ t. both_ways (sym e ∙ t);
        left = λ _. refl;
        count = λ _. ec ∙ ap (λ (x : ℕ). length (overlap_rows period x (end_to_end 0 fb) (end_to_end 0 fa))) ep ∙ ap (λ (x : Cleared). length x.rows) (sym k);
        orders = λ _. eo ∙ ap (λ (x : Cleared). x.orders) (sym k);
        handed = λ _. er ∙ ap (λ (x : ℕ). written rows (overlap_rows period x (end_to_end 0 fb) (end_to_end 0 fa))) ep
            ∙ ap (λ (x : Cleared). written rows x.rows) (sym k);
        past = past;
      }
