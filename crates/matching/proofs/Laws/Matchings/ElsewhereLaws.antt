-- Where one period is cleared, the orders, the volume and the price of another stay.
use Prim.Native.Nat.{ℕ}
use mathlib.Core.Path.{◌≡◌, sym, ap, ap₂}
use mathlib.Core.Bool.{true, not}
use mathlib.Core.List.{List}
use lib.Dec.{eqb}
use borrow.Author.Tests.{ne_eqb}
use Rattle.measures.specs.Lists.{Has}
use Rattle.matching.specs.Orders.{Order, buys, sells, numbers, rising, laid, bid_ahead, ask_ahead}
use Rattle.matching.specs.Clearing.{cleared_volume, marginal, clearing_price, clear_period}
use Rattle.matching.proofs.Laws.Lists.EachLaws.{has_other}
use Rattle.matching.proofs.Laws.Clearing.PeriodLaws.{volume, price_of}
use Rattle.matching.proofs.Laws.Clearing.RestLaws.{other_periods_stay, elsewhere_stay}

module _ (q : ℕ) (os : List Order) (rises : rising (numbers os) ≡ true) where
  abbrev after : List Order
  after = (clear_period q os).orders

  stays : (o : Order) → (o.period ≡ q → ⊥) → not (eqb o.period q) ≡ true
  stays o n = ap not (ne_eqb o.period q n)

  -- an order of another period stands after if it stood before, and stood before if it stands after
  pub stands_after : (o : Order) → (o.period ≡ q → ⊥) → Has o os → Has o after
  stands_after o n m = has_other (λ x. not (eqb x.period q)) os after (sym (other_periods_stay q os rises)) o (stays o n) m

  pub stood_before : (o : Order) → (o.period ≡ q → ⊥) → Has o after → Has o os
  stood_before o n m = has_other (λ x. not (eqb x.period q)) after os (other_periods_stay q os rises) o (stays o n) m

  module _ (p : ℕ) (n : p ≡ q → ⊥) where
    pub volume_stays : volume p after ≡ volume p os
    volume_stays =
        ap₂ (λ (b a : List Order). cleared_volume (laid bid_ahead b) (laid ask_ahead a)) (elsewhere_stay q os buys p n rises)
        (elsewhere_stay q os sells p n rises)

    pub price_stays : price_of p after ≡ price_of p os
    price_stays =
        ap₂ (λ (b a : List Order).
        let v = cleared_volume (laid bid_ahead b) (laid ask_ahead a) in
        clearing_price (marginal v (laid bid_ahead b)) (marginal v (laid ask_ahead a))) (elsewhere_stay q os buys p n rises)
        (elsewhere_stay q os sells p n rises)
