-- Figure 3 of paper 01 on lent memory: what the contract of `clear_period` leaves.
use Prim.Native.Nat.{ℕ}
use mathlib.Core.Path.{◌≡◌, ap₂, ◌∙◌}
use mathlib.Core.Bool.{true}
use mathlib.Core.List.{List}
use Rattle.std.specs.Prelude.{Option}
use Rattle.matching.specs.declared.orders.Cleared.{Cleared}
use Rattle.matching.specs.Orders.{bids, asks}
use Rattle.matching.specs.Memory.{orders_in, written}
use Rattle.matching.specs.Clearing.{cleared_volume, marginal, clearing_price, clear_period}
use Rattle.matching.specs.Answers.{fit, Clears}
use Rattle.measures.specs.Lists.{Each}
use Rattle.matching.proofs.Laws.Lists.EachLaws.{each_map}
use Rattle.matching.proofs.Laws.Clearing.PeriodLaws.{price_of}
use Rattle.matching.proofs.Laws.Clearing.ClearingLaws.{rows-at_price}
use Rattle.matching.proofs.Laws.Figures.FiguresHold.{figure3_holds}

-- memory whose marginal bid is 481 and ask 470, cleared: each row is at 476
module _ (m rows : List ℕ) (n period : ℕ)
    (bid : marginal (cleared_volume (bids period (orders_in m n)) (asks period (orders_in m n))) (bids period (orders_in m n)) ≡ 481)
    (ask : marginal (cleared_volume (bids period (orders_in m n)) (asks period (orders_in m n))) (asks period (orders_in m n)) ≡ 470) where
  price : price_of period (orders_in m n) ≡ 476
  price = ap₂ clearing_price bid ask ∙ figure3_holds.0

  pub figure3_cleared : (a : Option Cleared) (m' rows' : List ℕ) → fit m n rows ≡ true → Clears m rows n period a m' rows'
      → (rows' ≡ written rows (clear_period period (orders_in m n)).rows) × Each (λ r. r.price ≡ 476) (clear_period period (orders_in m n)).rows
  figure3_cleared a m' rows' e c = (
    c.handed e,
    each_map (λ r. (r.way ≡ 3) × (r.period ≡ period) × (r.price ≡ price_of period (orders_in m n))) (λ r. r.price
        ≡ 476) (clear_period period (orders_in m n)).rows
        (λ r h. h.2 ∙ price) (rows-at_price period (orders_in m n)),
  )
