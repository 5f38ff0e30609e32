-- Figure 2 of paper 01 on lent memory: what the contract of `clear_period` leaves.
use Prim.Native.Nat.{ℕ}
use mathlib.Core.Path.{◌≡◌, ap, ◌∙◌}
use mathlib.Core.Bool.{true}
use mathlib.Core.List.{List, [], ◌∷◌}
use Rattle.std.specs.Prelude.{Option}
use Rattle.matching.specs.declared.orders.Cleared.{Cleared}
use Rattle.matching.specs.Orders.{Order, Row}
use Rattle.matching.specs.Memory.{orders_in, written}
use Rattle.matching.specs.Clearing.{clear_period}
use Rattle.matching.specs.Answers.{fit, clear_answer, Clears}
use Rattle.matching.specs.Figures.{a_row, orders2}
use Rattle.matching.proofs.Laws.Figures.FiguresHold.{figure2_holds}
use lib.ListN.{length}

-- memory that holds the four orders, cleared: two rows, 10 and 4, at 475
pub figure2_cleared : (m rows : List ℕ) (a : Option Cleared) (m' rows' : List ℕ) → orders_in m 4 ≡ orders2 → fit m 4 rows ≡ true → Clears m rows 4 0 a m' rows'
    → ((clear_answer a).count ≡ 2) × (rows' ≡ written rows (a_row 3 3 1 10 475 ∷ a_row 3 4 2 4 475 ∷ []))
figure2_cleared m rows a m' rows' o e c =
    let r : (clear_period 0 (orders_in m 4)).rows ≡ a_row 3 3 1 10 475 ∷ a_row 3 4 2 4 475 ∷ [] = ap (λ (os : List Order). (clear_period 0 os).rows) o
    ∙ figure2_holds.1 in
    (c.count e ∙ ap (λ (rs : List Row). length rs) r, c.handed e ∙ ap (written rows) r)
