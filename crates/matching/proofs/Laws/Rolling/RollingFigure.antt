-- Figure 4 from the contract of `meet`: what the code does to memory that holds its two asks.
use Prim.Native.Nat.{ℕ, ◌≤◌}
use mathlib.Core.Path.{◌≡◌, sym, ap, ◌∙◌}
use mathlib.Core.Bool.{true}
use mathlib.Core.List.{List, [], ◌∷◌}
use native.Mathlib.Omega.{arith}
use lib.ListN.{length, drop}
use Rattle.std.specs.Prelude.{Option}
use Rattle.matching.specs.declared.orders.Matched.{Matched}
use Rattle.matching.specs.Orders.{Order, rising, numbers}
use Rattle.matching.specs.Memory.{orders_in, flat, written}
use Rattle.matching.specs.Rolling.{Met, meet}
use Rattle.matching.specs.Answers.{fit, answer_of, Meets}
use Rattle.matching.specs.Figures.{an_order, a_row}
use Rattle.matching.proofs.Laws.Orders.OrderLaws.{orders_length}
use Rattle.matching.proofs.Laws.Orders.FitLaws.{is_fit}
use Rattle.matching.proofs.Laws.Figures.FiguresHold.{figure4_holds}

-- "Asks no. 1 460 for 5, no. 2 455 for 5"
abbrev pub asks4 : List Order
asks4 = an_order 1 1 0 460 5 ∷ an_order 2 2 0 455 5 ∷ []

-- "buy 460 for 7"
abbrev pub buy4 : Order
buy4 = an_order 3 3 1 460 7

-- ": 5 at 455, 2 at 460." Nothing is left of the buy, and 3 of the first ask.
pub record Met4 (rows : List ℕ) (a : Option Matched) (m' rows' : List ℕ) : Type 0 where
  pub fits : (answer_of a).fits ≡ true
  pub left : (answer_of a).left ≡ 0
  pub count : (answer_of a).count ≡ 2
  pub standing : (answer_of a).standing ≡ 1
  pub handed : rows' ≡ 4 ∷ 0 ∷ 2 ∷ 3 ∷ 5 ∷ 455 ∷ 4 ∷ 0 ∷ 1 ∷ 3 ∷ 2 ∷ 460 ∷ drop 12 rows
  pub orders : orders_in m' 1 ≡ an_order 1 1 0 460 3 ∷ []

module _ (m rows : List ℕ) (held : orders_in m 2 ≡ asks4) (inside : 12 ≤ length m) (lent : 12 ≤ length rows) where
  rises : rising (numbers (orders_in m 2)) ≡ true
  unfolding rising
  rises = rw held

  fits : fit m 2 rows ≡ true
  fits = is_fit m rows 2 (omega arith) (omega arith) (omega arith) rises ∙ rw held

  met : meet buy4 (orders_in m 2) ≡ record { rows = a_row 4 2 3 5 455 ∷ a_row 4 1 3 2 460 ∷ []; left = 0; orders = an_order 1 1 0 460 3 ∷ [] }
  met = rw held figure4_holds

  pub figure4_met : (a : Option Matched) (m' rows' : List ℕ) → Meets m rows 2 buy4 a m' rows' → Met4 rows a m' rows'
  unfolding written flat
  figure4_met a m' rows' w =
      let o : orders_in m' (answer_of a).standing ≡ an_order 1 1 0 460 3 ∷ [] = w.orders fits ∙ ap (λ (t : Met). t.orders) met in
      let s : (answer_of a).standing ≡ 1 = sym (orders_length m' (answer_of a).standing) ∙ ap length o in
      record {
        fits = w.fits ∙ fits;
        left = w.left fits ∙ ap (λ (t : Met). t.left) met;
        count = w.count fits ∙ ap (λ (t : Met). length t.rows) met;
        standing = s;
        handed = w.handed fits ∙ ap (λ (t : Met). written rows t.rows) met;
        orders = rw s at o;
      }
