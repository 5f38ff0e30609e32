-- "Order (001 8.4): a unit, a direction (0 sell, 1 buy), a period, a price, a quantity."
use Rattle.std.specs.Prelude.{ℕ, cond, List, [], ◌∷◌, ◌++◌, ◌==◌}
use Rattle.matching.specs.Orders.{Order as OpenOrder, leaving, order_with}
use Rattle.matching.specs.Rolling.{meet}
use Rattle.book.specs.Book.{Book, call_phase, unit_of, with_orders, next_number, numbered}
use Rattle.book.specs.Trades.{raises, lowers, rows_booked}
use Rattle.book.specs.Fit.{Declaration}
use Rattle.book.specs.Refusals.{
  Outcome,
  Check,
  first_refusal,
  decided,
  accepted,
  unsound,
  unknown_unit,
  few_rows,
  bad_price,
  bad_quantity,
  bad_period,
  bad_direction,
  other_direction,
  two_open,
  orders_full,
  numbers_used,
  hour_misfit,
  term_misfit,
  volume_misfit,
}

-- what an order declares: its quantity, in its period, raising or lowering
abbrev pub order_declares : Book → ℕ → ℕ → ℕ → ℕ → Declaration
order_declares b u d p q =
    record {
      raising = λ p'. cond (p' == p) (cond (raises (unit_of b u).kind d) q 0) 0;
      lowering = λ p'. cond (p' == p) (cond (lowers (unit_of b u).kind d) q 0) 0;
    }

abbrev pub new_order : Book → ℕ → ℕ → ℕ → ℕ → ℕ → OpenOrder
new_order b u d p price q = order_with (next_number b) u d p price q

-- the checks of an order, with this one as its 17
abbrev pub order_checks_with : Check → Book → ℕ → ℕ → ℕ → ℕ → ℕ → ℕ → List Check
order_checks_with full b u d p price q lent =
    unknown_unit b u ∷ few_rows lent ∷ bad_price b price ∷ bad_quantity q ∷ bad_period b p ∷ bad_direction d
    ∷ other_direction b u d p ∷ two_open b u p ∷ full ∷ numbers_used b
    ∷ hour_misfit b u (order_declares b u d p q) ∷ term_misfit b u (order_declares b u d p q) ∷ volume_misfit b u (order_declares b u d p q) ∷ []

abbrev pub order_checks : Book → ℕ → ℕ → ℕ → ℕ → ℕ → ℕ → List Check
order_checks b u d p price q lent = order_checks_with (orders_full b (new_order b u d p price q)) b u d p price q lent

unfoldable pub order_refusal : Book → ℕ → ℕ → ℕ → ℕ → ℕ → ℕ → ℕ
order_refusal b u d p price q lent = first_refusal (unsound b ∷ order_checks b u d p price q lent)

-- "the rest waits"
unfoldable pub waiting : OpenOrder → List OpenOrder
waiting o = cond (o.quantity == 0) [] (o ∷ [])

-- "Call phase: it only waits."
abbrev pub ordered_in_call : Book → OpenOrder → Outcome
ordered_in_call b o = accepted o.number [] (numbered (with_orders b (b.orders ++ (o ∷ []))))

-- "Rolling phase: it meets opposite orders of its period"
abbrev pub ordered_in_rolling : Book → OpenOrder → Outcome
ordered_in_rolling b o =
    let m = meet o b.orders in
    accepted o.number m.rows (numbered (rows_booked m.rows (with_orders b (m.orders ++ waiting (leaving o m.left)))))

abbrev pub ordered : Book → OpenOrder → Outcome
ordered b o =
    let called = ordered_in_call b o in
    let rolled = ordered_in_rolling b o in
    cond (b.phase == call_phase) called rolled

unfoldable pub ordering : Book → ℕ → ℕ → ℕ → ℕ → ℕ → ℕ → Outcome
ordering b u d p price q lent = decided (order_refusal b u d p price q lent) b (ordered b (new_order b u d p price q))
