-- "With 256 orders open, an order that would match in full is turned down today." (paper 02, job 4)
use Rattle.std.specs.Prelude.{◌≡◌, ℕ, ◌+◌, ◌<◌, ◌≤◌, Bool, true, false, ◌⊎◌, ◌∷◌, length, ◌≢◌, nat_le}
use Rattle.measures.specs.Lists.{sum_of, table}
use Rattle.matching.specs.Orders.{Order as OpenOrder, order_with}
use Rattle.matching.specs.Rolling.{meet}
use Rattle.book.specs.Book.{Book, rules_of, call_phase, rolling_phase, most_orders, with_orders, in_phase}
use Rattle.book.specs.Opening.{fresh}
use Rattle.book.specs.Refusals.{Outcome, Check, check, first_refusal, decided, unsound, orders_full}
use Rattle.book.specs.Order.{new_order, order_checks_with, ordered, ordering}

-- an order with this check as its 17
unfoldable pub ordering_with : Check → Book → ℕ → ℕ → ℕ → ℕ → ℕ → ℕ → Outcome
ordering_with full b u d p price q lent =
    decided (first_refusal (unsound b ∷ order_checks_with full b u d p price q lent)) b (ordered b (new_order b u d p price q))

-- as it was: "256 orders already open, even if it would match" (paper 01)
abbrev pub ordering_before : Book → ℕ → ℕ → ℕ → ℕ → ℕ → ℕ → Outcome
ordering_before b = ordering_with (check 17 (nat_le most_orders (length b.orders))) b

-- "Let it through when nothing of it would wait": 17 does not apply
abbrev pub LetThrough : Type 0
LetThrough =
    (b : Book) (u d p price q lent : ℕ) → (b.phase ≢ call_phase) → (meet (new_order b u d p price q) b.orders).left ≡ 0
    → ordering b u d p price q lent ≡ ordering_with (check 17 false) b u d p price q lent

-- "every order accepted so far gets the same result on the same book", and every one that was refused for another reason
abbrev pub SameAsBefore : Type 0
SameAsBefore =
    (b : Book) (u d p price q lent : ℕ) → ((ordering_before b u d p price q lent).refusal ≢ 17)
    → ordering b u d p price q lent ≡ ordering_before b u d p price q lent

-- "Check 17 stays for an order with a remainder, and in the call phase."
abbrev pub Check17Stays : Type 0
Check17Stays =
    (b : Book) (u d p price q lent : ℕ) → (0 < (meet (new_order b u d p price q) b.orders).left) ⊎ (b.phase ≡ call_phase)
    → ordering b u d p price q lent ≡ ordering_before b u d p price q lent

-- an order accepted though 256 are open: it trades whole, in the rolling phase, and nothing of it waits
pub record TradesWhole (b : Book) (o : OpenOrder) (r : Outcome) : Type 0 where
  pub rolling : b.phase ≡ call_phase → ⊥
  pub whole : sum_of (λ t. t.quantity) r.rows ≡ o.quantity
  -- what is open is what its matches left, and it is not there
  pub waiting : r.book.orders ≡ (meet o b.orders).orders

abbrev pub WholeOnFull : Type 0
WholeOnFull =
    (b : Book) (u d p price q lent : ℕ) → most_orders ≤ length b.orders → (ordering b u d p price q lent).refusal ≡ 0
    → TradesWhole b (new_order b u d p price q) (ordering b u d p price q lent)

-- whether 17 refuses a purchase with 256 sales of 1 kWh open at price 5, by phase, price and quantity
abbrev pub refused_on_full : ℕ → ℕ → ℕ → Bool
refused_on_full phase price q =
    (orders_full (with_orders (in_phase (fresh (rules_of 1 0 9)) phase) (table 256 (λ k. order_with (k + 1) 1 0 0 5 1))) (order_with 257 2 1 0 price q)).applies

-- all of them; a kWh more, though its matches would free places; a price that they do not take; the call phase
abbrev pub OnFull : Type 0
OnFull =
    (refused_on_full rolling_phase 5 256 ≡ false) × (refused_on_full rolling_phase 5 257 ≡ true) × (refused_on_full rolling_phase 4 1 ≡ true)
    × (refused_on_full call_phase 5 256 ≡ true)
