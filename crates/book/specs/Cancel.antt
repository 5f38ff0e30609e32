-- "Cancel removes what is left of an own order."
use Rattle.std.specs.Prelude.{ℕ, not, List, [], ◌∷◌, ◌==◌}
use Rattle.measures.specs.Lists.{keep}
use Rattle.book.specs.Book.{Book, with_orders}
use Rattle.book.specs.Refusals.{Outcome, Check, first_refusal, decided, accepted, unsound, unknown_unit, not_own_order}

abbrev pub cancel_checks : Book → ℕ → ℕ → List Check
cancel_checks b u n = unknown_unit b u ∷ not_own_order b u n ∷ []

unfoldable pub cancel_refusal : Book → ℕ → ℕ → ℕ
cancel_refusal b u n = first_refusal (unsound b ∷ cancel_checks b u n)

unfoldable pub cancellation : Book → ℕ → ℕ → Outcome
cancellation b u n =
    decided (cancel_refusal b u n) b
    (accepted 0 [] (with_orders b (keep (λ o. not (o.number == n)) b.orders)))
