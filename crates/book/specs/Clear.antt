-- "Clear (001 8.2, 8.4): each period, rising."
use Rattle.std.specs.Prelude.{ℕ, List, [], ◌∷◌}
use Rattle.limits.specs.Units.{periods}
use Rattle.matching.specs.Clearing.{clear_from}
use Rattle.book.specs.Book.{Book, rolling_phase, with_orders, in_phase}
use Rattle.book.specs.Trades.{rows_booked}
use Rattle.book.specs.Refusals.{Outcome, Check, first_refusal, decided, accepted, unsound, few_rows, clear_in_rolling}

abbrev pub clear_checks : Book → ℕ → List Check
clear_checks b lent = few_rows lent ∷ clear_in_rolling b ∷ []

unfoldable pub clear_refusal : Book → ℕ → ℕ
clear_refusal b lent = first_refusal (unsound b ∷ clear_checks b lent)

-- "Rests keep their numbers; the rolling phase begins."
unfoldable pub clearing : Book → ℕ → Outcome
clearing b lent =
    let c = clear_from 0 (periods b.rules.days) b.orders in
    decided (clear_refusal b lent) b
    (accepted 0 c.rows (in_phase (rows_booked c.rows (with_orders b c.orders)) rolling_phase))
