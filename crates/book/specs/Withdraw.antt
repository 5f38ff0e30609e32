-- "Withdraw removes an own offer of which nothing is taken."
use Rattle.std.specs.Prelude.{ℕ, not, List, [], ◌∷◌, ◌==◌}
use Rattle.measures.specs.Lists.{keep}
use Rattle.book.specs.Book.{Book, with_offers}
use Rattle.book.specs.Refusals.{Outcome, Check, first_refusal, decided, accepted, unsound, unknown_unit, not_own_offer, after_take}

abbrev pub withdraw_checks : Book → ℕ → ℕ → List Check
withdraw_checks b u n = unknown_unit b u ∷ not_own_offer b u n ∷ after_take b n ∷ []

unfoldable pub withdraw_refusal : Book → ℕ → ℕ → ℕ
withdraw_refusal b u n = first_refusal (unsound b ∷ withdraw_checks b u n)

unfoldable pub withdrawal : Book → ℕ → ℕ → Outcome
withdrawal b u n =
    decided (withdraw_refusal b u n) b
    (accepted 0 [] (with_offers b (keep (λ o. not (o.number == n)) b.offers)))
