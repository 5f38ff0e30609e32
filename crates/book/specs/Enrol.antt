-- "Enrol adds a unit."
use Rattle.std.specs.Prelude.{ℕ, List, [], ◌∷◌, ◌++◌, length}
use Rattle.book.specs.Book.{Book, with_units, no_trades}
use Rattle.book.specs.Refusals.{Outcome, Check, first_refusal, decided, accepted, unsound, bad_kind, bad_size, units_full}

abbrev pub enrol_checks : Book → ℕ → ℕ → ℕ → List Check
enrol_checks b kind capacity asset = bad_kind kind ∷ bad_size capacity asset ∷ units_full b ∷ []

unfoldable pub enrol_refusal : Book → ℕ → ℕ → ℕ → ℕ
enrol_refusal b kind capacity asset = first_refusal (unsound b ∷ enrol_checks b kind capacity asset)

abbrev pub enrolled : Book → ℕ → ℕ → ℕ → Book
enrolled b kind capacity asset =
    with_units b (b.units ++ (record { kind = kind; capacity = capacity; asset = asset; figures = no_trades b.rules.days } ∷ []))

-- "An accepted enrol, offer or order returns its number"
unfoldable pub enrolment : Book → ℕ → ℕ → ℕ → Outcome
enrolment b kind capacity asset =
    let after = enrolled b kind capacity asset in
    decided (enrol_refusal b kind capacity asset) b (accepted (length after.units) [] after)
