-- Opening a book (paper 01, "Units of measure and the book").
use Rattle.std.specs.Prelude.{ℕ, ◌+◌, ◌*◌, ◌≤◌, cond, ◌&&◌, [], ◌∷◌, nat_lt}
use Rattle.limits.specs.Units.{days_in}
use Rattle.book.specs.Book.{Rules, Book, call_phase}
use Rattle.book.specs.Refusals.{Check, check, first_refusal, bad_opening}
use Rattle.book.specs.Layout.{book_words}

-- "at most 262,144 bytes times one more than the days"; a word has 8 bytes
abbrev pub WithinBytes : ℕ → ℕ → Type 0
WithinBytes words days = 8 * words ≤ 262_144 * (days + 1)

-- what the library publishes: 0 for days that no book has
unfoldable pub words_for : ℕ → ℕ
words_for days = cond (days_in days) (book_words days) 0

-- "A fresh book has no units and no open declaration, is on its first trading day and in the call phase."
abbrev pub fresh : Rules → Book
fresh r =
    record { rules = r; phase = call_phase; given = 0; units = []; offers = []; orders = [] }

-- "opening: only too short for days of 1 to 31"
abbrev pub too_short : ℕ → Rules → Check
too_short words r = check 1 (days_in r.days && nat_lt words (book_words r.days))

unfoldable pub opening_refusal : ℕ → Rules → ℕ
opening_refusal words r = first_refusal (too_short words r ∷ bad_opening r ∷ [])
