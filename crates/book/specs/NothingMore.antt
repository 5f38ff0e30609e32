-- Paper 02, job 10, of the clear on lent memory. `matching/Matchings` has what the market's staff want, over orders and rows.
use Rattle.std.specs.Prelude.{◌≡◌, ℕ, ◌*◌, ◌≤◌, true, List, length}
use Rattle.matching.specs.Memory.{row_words, rows_in}
use Rattle.matching.specs.Matchings.{FullyCleared}
use Rattle.book.specs.Book.{call_phase}
use Rattle.book.specs.Layout.{decode}
use Rattle.book.specs.Refusals.{most_rows}
use Rattle.book.specs.Calls.{call_clear}
use Rattle.book.specs.Contract.{Answer, told_by, sound_in, Made}

-- m is the memory before a clear, m' after it, rows' the lent rows after it, and a the answer, which counts those handed out
pub record ClearedOn (m : List ℕ) (a : Answer) (m' rows' : List ℕ) : Type 0 where
  pub done : (told_by a).done ≡ true
  pub orders : FullyCleared (decode m).orders (rows_in rows' (told_by a).count) (decode m').orders

-- every clear of memory that holds a sound book in the call phase, with the rows lent that it wants
abbrev pub EveryClear : Type 0
EveryClear =
    (m rows : List ℕ) (a : Answer) (m' rows' : List ℕ) → Made m rows (call_clear (length rows)) a m' rows'
    → sound_in m ≡ true → (decode m).phase ≡ call_phase → row_words * most_rows ≤ length rows → ClearedOn m a m' rows'
