-- "It shall share over the remaining amounts where they stand in the book [..]. Show that each is left less its part, the parts being those
-- of the amounts at entry, and that other offers' amounts stay." (paper 02, job 2)
use Rattle.std.specs.Prelude.{◌≡◌, ℕ, ◌<◌, List, length, ◌≢◌}
use Rattle.measures.specs.Sharing.{total, parts, less_each}
use Rattle.book.specs.Book.{offer_of}
use Rattle.book.specs.Layout.{decode}
use Rattle.book.specs.Calls.{call_take}
use Rattle.book.specs.Contract.{Answer, outcome_on, Made}

-- the remaining amounts of the offer of number n, where they stand in memory
abbrev pub amounts_of : List ℕ → ℕ → List ℕ
amounts_of m n = (offer_of (decode m) n).amounts

-- m is the memory before q is taken of the offer of number n, m' after it
pub record LeftInPlace (m m' : List ℕ) (n q : ℕ) : Type 0 where
  -- "each is left less its part, the parts being those of the amounts at entry"; an offer wholly taken is gone
  pub own : q < total (amounts_of m n) → amounts_of m' n ≡ less_each (amounts_of m n) (parts q (amounts_of m n))
  -- "other offers' amounts stay"
  pub others : (k : ℕ) → (k ≢ n) → amounts_of m' k ≡ amounts_of m k

-- every accepted take leaves the memory so
abbrev pub EveryTake : Type 0
EveryTake =
    (m rows : List ℕ) (u n q : ℕ) (a : Answer) (m' rows' : List ℕ) → Made m rows (call_take u n q (length rows)) a m' rows'
    → (outcome_on m (call_take u n q (length rows))).refusal ≡ 0 → LeftInPlace m m' n q
