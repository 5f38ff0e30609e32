-- Lists of the eight calls, run from a newly opened book.
use Rattle.std.specs.Prelude.{ℕ, List, [], ◌∷◌}
use Rattle.matching.specs.Orders.{Row}
use Rattle.book.specs.Book.{Book}
use Rattle.book.specs.Refusals.{Outcome}
use Rattle.book.specs.Enrol.{enrolment}
use Rattle.book.specs.Offer.{offering}
use Rattle.book.specs.Take.{taking}
use Rattle.book.specs.Withdraw.{withdrawal}
use Rattle.book.specs.Order.{ordering}
use Rattle.book.specs.Cancel.{cancellation}
use Rattle.book.specs.Clear.{clearing}
use Rattle.book.specs.Close.{closing}

-- a call with its arguments; `lent` counts the numbers lent for rows
pub data Call : Type 0 where
  call_enrol : (kind capacity asset : ℕ) → Call
  call_offer : (unit partner price : ℕ) (amounts : List ℕ) → Call
  call_take : (unit number quantity lent : ℕ) → Call
  call_withdraw : (unit number : ℕ) → Call
  call_order : (unit direction period price quantity lent : ℕ) → Call
  call_cancel : (unit number : ℕ) → Call
  call_clear : (lent : ℕ) → Call
  call_close : Call

-- what a call gives on a book
abbrev pub outcome : Book → Call → Outcome
outcome b (call_enrol kind capacity asset) = enrolment b kind capacity asset
outcome b (call_offer unit partner price amounts) = offering b unit partner price amounts
outcome b (call_take unit number quantity lent) = taking b unit number quantity lent
outcome b (call_withdraw unit number) = withdrawal b unit number
outcome b (call_order unit direction period price quantity lent) = ordering b unit direction period price quantity lent
outcome b (call_cancel unit number) = cancellation b unit number
outcome b (call_clear lent) = clearing b lent
outcome b call_close = closing b

-- what a caller is told: the refusal (0: none), the number and the rows
pub record Heard : Type 0 where
  pub refusal : ℕ
  pub number : ℕ
  pub rows : List Row

abbrev pub answered : Outcome → Heard
answered o = record { refusal = o.refusal; number = o.number; rows = o.rows }

-- the answers to a list of calls, each on the book that the last one left
unfoldable pub answers : Book → List Call → List Heard
answers b [] = []
answers b (c ∷ cs) = let o = outcome b c in answered o ∷ answers o.book cs

-- the book that a list of calls leaves
unfoldable pub book_after : Book → List Call → Book
book_after b [] = b
book_after b (c ∷ cs) = book_after (outcome b c).book cs
