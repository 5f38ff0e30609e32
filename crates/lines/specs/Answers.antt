-- What a line is answered (paper 01, "Program `rehearse`").
use Rattle.std.specs.Prelude.{ℕ, Bool, true, false, cond, ◌&&◌, List, [], length, eqb, leb, ltb}
use Rattle.matching.specs.Orders.{Row}
use Rattle.book.specs.Book.{rules_of, Book}
use Rattle.book.specs.Refusals.{Outcome}
use Rattle.book.specs.Opening.{fresh, opening_refusal}
use Rattle.book.specs.Calls.{Call, call_enrol, call_offer, call_take, call_withdraw, call_order, call_cancel, call_clear, call_close, outcome}
use Rattle.book.specs.Layout.{book_words}
use Rattle.lines.specs.Lines.{Line, unknown, opening, calling}
use Rattle.lines.specs.Printed.{printed_ok, printed_no}

-- the book that stands: none "before an accepted O"
pub data Stands : Type 0 where
  no_book : Stands
  standing : Book → Stands

-- an answer: `no` and the refusal, or `ok` with the number and the rows, and the book after it
pub data Said : Type 0 where
  refuses : ℕ → Said
  accepts : (number : ℕ) (rows : List Row) (after : Book) → Said

abbrev pub is_enrol : Call → Bool
is_enrol (call_enrol kind capacity asset) = true
is_enrol (call_offer unit partner price amounts) = false
is_enrol (call_take unit number quantity lent) = false
is_enrol (call_withdraw unit number) = false
is_enrol (call_order unit direction period price quantity lent) = false
is_enrol (call_cancel unit number) = false
is_enrol (call_clear lent) = false
is_enrol call_close = false

-- what the library gives
unfoldable pub given : Outcome → Said
given o = cond (eqb o.refusal 0) (accepts o.number o.rows o.book) (refuses o.refusal)

-- "beyond this program's size: days over 1"; the program lends memory for one day
unfoldable pub opening_said : ℕ → ℕ → ℕ → Said
opening_said days floor ceiling =
    let refusal = opening_refusal (book_words 1) (rules_of days floor ceiling) in
    cond (ltb 1 days) (refuses 0) (cond (eqb refusal 0) (accepts 0 [] (fresh (rules_of days floor ceiling))) (refuses refusal))

-- 0 "before an accepted O; or .. an enrol when 8 units stand"
unfoldable pub call_said : Stands → Call → Said
call_said no_book c = refuses 0
call_said (standing b) c = cond (is_enrol c && leb 8 (length b.units)) (refuses 0) (given (outcome b c))

-- 0 "looked at first: line not understood"
unfoldable pub said_to : Stands → Line → Said
said_to s unknown = refuses 0
said_to s (opening days floor ceiling) = opening_said days floor ceiling
said_to s (calling c) = call_said s c

-- "every accepted O opens anew, a refused one leaves the book"
unfoldable pub after : Stands → Said → Stands
after s (refuses refusal) = s
after s (accepts number rows b) = standing b

-- It prints "`ok` and the returned number, or `no` and the refusal, then `t` and the six fields for each row"
unfoldable pub printed : Said → List ℕ
printed (refuses refusal) = printed_no refusal
printed (accepts number rows b) = printed_ok number rows
