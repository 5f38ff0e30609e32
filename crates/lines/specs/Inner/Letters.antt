-- The letters that begin a line, as the program names them, and what a line with one does.
use Rattle.std.specs.Prelude.{◌≡◌, ◌≢◌, ℕ, Bool, cond, not, ◌&&◌, ◌||◌, List, length, get_or, eqb, leb, ltb}
use Rattle.book.specs.Book.{rules_of}
use Rattle.book.specs.Layout.{decode}
use Rattle.book.specs.Contract.{Answer, Made, Opened}
use Rattle.lines.specs.declared.answering.Letter.{Letter}
use Rattle.lines.specs.declared.answering.Letter.TheVariants.{Open, Enrol, Offer, Take, Withdraw, Order, Cancel, Clear, Close}
use Rattle.lines.specs.Lines.{is_call, call_of}
use Rattle.lines.specs.Stepping.{one_day}

-- a letter as a line has it
abbrev pub byte_of : Letter → ℕ
byte_of Open = 79
byte_of Enrol = 69
byte_of Offer = 76
byte_of Take = 84
byte_of Withdraw = 87
byte_of Order = 82
byte_of Cancel = 88
byte_of Clear = 67
byte_of Close = 68

-- whether a byte is one of them
abbrev pub begins : ℕ → Bool
begins b = eqb b 79 || is_call b

-- whether a line makes no call: days over 1, no book, or an enrol when 8 units stand
abbrev pub beyond : ℕ → List ℕ → Bool → List ℕ → Bool
beyond l ns started m = cond (eqb l 79) (ltb 1 (get_or ns 0 0)) (not (started && one_day m) || (eqb l 69 && leb 8 (length (decode m).units)))

-- a letter opens a book or makes its call: m and rows are the memory and the lent rows before it, m' and rows' after it, a the answer
pub record MadeBy (l : ℕ) (ns m rows : List ℕ) (a : Answer) (m' rows' : List ℕ) : Type 0 where
  pub opens : l ≡ 79 → Opened m (rules_of (get_or ns 0 0) (get_or ns 1 0) (get_or ns 2 0)) a m'
  pub calls : l ≢ 79 → Made m rows (call_of l ns) a m' rows'
