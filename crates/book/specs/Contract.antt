-- What each call promises of the lent memory: one record for all eight.
use Rattle.std.specs.Prelude.{◌≡◌, ℕ, Bool, true, false, cond, ◌&&◌, List, [], ◌++◌, length, drop, ◌==◌, ◌≢◌, Result, Ok, Err}
use Rattle.matching.specs.Memory.{written}
use Rattle.measures.specs.declared.refusals.Refusal.{Refusal}
use Rattle.measures.specs.Refused.{number_of}
use Rattle.book.specs.declared.Done.{Done}
use Rattle.book.specs.Book.{Rules}
use Rattle.book.specs.Sound.{sound}
use Rattle.book.specs.Opening.{fresh, opening_refusal}
use Rattle.book.specs.Curve.{Drawn, curve}
use Rattle.book.specs.Layout.{LAYOUT, layout_number, book_words, word, decode, laid_out, Aside}
use Rattle.book.specs.Refusals.{Outcome}
use Rattle.book.specs.Calls.{Call, outcome}

-- what a call answers: what it did, or why it is refused
abbrev pub Answer : Type 0
Answer = Result Done Refusal

-- an answer in the paper's terms: whether the call was done, the refusal (0: none), the number, the count of rows
pub record Told : Type 0 where
  pub done : Bool
  pub refusal : ℕ
  pub number : ℕ
  pub count : ℕ

abbrev pub told_by : Answer → Told
told_by (Ok done) = record { done = true; refusal = 0; number = done.number; count = done.count }
told_by (Err refusal) = record { done = false; refusal = number_of refusal; number = 0; count = 0 }

-- what a call with this refusal tells: it is done where none applies
abbrev pub telling : ℕ → ℕ → ℕ → Told
telling refusal number count = record { done = (refusal == 0); refusal = refusal; number = number; count = count }

-- whether memory holds a sound book: it is laid out for one, and what it decodes to is sound
unfoldable pub sound_in : List ℕ → Bool
sound_in m = laid_out m && sound (decode m)

-- what a call gives on memory: 1 where it is too short or laid out otherwise
unfoldable pub outcome_on : List ℕ → Call → Outcome
outcome_on m c = cond (laid_out m) (outcome (decode m) c) (record { refusal = 1; number = 0; rows = []; book = decode m })

-- m and rows are the memory and the lent rows at entry, m' and rows' at exit, a the answer
pub record Made (m rows : List ℕ) (c : Call) (a : Answer) (m' rows' : List ℕ) : Type 0 where
  pub answer : told_by a ≡ telling (outcome_on m c).refusal (outcome_on m c).number (length (outcome_on m c).rows)
  -- "book and lent memory then stand as before"
  pub refused : ((outcome_on m c).refusal ≢ 0) → (m' ≡ m) × (rows' ≡ rows)
  pub accepted : (outcome_on m c).refusal ≡ 0 → decode m' ≡ (outcome_on m c).book
  -- "Memory past the counted rows keeps its contents."
  pub handed : (outcome_on m c).refusal ≡ 0 → rows' ≡ written rows (outcome_on m c).rows
  pub aside : Aside m m'
  pub long : length m' ≡ length m

-- what opening promises: m is the memory at entry, m' at exit
pub record Opened (m : List ℕ) (r : Rules) (a : Answer) (m' : List ℕ) : Type 0 where
  pub answer : told_by a ≡ telling (opening_refusal (length m) r) 0 0
  pub refused : (opening_refusal (length m) r ≢ 0) → m' ≡ m
  pub accepted : opening_refusal (length m) r ≡ 0 → decode m' ≡ fresh r
  pub laid : opening_refusal (length m) r ≡ 0 → word m' LAYOUT ≡ layout_number
  pub past : drop (book_words r.days) m' ≡ drop (book_words r.days) m
  pub long : length m' ≡ length m

-- what the curve gives on memory
unfoldable pub curve_on : List ℕ → ℕ → ℕ → ℕ → Drawn
curve_on m u day lent = cond (laid_out m) (curve (decode m) u day lent) (record { refusal = 1; points = [] })

-- what the curve promises: pts are the lent numbers at entry, pts' at exit; "memory past the 48 is kept"
pub record Curved (m pts : List ℕ) (u day : ℕ) (a : Answer) (pts' : List ℕ) : Type 0 where
  pub answer : told_by a ≡ telling (curve_on m u day (length pts)).refusal 0 0
  pub refused : ((curve_on m u day (length pts)).refusal ≢ 0) → pts' ≡ pts
  pub accepted : (curve_on m u day (length pts)).refusal ≡ 0 → pts' ≡ (curve_on m u day (length pts)).points ++ drop 48 pts
