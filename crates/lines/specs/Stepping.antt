-- What a step of `rehearse` promises: over bytes of the input, and at its end.
use Rattle.std.specs.Prelude.{ℕ, ◌+◌, ◌≡◌, Bool, true, false, cond, ◌&&◌, ◌||◌, List, [], ◌∷◌, length, eqb}
use Rattle.book.specs.Layout.{DAYS, LAYOUT, layout_number, word, decode}
use Rattle.lines.specs.declared.reading.Reading.TheVariants.{Start}
use Rattle.lines.specs.declared.steps.Desk.{Desk}
use Rattle.lines.specs.declared.steps.Memory.{Memory}
use Rattle.lines.specs.Lines.{Line}
use Rattle.lines.specs.Answers.{Stands, no_book, standing, refuses, said_to, after, printed}
use Rattle.lines.specs.Readings.{rest_of, begun, ReadsOn}

-- where the program stands: its desk, the numbers of the running line, and the memory of the book
pub record State : Type 0 where
  pub desk : Desk
  pub numbers : List ℕ
  pub memory : List ℕ

abbrev pub state : Desk → List ℕ → List ℕ → State
state d ns m = record { desk = d; numbers = ns; memory = m }

-- where the program's memory stands
abbrev pub state_of : Memory → State
state_of m = state m.desk m.numbers m.book

abbrev pub fresh_desk : Desk
fresh_desk = record { reading = Start; started = false }

-- whether memory is laid out for a book of one day
abbrev pub one_day : List ℕ → Bool
one_day m = eqb (word m DAYS) 1 && eqb (word m LAYOUT) layout_number

-- the book that stands in memory: one of one day, once an O was accepted
unfoldable pub stands_in : Bool → List ℕ → Stands
stands_in started m = cond (started && one_day m) (standing (decode m)) no_book

-- a line is answered: `started` and m stand before it, started' and m' after it, and `text` is printed
pub record Answered (started : Bool) (m : List ℕ) (line : Line) (started' : Bool) (m' text : List ℕ) : Type 0 where
  pub prints : text ≡ printed (said_to (stands_in started m) line)
  pub leaves : stands_in started' m' ≡ after (stands_in started m) (said_to (stands_in started m) line)
  pub refused : (refusal : ℕ) → said_to (stands_in started m) line ≡ refuses refusal → (m' ≡ m) × (started' ≡ started)

-- the bytes before the first line end, and whether there is one
unfoldable pub until_end : List ℕ → List ℕ
until_end [] = []
until_end (b ∷ bs) = cond (eqb b 10) [] (b ∷ until_end bs)

unfoldable pub ends_in : List ℕ → Bool
ends_in [] = false
ends_in (b ∷ bs) = eqb b 10 || ends_in bs

-- no line ends in the bytes: the line runs on
pub record RunsOn (s : State) (bytes : List ℕ) (s' : State) (used : ℕ) (text : List ℕ) : Type 0 where
  pub all : used ≡ length bytes
  pub reads : ReadsOn s.desk.reading s.numbers bytes s'.desk.reading s'.numbers
  pub started : s'.desk.started ≡ s.desk.started
  pub memory : s'.memory ≡ s.memory
  pub silent : text ≡ []

-- a line ends in the bytes: it is answered, and the next one begins
pub record LineEnds (s : State) (bytes : List ℕ) (s' : State) (used : ℕ) (text : List ℕ) : Type 0 where
  pub up_to : used ≡ length (until_end bytes) + 1
  pub next : s'.desk.reading ≡ Start
  pub answered :
      Answered s.desk.started s.memory (rest_of s.desk.reading s.numbers (until_end bytes)) s'.desk.started s'.memory text

-- a step over bytes: the first `used` of them are read
pub record Stepped (s : State) (bytes : List ℕ) (s' : State) (used : ℕ) (text : List ℕ) : Type 0 where
  pub runs_on : ends_in bytes ≡ false → RunsOn s bytes s' used text
  pub line_ends : ends_in bytes ≡ true → LineEnds s bytes s' used text

-- the end of the input: a line that has begun is answered
pub record Ended (s : State) (started' : Bool) (m' text : List ℕ) : Type 0 where
  pub none : begun s.desk.reading ≡ false → (started' ≡ s.desk.started) × (m' ≡ s.memory) × (text ≡ [])
  pub last : begun s.desk.reading ≡ true
      → Answered s.desk.started s.memory (rest_of s.desk.reading s.numbers []) started' m' text
