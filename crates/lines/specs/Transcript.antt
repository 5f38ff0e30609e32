-- The paper's transcript (paper 01, "Program `rehearse`"): line by line, and as a whole.
use Prim.Native.String.{String}
use Rattle.std.specs.Prelude.{◌≡◌, List, [], ◌∷◌}
use Rattle.book.specs.Calls.{call_enrol, call_order, call_clear, call_close}
use Rattle.lines.specs.Lines.{Line, opening, calling, parse}
use Rattle.lines.specs.Answers.{Stands, no_book, said_to, after, printed}
use Rattle.lines.specs.Rehearsed.{rehearsed}
use Rattle.lines.specs.Texts.{bytes}

-- a line, what it says, and what is printed for it
pub record Exchange : Type 0 where
  pub line : String
  pub says : Line
  pub prints : String

abbrev pub transcript : List Exchange
transcript =
    record { line = "O 1 0 1000000"; says = opening 1 0 1_000_000; prints = "ok 0\n" }
    ∷ record { line = "E 2 100 0"; says = calling (call_enrol 2 100 0); prints = "ok 1\n" }
    ∷ record { line = "E 3 100 0"; says = calling (call_enrol 3 100 0); prints = "ok 2\n" }
    ∷ record { line = "C"; says = calling (call_clear 4_464); prints = "ok 0\n" }
    ∷ record { line = "R 1 0 8 455000 5"; says = calling (call_order 1 0 8 455_000 5 4_464); prints = "ok 1\n" }
    ∷ record { line = "R 2 1 8 460000 7"; says = calling (call_order 2 1 8 460_000 7 4_464); prints = "ok 2\nt 4 8 1 2 5 455000\n" }
    ∷ record { line = "D"; says = calling call_close; prints = "ok 0\n" }
    ∷ []

-- each line on the book that the lines before it leave
abbrev pub Holds : Stands → List Exchange → Type 0
Holds s [] = Unit {0}
Holds s (x ∷ xs) =
    (parse (bytes x.line) ≡ x.says)
    × (printed (said_to s x.says) ≡ bytes x.prints)
    × Holds (after s (said_to s x.says)) xs

-- "Input .. prints"
abbrev pub input : String
input = "O 1 0 1000000\nE 2 100 0\nE 3 100 0\nC\nR 1 0 8 455000 5\nR 2 1 8 460000 7\nD\n"

abbrev pub output : String
output = "ok 0\nok 1\nok 2\nok 0\nok 1\nok 2\nt 4 8 1 2 5 455000\nok 0\n"

abbrev pub Transcript : Type 0
Transcript = Holds no_book transcript × (rehearsed (bytes input) ≡ bytes output)
