-- What the program `rehearse` prints for an input, byte by byte (paper 01).
use Rattle.std.specs.Prelude.{ℕ, cond, List, [], ◌∷◌, ◌++◌, eqb}
use Rattle.lines.specs.Lines.{parse}
use Rattle.lines.specs.Answers.{Stands, no_book, said_to, after, printed}

-- at the end of the input a line that has begun is a line
unfoldable pub last_line : List ℕ → List (List ℕ)
last_line [] = []
last_line (b ∷ bs) = (b ∷ bs) ∷ []

-- the lines of an input whose running line has the bytes `line` so far: 10 ends a line
unfoldable pub lines_from : List ℕ → List ℕ → List (List ℕ)
lines_from line [] = last_line line
lines_from line (b ∷ bs) = cond (eqb b 10) (line ∷ lines_from [] bs) (lines_from (line ++ (b ∷ [])) bs)

-- every line is answered once and in order, on the book that the lines before it leave
unfoldable pub answers_to : Stands → List (List ℕ) → List ℕ
answers_to s [] = []
answers_to s (l ∷ ls) = let said = said_to s (parse l) in printed said ++ answers_to (after s said) ls

-- what is printed for an input
unfoldable pub rehearsed : List ℕ → List ℕ
rehearsed input = answers_to no_book (lines_from [] input)
