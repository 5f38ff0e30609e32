-- What is kept of a line that is read in pieces: it stands for the bytes so far.
use Rattle.std.specs.Prelude.{ℕ, ◌≡◌, Bool, true, false, cond, ◌&&◌, ◌||◌, List, ◌∷◌, ◌++◌, length, take, ltb}
use Rattle.measures.specs.Lists.{every}
use Rattle.lines.specs.declared.reading.Reading.{Reading}
use Rattle.lines.specs.declared.reading.Reading.TheVariants.{Start, Letter, Space, Digits, Lost}
use Rattle.lines.specs.Lines.{Line, unknown, first_field, other_fields, value_from, goes_on, is_number, values, called, numbered, lettered, parse}

-- what the line says if `more` follows; the first numbers of ns are those of the line. A count of 27 or more, or a value of
-- 2^32 or more, which no line yields, says nothing that is understood (laws `space_beyond`, `digits_beyond`, `value_beyond`).
unfoldable pub rest_of : Reading → List ℕ → List ℕ → Line
rest_of Start ns more = parse more
rest_of (Letter l) ns more = lettered (l ∷ first_field more) (other_fields more)
rest_of (Space l n) ns more = numbered l (take n ns) (first_field more ∷ other_fields more)
rest_of (Digits l n v) ns more =
    cond (goes_on v (first_field more) && every is_number (other_fields more))
    (called l (take n ns ++ (value_from v (first_field more) ∷ values (other_fields more))))
    unknown
rest_of Lost ns more = unknown

-- whether a byte of the line was read
abbrev pub begun : Reading → Bool
begun Start = false
begun (Letter l) = true
begun (Space l n) = true
begun (Digits l n v) = true
begun Lost = true

-- r and ns are kept before the bytes, r' and ns' after them
pub record ReadsOn (r : Reading) (ns bytes : List ℕ) (r' : Reading) (ns' : List ℕ) : Type 0 where
  pub rest : (more : List ℕ) → rest_of r ns (bytes ++ more) ≡ rest_of r' ns' more
  pub begins : begun r' ≡ (ltb 0 (length bytes) || begun r)
