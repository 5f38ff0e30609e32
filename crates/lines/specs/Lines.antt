-- What a line of `rehearse` means (paper 01, "Program `rehearse`"). A line is the list of its bytes, in ASCII, without
-- the line end.
use Rattle.std.specs.Prelude.{ℕ, ◌+◌, ◌-◌, ◌*◌, Bool, false, cond, ◌&&◌, ◌||◌, List, [], ◌∷◌, ◌++◌, length, get_or, drop, eqb, ltb}
use Rattle.measures.specs.Ranges.{between}
use Rattle.measures.specs.Lists.{every}
use Rattle.book.specs.Calls.{Call, call_enrol, call_offer, call_take, call_withdraw, call_order, call_cancel, call_clear, call_close}

-- what a line says: an opening, a call, or nothing that is understood
pub data Line : Type 0 where
  unknown : Line
  opening : (days floor ceiling : ℕ) → Line
  calling : Call → Line

-- "fields one space apart": the field up to the first space, and the fields behind it
unfoldable pub first_field : List ℕ → List ℕ
first_field [] = []
first_field (b ∷ bs) = cond (eqb b 32) [] (b ∷ first_field bs)

unfoldable pub other_fields : List ℕ → List (List ℕ)
other_fields [] = []
other_fields (b ∷ bs) = cond (eqb b 32) (first_field bs ∷ other_fields bs) (other_fields bs)

-- "unsigned base ten": the digits 0 to 9, and the value of digits that follow the value v
abbrev pub is_digit : ℕ → Bool
is_digit b = between 48 57 b

unfoldable pub value_from : ℕ → List ℕ → ℕ
value_from v [] = v
value_from v (b ∷ bs) = value_from (v * 10 + (b - 48)) bs

-- whether bytes go on a number that has the value v so far: digits, and no "number of 2^32 or more"
unfoldable pub goes_on : ℕ → List ℕ → Bool
goes_on v bs = every is_digit bs && ltb (value_from v bs) 4_294_967_296

-- a number has a digit at least
unfoldable pub is_number : List ℕ → Bool
is_number [] = false
is_number (b ∷ bs) = goes_on 0 (b ∷ bs)

unfoldable pub values : List (List ℕ) → List ℕ
values [] = []
values (f ∷ fs) = value_from 0 f ∷ values fs

-- how many numbers follow each letter: O 3, E 3, L 27 ("L has 24 amounts"), T 3, W 2, R 5, X 2, C and D none
unfoldable pub count_of : ℕ → ℕ
count_of l =
    cond (eqb l 79) 3
    (cond (eqb l 69) 3
    (cond (eqb l 76) 27
    (cond (eqb l 84) 3
    (cond (eqb l 87) 2
    (cond (eqb l 82) 5
    (cond (eqb l 88) 2
    0))))))

-- the letters of the eight calls
unfoldable pub is_call : ℕ → Bool
is_call l = eqb l 69 || (eqb l 76 || (eqb l 84 || (eqb l 87 || (eqb l 82 || (eqb l 88 || (eqb l 67 || eqb l 68))))))

-- "E kind capacity asset; L unit partner price amounts; T unit number quantity; W unit number; R unit direction period
-- price quantity; X (cancel) unit number; C (clear); D (close)"; 744 rows of six numbers are lent
unfoldable pub call_of : ℕ → List ℕ → Call
call_of l ns =
    cond (eqb l 69) (call_enrol (get_or ns 0 0) (get_or ns 1 0) (get_or ns 2 0))
    (cond (eqb l 76) (call_offer (get_or ns 0 0) (get_or ns 1 0) (get_or ns 2 0) (drop 3 ns))
    (cond (eqb l 84) (call_take (get_or ns 0 0) (get_or ns 1 0) (get_or ns 2 0) 4_464)
    (cond (eqb l 87) (call_withdraw (get_or ns 0 0) (get_or ns 1 0))
    (cond (eqb l 82) (call_order (get_or ns 0 0) (get_or ns 1 0) (get_or ns 2 0) (get_or ns 3 0) (get_or ns 4 0) 4_464)
    (cond (eqb l 88) (call_cancel (get_or ns 0 0) (get_or ns 1 0))
    (cond (eqb l 67) (call_clear 4_464)
    call_close))))))

-- "O days floor ceiling", or a call
unfoldable pub line_of : ℕ → List ℕ → Line
line_of l ns =
    cond (eqb l 79) (opening (get_or ns 0 0) (get_or ns 1 0) (get_or ns 2 0))
    (cond (is_call l) (calling (call_of l ns)) unknown)

-- "a wrong count of fields" is not understood
unfoldable pub called : ℕ → List ℕ → Line
called l ns = cond (eqb (length ns) (count_of l)) (line_of l ns) unknown

-- a letter, the numbers vs, and further fields
unfoldable pub numbered : ℕ → List ℕ → List (List ℕ) → Line
numbered l vs fs = cond (every is_number fs) (called l (vs ++ values fs)) unknown

-- the first field is one letter
unfoldable pub lettered : List ℕ → List (List ℕ) → Line
lettered [] fs = unknown
lettered (l ∷ []) fs = numbered l [] fs
lettered (l ∷ b ∷ bs) fs = unknown

-- what a line says
unfoldable pub parse : List ℕ → Line
parse line = lettered (first_field line) (other_fields line)
