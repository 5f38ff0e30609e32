-- What `rehearse` prints (paper 01, "Program `rehearse`"), as bytes in ASCII.
use Rattle.std.specs.Prelude.{ℕ, zero, suc, ◌+◌, ◌/◌, ◌%◌, cond, List, [], ◌∷◌, ◌++◌, ltb}
use Rattle.matching.specs.Orders.{Row}
use Rattle.matching.specs.Memory.{flat_row}

-- "All figures are in base ten": at most k digits of n, no zeros in front
unfoldable pub digits : ℕ → ℕ → List ℕ
digits zero n = []
digits (suc k) n = cond (ltb n 10) ((48 + n) ∷ []) (digits k (n / 10) ++ ((48 + n % 10) ∷ []))

-- a number below 2^64 has at most 20 digits
unfoldable pub decimal : ℕ → List ℕ
decimal n = digits 20 n

-- a space before each number
unfoldable pub spaced : List ℕ → List ℕ
spaced [] = []
spaced (n ∷ ns) = 32 ∷ (decimal n ++ spaced ns)

-- "`t` and the six fields for each row"
unfoldable pub printed_row : Row → List ℕ
printed_row r = 116 ∷ (spaced (flat_row r) ++ (10 ∷ []))

unfoldable pub printed_rows : List Row → List ℕ
printed_rows [] = []
printed_rows (r ∷ rs) = printed_row r ++ printed_rows rs

-- "`ok` and the returned number", then the rows
unfoldable pub printed_ok : ℕ → List Row → List ℕ
printed_ok number rs = 111 ∷ 107 ∷ (spaced (number ∷ []) ++ (10 ∷ printed_rows rs))

-- "`no` and the refusal"
unfoldable pub printed_no : ℕ → List ℕ
printed_no refusal = 110 ∷ 111 ∷ (spaced (refusal ∷ []) ++ (10 ∷ []))
