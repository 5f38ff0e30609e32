-- The text of rows as they stand in lent memory, and of an answer with them.
use Rattle.std.specs.Prelude.{ℕ, zero, suc, List, [], ◌∷◌, ◌++◌, take, drop, Ok, Err}
use Rattle.measures.specs.Refused.{number_of}
use Rattle.book.specs.Contract.{Answer}
use Rattle.lines.specs.Printed.{spaced, printed_no}

-- `t`, the six words of a row, and a line end
unfoldable pub row_text : List ℕ → List ℕ
row_text ws = 116 ∷ (spaced ws ++ (10 ∷ []))

-- the first k rows of memory
unfoldable pub rows_text : ℕ → List ℕ → List ℕ
rows_text zero ws = []
rows_text (suc k) ws = row_text (take 6 ws) ++ rows_text k (drop 6 ws)

-- `ok` with the first k rows of memory
unfoldable pub ok_text : ℕ → ℕ → List ℕ → List ℕ
ok_text number k ws = 111 ∷ 107 ∷ (spaced (number ∷ []) ++ (10 ∷ rows_text k ws))

-- what a call answers, with the rows that it counts
unfoldable pub answer_text : Answer → List ℕ → List ℕ
answer_text (Ok done) ws = ok_text done.number done.count ws
answer_text (Err refusal) ws = printed_no (number_of refusal)
