-- What the exported calls promise: the book's own contracts, with the answer told in numbers. Each returns the refusal, r,
-- and hands over its number and its count of rows, out.
use Rattle.std.specs.Prelude.{ℕ, ◌≡◌, List, [], ◌∷◌}
use Rattle.book.specs.Book.{Rules}
use Rattle.book.specs.Calls.{Call}
use Rattle.book.specs.Contract.{Answer, Made, Opened, Curved, told_by}

-- one of the eight calls
pub record Called (m rows : List ℕ) (c : Call) (r : ℕ) (out m' rows' : List ℕ) : Type 0 where
  pub answer : Answer
  pub made : Made m rows c answer m' rows'
  pub refusal : r ≡ (told_by answer).refusal
  pub handed : out ≡ (told_by answer).number ∷ (told_by answer).count ∷ []

-- opening
pub record BookOpened (m : List ℕ) (rules : Rules) (r : ℕ) (out m' : List ℕ) : Type 0 where
  pub answer : Answer
  pub opened : Opened m rules answer m'
  pub refusal : r ≡ (told_by answer).refusal
  pub handed : out ≡ (told_by answer).number ∷ (told_by answer).count ∷ []

-- the curve
pub record CurveDrawn (m pts : List ℕ) (unit day r : ℕ) (out pts' : List ℕ) : Type 0 where
  pub answer : Answer
  pub curved : Curved m pts unit day answer pts'
  pub refusal : r ≡ (told_by answer).refusal
  pub handed : out ≡ (told_by answer).number ∷ (told_by answer).count ∷ []
