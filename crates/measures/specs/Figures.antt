-- Figure 1 of paper 01, as paper 02 changes it: an amount, the amounts that it is shared over, and the parts.
use Rattle.std.specs.Prelude.{ℕ, ◌≡◌, List, [], ◌∷◌}
use Rattle.measures.specs.Sharing.{parts, less_each}

pub record Shared : Type 0 where
  pub amount : ℕ
  pub over : List ℕ
  pub gives : List ℕ

-- every figure of a list is what `parts` gives
abbrev pub AllShared : List Shared → Type 0
AllShared [] = Unit {0}
AllShared (f ∷ fs) = (parts f.amount f.over ≡ f.gives) × AllShared fs

-- "Figure 1 becomes 2,1,1, then 0,1,1 over 1,2,2": share 4 over 3,3,3, then 2 over what is left
abbrev pub figure1 : List Shared
figure1 =
    record { amount = 4; over = 3 ∷ 3 ∷ 3 ∷ []; gives = 2 ∷ 1 ∷ 1 ∷ [] }
    ∷ record { amount = 2; over = 1 ∷ 2 ∷ 2 ∷ []; gives = 0 ∷ 1 ∷ 1 ∷ [] }
    ∷ []

-- what 4 over 3,3,3 leaves, which 2 are then shared over
abbrev pub LeftByFigure1 : Type 0
LeftByFigure1 = less_each (3 ∷ 3 ∷ 3 ∷ []) (parts 4 (3 ∷ 3 ∷ 3 ∷ [])) ≡ 1 ∷ 2 ∷ 2 ∷ []

-- and shares that tell the rule from others: equal fractions by lowest place, not to the larger amount; fractions compared exactly; an
-- amount over R
abbrev pub odd_kwh : List Shared
odd_kwh =
    record { amount = 1; over = 1 ∷ 1 ∷ []; gives = 1 ∷ 0 ∷ [] }
    ∷ record { amount = 2; over = 1 ∷ 3 ∷ []; gives = 1 ∷ 1 ∷ [] }
    ∷ record { amount = 1; over = 4_999_999 ∷ 5_000_000 ∷ 4_999_999 ∷ []; gives = 0 ∷ 1 ∷ 0 ∷ [] }
    ∷ record { amount = 7; over = 1 ∷ 2 ∷ []; gives = 2 ∷ 5 ∷ [] }
    ∷ []
