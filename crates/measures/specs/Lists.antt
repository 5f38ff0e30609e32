-- Sums and tests over lists and over the numbers below a bound.
use Rattle.std.specs.Prelude.{ℕ, zero, suc, ◌+◌, ◌≡◌, ◌⊎◌, Bool, true, cond, ◌&&◌, List, [], ◌∷◌}

-- whether each of a list of conditions holds
unfoldable pub holds : List Bool → Bool
holds [] = true
holds (c ∷ cs) = c && holds cs

module _ {A : Type 0} where
  -- the sum of f over a list
  abbrev pub sum_of : (A → ℕ) → List A → ℕ
  sum_of f [] = 0
  sum_of f (x ∷ xs) = f x + sum_of f xs

  -- whether f holds of each element
  abbrev pub every : (A → Bool) → List A → Bool
  every f [] = true
  every f (x ∷ xs) = f x && every f xs

  -- that P is so of each element
  abbrev pub Each : (A → Type 0) → List A → Type 0
  Each P [] = Unit {0}
  Each P (x ∷ xs) = P x × Each P xs

  -- that x is an element
  abbrev pub Has : A → List A → Type 0
  Has x [] = ⊥
  Has x (y ∷ ys) = (x ≡ y) ⊎ Has x ys

  -- the elements of which f holds, in their order
  abbrev pub keep : (A → Bool) → List A → List A
  keep f [] = []
  keep f (x ∷ xs) = cond (f x) (x ∷ keep f xs) (keep f xs)

-- that R is so of two lists' elements, place by place, and that they are of one length
abbrev pub Along : {A B : Type 0} → (A → B → Type 0) → List A → List B → Type 0
Along R [] [] = Unit {0}
Along R [] (y ∷ ys) = ⊥
Along R (x ∷ xs) [] = ⊥
Along R (x ∷ xs) (y ∷ ys) = R x y × Along R xs ys

-- the sum of f over the numbers below n
unfoldable pub sum : ℕ → (ℕ → ℕ) → ℕ
sum zero f = 0
sum (suc n) f = sum n f + f n

-- 1 where a test holds, 0 where it fails
abbrev pub one : Bool → ℕ
one b = cond b 1 0

-- how many of the numbers below n pass a test
abbrev pub count : ℕ → (ℕ → Bool) → ℕ
count n f = sum n (λ i. one (f i))

-- whether f holds of each number below n
unfoldable pub all : ℕ → (ℕ → Bool) → Bool
all zero f = true
all (suc n) f = all n f && f n

-- f of each number below n, in their order
unfoldable pub table_from : {A : Type 0} → ℕ → ℕ → (ℕ → A) → List A
table_from k zero f = []
table_from k (suc n) f = f k ∷ table_from (suc k) n f

abbrev pub table : {A : Type 0} → ℕ → (ℕ → A) → List A
table n f = table_from 0 n f
