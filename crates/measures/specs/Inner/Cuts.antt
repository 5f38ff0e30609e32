-- How the code finds the places that get one kWh more: cited by contracts of private functions and by laws alone.
use Rattle.std.specs.Prelude.{ℕ, zero, suc, ◌+◌, ◌-◌, ◌*◌, ◌/◌, ◌%◌, ◌≤◌, ◌<◌, min, max, ◌≡◌, cond, List, length, get_or, leb, ltb, eqb}
use Rattle.measures.specs.Ranges.{most_energy}
use Rattle.measures.specs.Lists.{count, one}
use Rattle.measures.specs.Sharing.{total, rounded, fraction, left_over}

-- what writing the parts asks: a sum that is neither 0 nor over the range, d within the range, and room for each part
pub record Shareable (d R : ℕ) (rs m : List ℕ) : Type 0 where
  pub sum : R ≡ total rs
  pub some : 0 < R
  pub small : R ≤ most_energy
  pub few : d ≤ most_energy
  pub room : length rs ≤ length m

-- a rounded part and its fraction stand in one number: the part times `half`, and the fraction
abbrev pub half : ℕ
half = 4_294_967_296

abbrev pub packed : ℕ → List ℕ → ℕ → ℕ
packed d rs j = rounded d rs j * half + fraction d rs j

-- the fraction of the number at place i
abbrev pub rest : List ℕ → ℕ → ℕ
rest m i = get_or m i 0 % half

-- how many of the first n numbers are x or more, and how many are x
unfoldable pub reach : (ℕ → ℕ) → ℕ → ℕ → ℕ
reach w n x = count n (λ i. leb x (w i))

unfoldable pub ties : (ℕ → ℕ) → ℕ → ℕ → ℕ
ties w n x = count n (λ i. eqb (w i) x)

-- the k largest of the first n numbers are all those above t, and some of those that are t
pub record Cut (w : ℕ → ℕ) (n k t : ℕ) : Type 0 where
  pub above : reach w n (t + 1) ≤ k
  pub from : k ≤ reach w n t

-- they end at t, and `above` of them lie above it
pub record Edged (w : ℕ → ℕ) (n k t above : ℕ) : Type 0 where
  pub cut : Cut w n k t
  pub count : above ≡ reach w n (t + 1)

-- they end from `low` to below `high`: where the search stands
pub record Between (w : ℕ → ℕ) (n k low high above from : ℕ) : Type 0 where
  pub order : low < high
  pub range : high ≤ most_energy
  pub top : above ≡ reach w n high
  pub few : above ≤ k
  pub bottom : from ≡ reach w n low
  pub many : k ≤ from

-- g of one after the other of the first n numbers, from b on
unfoldable pub folded : (ℕ → ℕ → ℕ) → (ℕ → ℕ) → ℕ → ℕ → ℕ
folded g w b zero = b
folded g w b (suc n) = g (folded g w b n) (w n)

-- the larger of y and x, where x is below m; the smaller of the two, where x is m or more
abbrev pub higher_below : ℕ → ℕ → ℕ → ℕ
higher_below m y x = cond (ltb x m) (max x y) y

abbrev pub lower_from : ℕ → ℕ → ℕ → ℕ
lower_from m y x = cond (ltb x m) y (min x y)

-- m' has f at each place from i to before e, and is m elsewhere
pub record Written (i e : ℕ) (f : ℕ → ℕ) (m m' : List ℕ) : Type 0 where
  pub before : (j : ℕ) → j < i → get_or m' j 0 ≡ get_or m j 0
  pub each : (j : ℕ) → i ≤ j → j < e → get_or m' j 0 ≡ f j
  pub past : (j : ℕ) → e ≤ j → get_or m' j 0 ≡ get_or m j 0

-- the packed numbers of the places are written, and k is what is left over
pub record Divided (d : ℕ) (rs m m' : List ℕ) (k : ℕ) : Type 0 where
  pub written : Written 0 (length rs) (packed d rs) m m'
  pub left : k ≡ left_over d rs

-- the upper half of the number at place j, and one more where its fraction is x or more
abbrev pub settled : ℕ → List ℕ → ℕ → ℕ
settled x m j = get_or m j 0 / half + one (leb x (rest m j))

-- what a look leaves of a search over m for k numbers, from low to below high: the same search, with less between the bounds
pub record Nearer (m : List ℕ) (k low high : ℕ) (m' : List ℕ) (k' low' high' : ℕ) : Type 0 where
  pub parts : m' ≡ m
  pub wanted : k' ≡ k
  pub less : high' - low' < high - low
