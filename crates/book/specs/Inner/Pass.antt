-- What the functions of the pass over a unit's figures promise one another. A word of faults joins words and differences
-- that wrap: it is below 2^40 just where each cell fits, and there the sums are true.
use Rattle.std.specs.Prelude.{◌≡◌, ℕ, ◌+◌, ◌*◌, ◌%◌, ◌^◌, ◌<◌, ◌≤◌, List, length, slice_index}
use Rattle.measures.specs.Lists.{sum}
use Rattle.book.specs.declared.pass.Sums.{Sums}
use Rattle.limits.specs.Units.{most_capacity, periods}
use Rattle.limits.specs.Limits.{hour_of, hour_limit}
use Rattle.book.specs.Layout.{DAYS, unit_place, CAPACITY, figure_place, RAISED, LOWERED, MARK, VOLUME, word}

pub record Same (A B : Type 0) : Type 0 where
  pub there : A → B
  pub back : B → A

-- a word that is no fault
abbrev pub Low : ℕ → Type 0
Low x = x < 1_099_511_627_776

-- the most that is open of a unit in a period: 256 orders, 8 offers, and one declaration more
abbrev pub most_open : ℕ
most_open = 1_060_000_000_000

-- r joins a and b: it is below a power of 2 where both are
pub record Joined (a b r : ℕ) : Type 0 where
  pub below : (k : ℕ) → Same (r < 2 ^ k) ((a < 2 ^ k) × (b < 2 ^ k))

-- the figures of a unit in a period, its hour limit, and what raises and lowers
pub record Cell : Type 0 where
  pub held : ℕ
  pub raised : ℕ
  pub lowered : ℕ
  pub mark : ℕ
  pub volume : ℕ
  pub limit : ℕ
  pub up : ℕ
  pub down : ℕ

abbrev pub cell_at : List ℕ → ℕ → ℕ → ℕ → ℕ → Cell
cell_at m i limit up down =
    record {
      held = word m i;
      raised = word m (i + RAISED);
      lowered = word m (i + LOWERED);
      mark = word m (i + MARK);
      volume = word m (i + VOLUME);
      limit = limit;
      up = up;
      down = down;
    }

-- by hour of the day whose figures begin at `at`, and by period
unfoldable pub day_cell : List ℕ → ℕ → List ℕ → (ℕ → ℕ) → (ℕ → ℕ) → ℕ → Cell
day_cell m at limits x y h = cell_at m (at + h) (slice_index limits h) (x h) (y h)

unfoldable pub unit_cell : List ℕ → ℕ → (ℕ → ℕ) → (ℕ → ℕ) → ℕ → Cell
unit_cell m k x y p = cell_at m (figure_place k p) (hour_limit (word m (unit_place k)) (word m (unit_place k + CAPACITY)) (hour_of p)) (x p) (y p)

-- that a cell fits its hour, and that its volume is no fault
pub record CellFits (held raised lowered volume limit up down : ℕ) : Type 0 where
  pub most : held + (raised + up) ≤ limit
  pub least : lowered + down ≤ held
  pub traded : Low volume

abbrev pub Fits : Cell → Type 0
Fits c = CellFits c.held c.raised c.lowered c.volume c.limit c.up c.down

-- that the first n cells do, and that their marks are in range
pub record CellsFit (n : ℕ) (f : ℕ → Cell) : Type 0 where
  pub cells : (i : ℕ) → i < n → Fits (f i)

pub record MarksFit (n : ℕ) (f : ℕ → Cell) : Type 0 where
  pub marks : (i : ℕ) → i < n → (f i).mark < 4

-- what the pass over the first n cells comes to: the words of faults, and sums that are true where there is no fault
pub record Pass (n : ℕ) (f : ℕ → Cell) (bad marks whole volume : ℕ) : Type 0 where
  pub faults : Same (Low bad) (CellsFit n f)
  pub marked : Same (marks < 4) (MarksFit n f)
  pub term : Low bad → whole ≡ sum n (λ i. (f i).held + ((f i).raised + (f i).up))
  pub most : Low bad → volume ≡ sum n (λ i. (f i).volume + ((f i).up + (f i).down))

-- that no hour limit passes the largest capacity
pub record Limited (f : ℕ → Cell) : Type 0 where
  pub limit : (i : ℕ) → (f i).limit ≤ most_capacity

abbrev pub Passed : ℕ → (ℕ → Cell) → Sums → Type 0
Passed n f s = Pass n f s.bad s.marks s.whole s.volume

-- what the pass over all periods of the unit at place k comes to, where x raises and y lowers
abbrev pub UnitPass : List ℕ → ℕ → (ℕ → ℕ) → (ℕ → ℕ) → Sums → Type 0
UnitPass m k x y s = Passed (periods (word m DAYS)) (unit_cell m k x y) s

-- r joins the passes over so many days, of which day d may come to any s where P d s: if each of them is the pass over the
-- day's cells of f, then r is that over all of them
abbrev pub DaysJoined : (ℕ → Sums → Type 0) → ℕ → Sums → Type 0
DaysJoined P days r =
    (f : ℕ → Cell) → Limited f → ((d : ℕ) (s : Sums) → d < days → P d s → Passed 24 (λ h. f (24 * d + h)) s) → Passed (24 * days) f r

-- r joins two passes
pub record Together (a b r : Sums) : Type 0 where
  pub faults : Joined a.bad b.bad r.bad
  pub marked : Joined a.marks b.marks r.marks
  pub term : r.whole ≡ (a.whole + b.whole) % 2 ^ 64
  pub most : r.volume ≡ (a.volume + b.volume) % 2 ^ 64

-- l holds the first n hour limits of a unit
pub record HourLimits (kind capacity n : ℕ) (l : List ℕ) : Type 0 where
  pub each : (h : ℕ) → h < n → slice_index l h ≡ hour_limit kind capacity h
  pub below : (h : ℕ) → slice_index l h ≤ capacity
  pub long : length l ≡ 24

-- l holds those of the unit at place k
abbrev pub HourTable : List ℕ → ℕ → List ℕ → Type 0
HourTable m k l = HourLimits (word m (unit_place k)) (word m (unit_place k + CAPACITY)) 24 l
