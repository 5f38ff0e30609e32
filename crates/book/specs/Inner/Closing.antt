-- What the functions that close the day leave in memory.
use Rattle.std.specs.Prelude.{◌≡◌, ℕ, ◌+◌, ◌-◌, ◌*◌, ◌<◌, ◌≤◌, List, length, ◌≢◌}
use Rattle.limits.specs.Units.{most_capacity}
use Rattle.book.specs.Layout.{DAYS, UNITS, figures_start, day_place, RAISED, LOWERED, MARK, VOLUME, word}

-- the hours of a day
abbrev pub hours : ℕ
hours = 24

-- that the figures that begin at a place, of a unit on a day, come to a net in every hour
pub record BlockNetted (m : List ℕ) (at : ℕ) : Type 0 where
  pub held : (h : ℕ) → h < hours → word m (at + h) + word m (at + h + RAISED) ≤ most_capacity
  pub lowered : (h : ℕ) → h < hours → word m (at + h + LOWERED) ≤ word m (at + h)

-- that every unit's figures do on day d, and on every day
abbrev pub DayNetted : List ℕ → ℕ → Type 0
DayNetted m d = (k : ℕ) → k < word m UNITS → BlockNetted m (day_place d k)

pub record Netting (m : List ℕ) : Type 0 where
  pub each : (d : ℕ) → d < word m DAYS → DayNetted m d

-- x has of the figures that begin at a place, in the first n hours, those of m with the day over
pub record BlockOver (m x : List ℕ) (at n : ℕ) : Type 0 where
  pub held : (h : ℕ) → h < n → word x (at + h) ≡ word m (at + h) + word m (at + h + RAISED) - word m (at + h + LOWERED)
  pub raised : (h : ℕ) → h < n → word x (at + h + RAISED) ≡ 0
  pub lowered : (h : ℕ) → h < n → word x (at + h + LOWERED) ≡ 0
  pub mark : (h : ℕ) → h < n → word x (at + h + MARK) ≡ 0
  pub volume : (h : ℕ) → h < n → word x (at + h + VOLUME) ≡ word m (at + h + VOLUME)

-- the words of a block from raised up to a place in it are 0
abbrev pub Untraded : List ℕ → ℕ → ℕ → Type 0
Untraded m at n = (i : ℕ) → RAISED ≤ i → i < n → word m (at + i) ≡ 0

-- and all else as it was
pub record BlockClosed (m x : List ℕ) (at n : ℕ) : Type 0 where
  pub long : length x ≡ length m
  pub over : BlockOver m x at n
  pub kept : (i : ℕ) → ((h f : ℕ) → h < n → f < 4 → i ≢ at + h + hours * f) → word x i ≡ word m i

-- x is m with the day over for the first k units on day d, and all else as it was
pub record DayOver (m x : List ℕ) (d k : ℕ) : Type 0 where
  pub long : length x ≡ length m
  pub over : (j : ℕ) → j < k → BlockOver m x (day_place d j) hours
  pub before : (i : ℕ) → i < day_place d 0 → word x i ≡ word m i
  pub behind : (i : ℕ) → day_place d k ≤ i → word x i ≡ word m i

-- x is m with the day over for all units on the first n days, and all else as it was
pub record DaysOver (m x : List ℕ) (n : ℕ) : Type 0 where
  pub long : length x ≡ length m
  pub over : (d : ℕ) → d < n → (j : ℕ) → j < word m UNITS → BlockOver m x (day_place d j) hours
  pub before : (i : ℕ) → i < figures_start → word x i ≡ word m i
  pub behind : (i : ℕ) → day_place n 0 ≤ i → word x i ≡ word m i
