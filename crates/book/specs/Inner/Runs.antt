-- What the functions that write runs of words leave in memory.
use Rattle.std.specs.Prelude.{◌≡◌, ℕ, ◌+◌, ◌<◌, ◌≤◌, List, length, ◌≢◌}
use Rattle.book.specs.Layout.{block_words, day_place, word}

-- x is m with 0 from one place up to another
pub record Emptied (m : List ℕ) (from to : ℕ) (x : List ℕ) : Type 0 where
  pub long : length x ≡ length m
  pub zeros : (i : ℕ) → from ≤ i → i < to → word x i ≡ 0
  pub before : (i : ℕ) → i < from → word x i ≡ word m i
  pub behind : (i : ℕ) → to ≤ i → word x i ≡ word m i

-- x is m with the words a step behind, from one place up to another
pub record Shifted (m : List ℕ) (from to step : ℕ) (x : List ℕ) : Type 0 where
  pub long : length x ≡ length m
  pub here : (i : ℕ) → from ≤ i → i < to → word x i ≡ word m (i + step)
  pub before : (i : ℕ) → i < from → word x i ≡ word m i
  pub behind : (i : ℕ) → to ≤ i → word x i ≡ word m i

-- x is m with the figures of the unit at place k 0 on the first n days
pub record UnitEmptied (m x : List ℕ) (k n : ℕ) : Type 0 where
  pub long : length x ≡ length m
  pub zeros : (d c : ℕ) → d < n → c < block_words → word x (day_place d k + c) ≡ 0
  pub kept : (i : ℕ) → ((d c : ℕ) → d < n → c < block_words → i ≢ day_place d k + c) → word x i ≡ word m i
