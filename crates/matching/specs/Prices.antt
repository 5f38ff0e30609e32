-- Prices by period, as they are noted order by order.
use Rattle.std.specs.Prelude.{ℕ, ◌+◌, min, cond, not, ◌&&◌, List, get_or, set, eqb, leb, ltb}
use Rattle.matching.specs.Memory.{most_word}

-- `high` has one more than the highest buy price of each period so far, or the largest number; `low` the lowest sell price. A
-- period that the lists do not reach changes nothing
unfoldable pub high_with : ℕ → ℕ → ℕ → List ℕ → List ℕ
high_with direction p price high = cond (eqb direction 1 && leb (get_or high p 0) price) (set high p (min (price + 1) most_word)) high

unfoldable pub low_with : ℕ → ℕ → ℕ → List ℕ → List ℕ
low_with direction p price low = cond (not (eqb direction 1) && ltb price (get_or low p 0)) (set low p price) low
