-- Laws of places that are there: the tests, and what follows from them.
use Prim.Native.Nat.{ℕ, ◌+◌, ◌*◌, ◌<◌, ◌≤◌}
use mathlib.Core.Path.{◌≡◌, refl, ◌∙◌}
use mathlib.Core.Bool.{true}
use mathlib.Core.List.{List}
use borrow.Author.Tests.{lt-ltb, le-leb}
use lib.ListN.{length}
use lib.Dec.{ltb}
use Rattle.matching.specs.Orders.{rising, numbers}
use Rattle.matching.specs.Memory.{orders_in, all_there, place_in, room_for}
use Rattle.matching.specs.Answers.{numbers_rise}

module _ (m : List ℕ) (n k : ℕ) where
  pub place_below : n ≤ 256 → 6 * n ≤ length m → place_in m n k ≡ ltb k n
  unfolding place_in
  place_below a b = rw (le-leb n 256 a, le-leb (6 * n) (length m) b)

  pub place_there : n ≤ 256 → 6 * n ≤ length m → k < n → place_in m n k ≡ true
  place_there a b h = place_below a b ∙ lt-ltb k n h

module _ (m : List ℕ) (k : ℕ) where
  pub room_there : 6 * k + 6 ≤ length m → room_for m k ≡ true
  unfolding room_for
  room_there h = le-leb (6 * k + 6) (length m) h

-- the tests of orders that all stand there, and of numbers that rise
module _ (m : List ℕ) (n : ℕ) where
  pub stand_there : n ≤ 256 → 6 * n ≤ length m → all_there m n ≡ true
  stand_there a b = rw (le-leb n 256 a, le-leb (6 * n) (length m) b) refl

  pub rise_is : n ≤ 256 → 6 * n ≤ length m → numbers_rise m n ≡ rising (numbers (orders_in m n))
  unfolding numbers_rise
  rise_is a b = rw (le-leb n 256 a, le-leb (6 * n) (length m) b)
