-- What the comparison of two numbers tests.
use Prim.Native.Nat.{ℕ}
use mathlib.Core.Path.{◌≡◌}
use lib.Dec.{leb, ltb}
use Rattle.std.proofs.Common.{nat_cmp, is_lt, is_le, arith}
use Rattle.std.proofs.lemmas.Bool.Decides.{nat_tests}

pub less_is : (a b : ℕ) → is_lt (nat_cmp a b) ≡ ltb a b
less_is a b = grind (arith, nat_tests)

pub at_most_is : (a b : ℕ) → is_le (nat_cmp a b) ≡ leb a b
at_most_is a b = grind (arith, nat_tests)
