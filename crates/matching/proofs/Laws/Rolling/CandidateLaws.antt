-- Whom an incoming order can meet, by cases, and who stands ahead for it: at equal prices the lower number.
use mathlib.Core.Path.{◌≡◌}
use mathlib.Core.Bool.{Bool}
use native.Mathlib.Omega.{arith}
use borrow.Author.Tests.{eq-eqb, le-ltb}
use lib.Dec.{ltb}
use Rattle.measures.proofs.ListLaws.{cond_case}
use Rattle.matching.specs.Orders.{Order, buys, bid_ahead, ask_ahead}
use Rattle.matching.specs.Rolling.{ahead_for}

module _ (a b : Order) where
  ask_equal : a.price ≡ b.price → ask_ahead a b ≡ ltb a.number b.number
  unfolding ask_ahead
  ask_equal e = rw (le-ltb a.price b.price (omega arith), eq-eqb a.price b.price e)

  bid_equal : a.price ≡ b.price → bid_ahead a b ≡ ltb a.number b.number
  unfolding bid_ahead
  bid_equal e = rw (le-ltb b.price a.price (omega arith), eq-eqb a.price b.price e)

  pub ahead_equal : (i : Order) → a.price ≡ b.price → ahead_for i a b ≡ ltb a.number b.number
  ahead_equal i e =
      cond_case (λ (f : Order → Order → Bool). f a b ≡ ltb a.number b.number) (buys i.direction) ask_ahead bid_ahead
      (λ h. ask_equal e) (λ h. bid_equal e)
