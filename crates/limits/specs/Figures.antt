-- The limits of figures 5 and 6 of paper 01.
use Rattle.std.specs.Prelude.{ℕ, ◌≡◌, List, [], ◌∷◌}
use Rattle.limits.specs.Limits.{Answer, given, limits_at}

-- a unit of 100 kW on one day, by kind and hour, and its limits
pub record Limited : Type 0 where
  pub kind : ℕ
  pub hour : ℕ
  pub gives : Answer

abbrev pub AllLimited : List Limited → Type 0
AllLimited [] = Unit {0}
AllLimited (f ∷ fs) = (limits_at 1 f.kind 100 0 f.hour ≡ f.gives) × AllLimited fs

-- "Kind 2, 100 kW, one day: limits 100, 2,400, 2,880."
abbrev pub figure5 : List Limited
figure5 = record { kind = 2; hour = 0; gives = given 100 2400 2880 } ∷ []

-- "Kind 1, 100 kW, one day": hours 5 and 20 have none, 6 and 19 take 100
abbrev pub figure6 : List Limited
figure6 =
    record { kind = 1; hour = 5; gives = given 0 1000 1200 }
    ∷ record { kind = 1; hour = 20; gives = given 0 1000 1200 }
    ∷ record { kind = 1; hour = 6; gives = given 100 1000 1200 }
    ∷ record { kind = 1; hour = 19; gives = given 100 1000 1200 }
    ∷ []
