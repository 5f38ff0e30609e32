-- No refusal has the number 0, and no two have one number.
use Rattle.std.proofs.Common.{◌≡◌, ℕ, ◌<◌, Result, Ok, Err, ne_eqb, cond, eqb, sym, ap, ◌∙◌, refl, arith}
use Rattle.measures.specs.declared.refusals.Refusal.{Refusal}
use Rattle.measures.specs.declared.refusals.Refusal.TheVariants.{
  UnsoundBook,
  BadOpening,
  BadKind,
  BadSize,
  UnitsFull,
  UnknownName,
  FewRows,
  BadPrice,
  BadEnergy,
  BadPeriod,
  NoSuchNumber,
  WrongParty,
  AfterTake,
  ClearInRolling,
  OtherDirection,
  TwoOpen,
  TablesFull,
  NumbersUsed,
  HourMisfit,
  TermMisfit,
  VolumeMisfit,
}
use Rattle.std.specs.Result.{is_ok}
use Rattle.measures.specs.Refused.{number_of, refusal_of}

pub number_some : (r : Refusal) → number_of r ≡ 0 → ⊥
number_some UnsoundBook e = absurd (omega arith)
number_some BadOpening e = absurd (omega arith)
number_some BadKind e = absurd (omega arith)
number_some BadSize e = absurd (omega arith)
number_some UnitsFull e = absurd (omega arith)
number_some UnknownName e = absurd (omega arith)
number_some FewRows e = absurd (omega arith)
number_some BadPrice e = absurd (omega arith)
number_some BadEnergy e = absurd (omega arith)
number_some BadPeriod e = absurd (omega arith)
number_some NoSuchNumber e = absurd (omega arith)
number_some WrongParty e = absurd (omega arith)
number_some AfterTake e = absurd (omega arith)
number_some ClearInRolling e = absurd (omega arith)
number_some OtherDirection e = absurd (omega arith)
number_some TwoOpen e = absurd (omega arith)
number_some TablesFull e = absurd (omega arith)
number_some NumbersUsed e = absurd (omega arith)
number_some HourMisfit e = absurd (omega arith)
number_some TermMisfit e = absurd (omega arith)
number_some VolumeMisfit e = absurd (omega arith)

pub number_above : (r : Refusal) → 0 < number_of r
number_above r = go (number_of r) (number_some r)
  where
    go : (n : ℕ) → (n ≡ 0 → ⊥) → 0 < n
    go n h = omega arith

-- an answer is done just where its refusal is none
pub done_zero : {A : Type 0} (r : Result A Refusal) → is_ok r ≡ eqb (refusal_of r) 0
done_zero (Ok a) = refl
done_zero (Err r) = sym (ne_eqb (number_of r) 0 (number_some r))

-- the refusal of a number
abbrev refusal_at : ℕ → Refusal
refusal_at n =
    cond (eqb n 1) UnsoundBook
    (cond (eqb n 2) BadOpening
    (cond (eqb n 3) BadKind
    (cond (eqb n 4) BadSize
    (cond (eqb n 5) UnitsFull
    (cond (eqb n 6) UnknownName
    (cond (eqb n 7) FewRows
    (cond (eqb n 8) BadPrice
    (cond (eqb n 9) BadEnergy
    (cond (eqb n 10) BadPeriod
    (cond (eqb n 11) NoSuchNumber
    (cond (eqb n 12) WrongParty
    (cond (eqb n 13) AfterTake
    (cond (eqb n 14) ClearInRolling
    (cond (eqb n 15) OtherDirection
    (cond (eqb n 16) TwoOpen
    (cond (eqb n 17) TablesFull
    (cond (eqb n 18) NumbersUsed
    (cond (eqb n 19) HourMisfit
    (cond (eqb n 20) TermMisfit VolumeMisfit)))))))))))))))))))

refusal_back : (r : Refusal) → refusal_at (number_of r) ≡ r
refusal_back UnsoundBook = refl
refusal_back BadOpening = refl
refusal_back BadKind = refl
refusal_back BadSize = refl
refusal_back UnitsFull = refl
refusal_back UnknownName = refl
refusal_back FewRows = refl
refusal_back BadPrice = refl
refusal_back BadEnergy = refl
refusal_back BadPeriod = refl
refusal_back NoSuchNumber = refl
refusal_back WrongParty = refl
refusal_back AfterTake = refl
refusal_back ClearInRolling = refl
refusal_back OtherDirection = refl
refusal_back TwoOpen = refl
refusal_back TablesFull = refl
refusal_back NumbersUsed = refl
refusal_back HourMisfit = refl
refusal_back TermMisfit = refl
refusal_back VolumeMisfit = refl

pub number_fixes : (r r' : Refusal) → number_of r ≡ number_of r' → r ≡ r'
number_fixes r r' e = sym (refusal_back r) ∙ ap refusal_at e ∙ refusal_back r'
