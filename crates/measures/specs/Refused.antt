-- The table "Refusals by place of check" (paper 01): the number of each.
use Rattle.std.specs.Prelude.{ℕ, Result, Ok, Err}
use Rattle.measures.specs.declared.refusals.Refusal.{Refusal}
use Rattle.measures.specs.declared.refusals.Refusal.TheVariants.{
  UnsoundBook,
  BadOpening,
  BadKind,
  BadSize,
  UnitsFull,
  UnknownName,
  FewRows,
  BadPrice,
  BadEnergy,
  BadPeriod,
  NoSuchNumber,
  WrongParty,
  AfterTake,
  ClearInRolling,
  OtherDirection,
  TwoOpen,
  TablesFull,
  NumbersUsed,
  HourMisfit,
  TermMisfit,
  VolumeMisfit,
}

abbrev pub number_of : Refusal → ℕ
number_of UnsoundBook = 1
number_of BadOpening = 2
number_of BadKind = 3
number_of BadSize = 4
number_of UnitsFull = 5
number_of UnknownName = 6
number_of FewRows = 7
number_of BadPrice = 8
number_of BadEnergy = 9
number_of BadPeriod = 10
number_of NoSuchNumber = 11
number_of WrongParty = 12
number_of AfterTake = 13
number_of ClearInRolling = 14
number_of OtherDirection = 15
number_of TwoOpen = 16
number_of TablesFull = 17
number_of NumbersUsed = 18
number_of HourMisfit = 19
number_of TermMisfit = 20
number_of VolumeMisfit = 21

-- the refusal of an answer by its number, and 0 where it is none
abbrev pub refusal_of : {A : Type 0} → Result A Refusal → ℕ
refusal_of (Ok a) = 0
refusal_of (Err refusal) = number_of refusal
