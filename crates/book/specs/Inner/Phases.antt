-- The phases of a day by their numbers.
use Rattle.std.specs.Prelude.{ℕ, ◌≡◌, ◌<◌, Result, MatchResult}
use Rattle.measures.specs.declared.refusals.Refusal.{Refusal}
use Rattle.measures.specs.declared.refusals.Refusal.TheVariants.{UnsoundBook}
use Rattle.book.specs.Book.{call_phase, rolling_phase}
use Rattle.book.specs.declared.phase.Phase.{Phase}
use Rattle.book.specs.declared.phase.Phase.TheVariants.{Call, Rolling}

-- a phase as a book's memory holds it
abbrev pub phase_number : Phase → ℕ
phase_number Call = call_phase
phase_number Rolling = rolling_phase

-- the phase of this number, or the refusal where there is none
abbrev pub PhaseOf : ℕ → Result Phase Refusal → Type 0
PhaseOf n r = MatchResult r (λ phase. phase_number phase ≡ n) (λ refusal. (refusal ≡ UnsoundBook) × (rolling_phase < n))
