-- Every line of the input is answered once and in order.
use Rattle.std.specs.Prelude.{ℕ, ◌≡◌, Bool, List, [], ◌++◌, take}
use Rattle.lines.specs.Rehearsed.{rehearsed}
use Rattle.lines.specs.Stepping.{State, state, fresh_desk, Stepped, Ended}

-- steps over an input, cut in any way, each as its contract promises: from s to s' over `input`, with `text` printed
pub data Steps : (s : State) (input : List ℕ) (s' : State) (text : List ℕ) → Type 0 where
  no_step : {s : State} → Steps s [] s []
  next_step : {s s₁ s₂ : State} {input text : List ℕ} (bytes : List ℕ) (used : ℕ) (line : List ℕ)
      → Steps s input s₁ text → Stepped s₁ bytes s₂ used line → Steps s (input ++ take used bytes) s₂ (text ++ line)

-- steps over a whole input from a fresh desk, on memory that holds anything, and its end: `text` is printed
pub record Run (numbers memory input text : List ℕ) : Type 0 where
  pub at : State
  pub before : List ℕ
  pub steps : Steps (state fresh_desk numbers memory) input at before
  pub started : Bool
  pub left : List ℕ
  pub last : List ℕ
  pub ended : Ended at started left last
  pub all : text ≡ before ++ last

abbrev pub EveryLineAnswered : Type 0
EveryLineAnswered = (numbers memory input text : List ℕ) → Run numbers memory input text → text ≡ rehearsed input
