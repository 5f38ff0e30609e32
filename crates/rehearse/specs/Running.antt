-- What the program leaves: steps over what it read, each as `lines` promises it. The bytes that an input has left and that an
-- output holds stand in it as far as they are known, as std says.
use Rattle.std.specs.Prelude.{◌≡◌, Bool, List, ℕ, Option, Result, OnOk}
use Rattle.std.specs.Io.KnownBytes.{Consumes, Appends, IsAtEnd}
use Rattle.lines.specs.Rehearsed.{rehearsed}
use Rattle.lines.specs.Stepping.{State}
use Rattle.lines.specs.EveryLine.{Steps, Run}

module _ {T E : Type 0} where
  -- steps over these bytes, none left out, from s to s'; unless a write failed, the output grew from o to o' by what is printed
  pub record PieceAnswered (s : State) (bytes : List ℕ) (s' : State) (o : Option (List ℕ)) (written : Result T E) (o' : Option (List ℕ)) : Type 0 where
    pub text : List ℕ
    pub steps : Steps s bytes s' text
    pub writes : OnOk written (Appends o o' text)

  -- steps over the bytes that were read from an input, from i to i'
  pub record ReadFrom (s s' : State) (i i' o : Option (List ℕ)) (written : Result T E) (o' : Option (List ℕ)) : Type 0 where
    pub bytes : List ℕ
    pub reads : Consumes i i' bytes
    pub passed : PieceAnswered s bytes s' o written o'

  -- an input was read, what was printed for it is the answer to each of its lines, and the memory is left as that run leaves it,
  -- whatever failed; unless a read or a write failed, nothing of the input is left and all of that was written
  pub record Rehearsal (numbers memory : List ℕ) (started' : Bool) (memory' : List ℕ) (i i' o : Option (List ℕ)) (written : Result T E)
      (o' : Option (List ℕ)) : Type 0 where
    pub input : List ℕ
    pub text : List ℕ
    pub run : Run numbers memory input text
    pub started : run.started ≡ started'
    pub left : run.left ≡ memory'
    pub answered : text ≡ rehearsed input
    pub reads : Consumes i i' input
    pub writes : OnOk written (Appends o o' text)
    pub ends : OnOk written (IsAtEnd i')
