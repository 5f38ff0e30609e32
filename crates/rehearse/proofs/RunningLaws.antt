-- Laws of steps one behind the other.
use Prim.Native.Nat.{ℕ, ◌-◌, ◌<◌}
use mathlib.Core.Path.{◌≡◌, refl, sym, ◌∙◌}
use mathlib.Core.Bool.{Bool, true, false}
use mathlib.Core.List.{List, [], ◌∷◌, ◌++◌, append_assoc, append-nil}
use native.Mathlib.Omega.{arith}
use borrow.Author.Tests.{eqb-true}
use lib.Dec.{eqb}
use lib.ListN.{length, take, drop, length-drop}
use lib.Seq.{take_all}
use Rattle.std.proofs.lemmas.List.{take-append-drop}
use Rattle.std.specs.Prelude.{Option, Some, None, Result, Ok, Err, OnOk}
use Rattle.std.specs.Result.{result_and}
use Rattle.std.specs.Io.KnownBytes.{Consumes, Appends, IsAtEnd}
use Rattle.measures.proofs.ListLaws.{both_ways}
use Rattle.lines.specs.declared.steps.Desk.{Desk}
use Rattle.lines.specs.Stepping.{State, state, fresh_desk, Stepped, Ended}
use Rattle.lines.specs.EveryLine.{Steps, no_step, next_step, Run}
use Rattle.lines.proofs.StepLaws.{used_some, used_within}
use Rattle.lines.proofs.EveryLineHolds.{every_line_answered}
use Rattle.rehearse.specs.Running.{PieceAnswered, ReadFrom, Rehearsal}

-- steps behind steps
steps_join : {a b c : State} {i j t u : List ℕ} → Steps a i b t → Steps b j c u → Steps a (i ++ j) c (t ++ u)
steps_join {i = i} {t = t} f no_step = rw (append-nil i, append-nil t) f
steps_join {i = i} {t = t} f (next_step {input = j} {text = u} bytes used line g p) =
    rw (← append_assoc i j (take used bytes), ← append_assoc t u line) (next_step bytes used line (steps_join f g) p)

-- bytes of an input behind bytes, and of an output
reads_none : (i : Option (List ℕ)) → Consumes i i []
reads_none None = tt
reads_none (Some xs) = refl

reads_both : (a b c : Option (List ℕ)) (s t : List ℕ) → Consumes a b s → Consumes b c t → Consumes a c (s ++ t)
reads_both None b c s t f g = tt
reads_both (Some xs) None c s t f g = absurd f
reads_both (Some xs) (Some ys) None s t f g = absurd g
reads_both (Some xs) (Some ys) (Some zs) s t f g = f ∙ rw g (sym (append_assoc s t zs))

writes_none : (o : Option (List ℕ)) → Appends o o []
writes_none None = tt
writes_none (Some xs) = sym (append-nil xs)

writes_both : (a b c : Option (List ℕ)) (s t : List ℕ) → Appends a b s → Appends b c t → Appends a c (s ++ t)
writes_both None b c s t f g = tt
writes_both (Some xs) None c s t f g = absurd f
writes_both (Some xs) (Some ys) None s t f g = absurd g
writes_both (Some xs) (Some ys) (Some zs) s t f g = g ∙ rw f (append_assoc xs s t)

-- whether a piece has bytes left
pub some_left : (rest : List ℕ) → eqb (length rest) 0 ≡ false → 0 < length rest
some_left [] e = both_ways e
some_left (b ∷ bs) e = omega arith

pub none_left : (rest : List ℕ) → eqb (length rest) 0 ≡ true → rest ≡ []
none_left [] e = refl
none_left (b ∷ bs) e = let z = eqb-true (length (b ∷ bs)) 0 e in absurd (omega arith)

-- what a step leaves of a piece
rest_left : (used : ℕ) (rest : List ℕ) → take (length rest - used) (drop used rest) ≡ drop used rest
rest_left used rest = take_all (length rest - used) (drop used rest) (omega (arith, length-drop used rest))

pub rest_shorter : (s : State) (rest : List ℕ) (s' : State) (used : ℕ) (t : List ℕ) → Stepped s rest s' used t → 0 < length rest
    → length (take (length rest - used) (drop used rest)) < length rest
rest_shorter s rest s' used t p h =
    let u = used_some s rest s' used t p h in
    let w = used_within s rest s' used t p in
    rw (rest_left used rest) (omega (arith, length-drop used rest))

module _ {T E : Type 0} where
  -- both writes went through, or one failed
  written_both : {U : Type 0} (a b c : Option (List ℕ)) (s t : List ℕ) (w : Result T E) (v : Result U E) → OnOk w (Appends a b s) → OnOk v (Appends b c t)
      → OnOk (result_and w v) (Appends a c (s ++ t))
  written_both a b c s t (Ok x) (Ok y) f g = writes_both a b c s t f g
  written_both a b c s t (Ok x) (Err y) f g = tt
  written_both a b c s t (Err x) v f g = tt

  -- passing a piece: what stands before the rest is passed
  pub record Passing (s : State) (piece rest : List ℕ) (s' : State) (o : Option (List ℕ)) (w : Result T E) (o' : Option (List ℕ)) : Type 0 where
    pub before : List ℕ
    pub parts : before ++ rest ≡ piece
    pub passed : PieceAnswered s before s' o w o'

  pub passing_none : (s : State) (piece : List ℕ) (o : Option (List ℕ)) (x : T) → Passing s piece piece s o (Ok x) o
  passing_none s piece o x = record { before = []; parts = refl; passed = record { text = []; steps = no_step; writes = writes_none o } }

  pub passing_more : (s : State) (piece rest : List ℕ) (s₁ : State) (o : Option (List ℕ)) (w : Result T E) (o₁ : Option (List ℕ)) (s₂ : State) (used : ℕ) (t : List ℕ)
      (v : Result T E) (o₂ : Option (List ℕ)) → Passing s piece rest s₁ o w o₁ → Stepped s₁ rest s₂ used t → OnOk v (Appends o₁ o₂ t)
      → Passing s piece (take (length rest - used) (drop used rest)) s₂ o (result_and w v) o₂
  passing_more s piece rest s₁ o w o₁ s₂ used t v o₂ f p h =
      record {
        before = f.before ++ take used rest;
        parts = rw (rest_left used rest) (append_assoc f.before (take used rest) (drop used rest) ∙ rw (take-append-drop used rest) f.parts);
        passed =
            record {
              text = f.passed.text ++ t;
              steps = next_step rest used t f.passed.steps p;
              writes = written_both o o₁ o₂ f.passed.text t w v f.passed.writes h;
            };
      }

  pub passing_all : (s : State) (piece rest : List ℕ) (s' : State) (o : Option (List ℕ)) (w : Result T E) (o' : Option (List ℕ))
      → Passing s piece rest s' o w o' → rest ≡ [] → PieceAnswered s piece s' o w o'
  passing_all s piece rest s' o w o' f e = rw (← f.parts, e, append-nil f.before) f.passed

  -- reading piece after piece
  pub read_none : (s : State) (i o : Option (List ℕ)) (x : T) → ReadFrom {T = T} {E = E} s s i i o (Ok x) o
  read_none s i o x = record { bytes = []; reads = reads_none i; passed = record { text = []; steps = no_step; writes = writes_none o } }

  pub read_more : (s s₁ s₂ : State) (i i₁ i₂ o : Option (List ℕ)) (w : Result T E) (o₁ : Option (List ℕ)) (piece : List ℕ) (v : Result T E) (o₂ : Option (List ℕ))
      → ReadFrom s s₁ i i₁ o w o₁ → Consumes i₁ i₂ piece → PieceAnswered s₁ piece s₂ o₁ v o₂ → ReadFrom s s₂ i i₂ o (result_and w v) o₂
  read_more s s₁ s₂ i i₁ i₂ o w o₁ piece v o₂ f r p =
      record {
        bytes = f.bytes ++ piece;
        reads = reads_both i i₁ i₂ f.bytes piece f.reads r;
        passed =
            record {
              text = f.passed.text ++ p.text;
              steps = steps_join f.passed.steps p.steps;
              writes = written_both o o₁ o₂ f.passed.text p.text w v f.passed.writes p.writes;
            };
      }

  ends_still : {U : Type 0} (i : Option (List ℕ)) (w : Result T E) (v : Result U E) → OnOk w (IsAtEnd i) → OnOk (result_and w v) (IsAtEnd i)
  ends_still i (Ok x) (Ok y) h = h
  ends_still i (Ok x) (Err y) h = tt
  ends_still i (Err x) v h = tt

  pub read_all : (d : Desk) (ns m : List ℕ) (s : State) (i i' o : Option (List ℕ)) (w : Result T E) (o₁ : Option (List ℕ)) (started : Bool) (m' t : List ℕ)
      (v : Result T E) (o₂ : Option (List ℕ)) → d ≡ fresh_desk → Ended s started m' t → OnOk v (Appends o₁ o₂ t)
      → ReadFrom (state d ns m) s i i' o w o₁ → OnOk w (IsAtEnd i')
      → Rehearsal ns m started m' i i' o (result_and w v) o₂
  read_all d ns m s i i' o w o₁ started m' t v o₂ fresh e h f n =
      record {
        input = f.bytes;
        text = f.passed.text ++ t;
        run = whole;
        started = refl;
        left = refl;
        answered = every_line_answered ns m f.bytes (f.passed.text ++ t) whole;
        reads = f.reads;
        writes = written_both o o₁ o₂ f.passed.text t w v f.passed.writes h;
        ends = ends_still i' w v n;
      }
    where
      whole : Run ns m f.bytes (f.passed.text ++ t)
      whole =
          record {
            at = s;
            before = f.passed.text;
            steps = rw fresh at f.passed.steps;
            started = started;
            left = m';
            last = t;
            ended = e;
            all = refl;
          }
