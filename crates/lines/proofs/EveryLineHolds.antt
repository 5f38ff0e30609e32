-- Every line of the input is answered once and in order: each step keeps what is printed in step with the definition.
use Prim.Native.Nat.{ℕ, suc, ◌+◌}
use mathlib.Core.Path.{◌≡◌, refl, sym, ap, ap₂, ◌∙◌}
use mathlib.Core.Bool.{Bool, true, false, cond, ◌||◌}
use mathlib.Core.List.{List, [], ◌∷◌, ◌++◌, append_assoc, append-nil}
use native.Mathlib.Omega.{arith}
use borrow.Author.Tests.{lt-ltb}
use lib.Dec.{eqb, ltb}
use lib.ListN.{length, take}
use lib.Seq.{take_all}
use Rattle.measures.proofs.ListLaws.{both_ways}
use Rattle.lines.specs.declared.reading.Reading.TheVariants.{Start}
use Rattle.lines.specs.Lines.{parse}
use Rattle.lines.specs.Answers.{Stands}
use Rattle.lines.specs.Rehearsed.{last_line, lines_from, answers_to, rehearsed}
use Rattle.lines.specs.Readings.{rest_of, begun, ReadsOn}
use Rattle.lines.specs.Stepping.{State, stands_in, Answered, until_end, ends_in, RunsOn, LineEnds, Stepped, Ended}
use Rattle.lines.specs.EveryLine.{Steps, no_step, next_step, EveryLineAnswered}
use Rattle.lines.proofs.ReadingLaws.{reads_both}

-- bytes with no line end go on the line
lines_on : (line bs rest : List ℕ) → ends_in bs ≡ false → lines_from line (bs ++ rest) ≡ lines_from (line ++ bs) rest
unfolding lines_from ends_in
lines_on line [] rest e = ap (λ (l : List ℕ). lines_from l rest) (sym (append-nil line))
lines_on line (b ∷ bs) rest e = go (eqb b 10) e (λ h. lines_on (line ++ (b ∷ [])) bs rest h)
  where
    go : (t : Bool) → (t || ends_in bs) ≡ false → (ends_in bs ≡ false → lines_from (line ++ (b ∷ [])) (bs ++ rest) ≡ lines_from ((line ++ (b ∷ [])) ++ bs) rest)
        → cond t (line ∷ lines_from [] (bs ++ rest)) (lines_from (line ++ (b ∷ [])) (bs ++ rest)) ≡ lines_from (line ++ (b ∷ bs)) rest
    go true h ih = both_ways h
    go false h ih = ih h ∙ ap (λ (l : List ℕ). lines_from l rest) (append_assoc line (b ∷ []) bs)

-- a line end ends the line
lines_end : (line bs rest : List ℕ) → ends_in bs ≡ true
    → lines_from line (take (length (until_end bs) + 1) bs ++ rest) ≡ (line ++ until_end bs) ∷ lines_from [] rest
unfolding lines_from ends_in until_end
lines_end line [] rest e = both_ways (sym e)
lines_end line (b ∷ bs) rest e = go (eqb b 10) refl e (λ h. lines_end (line ++ (b ∷ [])) bs rest h)
  where
    go : (t : Bool) → eqb b 10 ≡ t → (t || ends_in bs) ≡ true
        → (ends_in bs ≡ true
        → lines_from (line ++ (b ∷ [])) (take (length (until_end bs) + 1) bs ++ rest) ≡ ((line ++ (b ∷ [])) ++ until_end bs) ∷ lines_from [] rest)
        → lines_from line (take (length (cond t [] (b ∷ until_end bs)) + 1) (b ∷ bs) ++ rest) ≡ (line ++ cond t [] (b ∷ until_end bs)) ∷ lines_from [] rest
    go true q h ih = rw (q, append-nil line)
    go false q h ih =
        let w : suc (length (until_end bs)) + 1 ≡ suc (length (until_end bs) + 1) = omega arith in
        rw w (rw q (ih h ∙ ap (λ (l : List ℕ). l ∷ lines_from [] rest) (append_assoc line (b ∷ []) (until_end bs))))

-- what the desk keeps is what is kept of the bytes `line`
abbrev Keeps : State → List ℕ → Type 0
Keeps s line = ReadsOn Start [] line s.desk.reading s.numbers

keeps_says : (s : State) (line bytes : List ℕ) → Keeps s line → rest_of s.desk.reading s.numbers bytes ≡ parse (line ++ bytes)
unfolding rest_of
keeps_says s line bytes k = sym (k.rest bytes)

keeps_none : (ns : List ℕ) → ReadsOn Start [] [] Start ns
unfolding rest_of
keeps_none ns = record { rest = λ more. refl; begins = refl }

abbrev book : State → Stands
book s = stands_in s.desk.started s.memory

-- from s, where a line has the bytes `line` so far, over the input to s'
record Reached (s : State) (line input : List ℕ) (s' : State) (text : List ℕ) : Type 0 where
  far : List ℕ
  keeps : Keeps s' far
  rest : (more : List ℕ) → text ++ answers_to (book s') (lines_from far more) ≡ answers_to (book s) (lines_from line (input ++ more))

-- one line answered
answered-first : (s : State) (started' : Bool) (m' line text : List ℕ) (ls : List (List ℕ))
    → Answered s.desk.started s.memory (parse line) started' m' text
    → text ++ answers_to (stands_in started' m') ls ≡ answers_to (book s) (line ∷ ls)
unfolding answers_to
answered-first s started' m' line text ls a = ap₂ (λ (x : List ℕ) (b : Stands). x ++ answers_to b ls) a.prints a.leaves

module _ (s : State) (line input : List ℕ) (s₁ : State) (text : List ℕ) (r : Reached s line input s₁ text)
    (bytes : List ℕ) (s₂ : State) (used : ℕ) (t : List ℕ) where
  onward : (far more : List ℕ)
      → t ++ answers_to (book s₂) (lines_from far more) ≡ answers_to (book s₁) (lines_from r.far (take used bytes ++ more))
      → (text ++ t) ++ answers_to (book s₂) (lines_from far more) ≡ answers_to (book s) (lines_from line ((input ++ take used bytes) ++ more))
  onward far more e =
      append_assoc text t (answers_to (book s₂) (lines_from far more))
      ∙ ap (λ (l : List ℕ). text ++ l) e
      ∙ r.rest (take used bytes ++ more)
      ∙ ap (λ (l : List ℕ). answers_to (book s) (lines_from line l)) (sym (append_assoc input (take used bytes) more))

  reached_on : ends_in bytes ≡ false → RunsOn s₁ bytes s₂ used t → Reached s line (input ++ take used bytes) s₂ (text ++ t)
  reached_on e p =
      record {
        far = r.far ++ bytes;
        keeps =
            reads_both Start [] r.far s₁.desk.reading s₁.numbers bytes s₂.desk.reading s₂.numbers r.keeps p.reads;
        rest = λ more. onward (r.far ++ bytes) more (same more);
      }
    where
      all : take used bytes ≡ bytes
      all = take_all used bytes (let h = p.all in omega arith)

      same : (more : List ℕ)
          → t ++ answers_to (book s₂) (lines_from (r.far ++ bytes) more) ≡ answers_to (book s₁) (lines_from r.far (take used bytes ++ more))
      same more = rw (all, p.silent) (ap₂ answers_to (ap₂ stands_in p.started p.memory) (sym (lines_on r.far bytes more e)))

  reached_line : ends_in bytes ≡ true → LineEnds s₁ bytes s₂ used t → Reached s line (input ++ take used bytes) s₂ (text ++ t)
  reached_line e p = record { far = []; keeps = rw p.next (keeps_none s₂.numbers); rest = λ more. onward [] more (first more) }
    where
      says : rest_of s₁.desk.reading s₁.numbers (until_end bytes) ≡ parse (r.far ++ until_end bytes)
      says = keeps_says s₁ r.far (until_end bytes) r.keeps

      first : (more : List ℕ)
          → t ++ answers_to (book s₂) (lines_from [] more) ≡ answers_to (book s₁) (lines_from r.far (take used bytes ++ more))
      first more =
          answered-first s₁ s₂.desk.started s₂.memory (r.far ++ until_end bytes) t (lines_from [] more) (rw says at p.answered)
          ∙ ap (answers_to (book s₁)) (sym (ap (λ (k : ℕ). lines_from r.far (take k bytes ++ more)) p.up_to ∙ lines_end r.far bytes more e))

  reached_more : Stepped s₁ bytes s₂ used t → Reached s line (input ++ take used bytes) s₂ (text ++ t)
  reached_more p = go (ends_in bytes) refl
    where
      go : (b : Bool) → ends_in bytes ≡ b → Reached s line (input ++ take used bytes) s₂ (text ++ t)
      go true e = reached_line e (p.line_ends e)
      go false e = reached_on e (p.runs_on e)

reached : {s s' : State} {input text : List ℕ} (line : List ℕ) → Keeps s line → Steps s input s' text → Reached s line input s' text
reached line k no_step = record { far = line; keeps = k; rest = λ more. refl }
reached {s} line k (next_step {s₁ = s₁} {s₂ = s₂} {input = input} {text = text} bytes used t st p) =
    reached_more s line input s₁ text (reached line k st) bytes s₂ used t p

-- the end of the input
begun_line : (line : List ℕ) → (ltb 0 (length line) || false) ≡ true → last_line line ≡ line ∷ []
unfolding last_line
begun_line [] e = both_ways (sym e)
begun_line (b ∷ bs) e = refl

no_line : (line : List ℕ) → (ltb 0 (length line) || false) ≡ false → last_line line ≡ []
unfolding last_line
no_line [] e = refl
no_line (b ∷ bs) e = both_ways (rw (lt-ltb 0 (length (b ∷ bs)) (omega arith)) at e)

module _ (s : State) (line : List ℕ) (k : Keeps s line) (started' : Bool) (m' t : List ℕ) (p : Ended s started' m' t) where
  said : rest_of s.desk.reading s.numbers [] ≡ parse line
  said = keeps_says s line [] k ∙ ap parse (append-nil line)

  last_said : t ≡ answers_to (book s) (lines_from line [])
  unfolding lines_from answers_to
  last_said = go (begun s.desk.reading) refl
    where
      go : (b : Bool) → begun s.desk.reading ≡ b → t ≡ answers_to (book s) (last_line line)
      go true e =
          sym (append-nil t)
          ∙ answered-first s started' m' line t [] (rw said at (p.last e))
          ∙ ap (answers_to (book s)) (sym (begun_line line (sym k.begins ∙ e)))
      go false e = (p.none e).2 ∙ ap (answers_to (book s)) (sym (no_line line (sym k.begins ∙ e)))

pub every_line_answered : EveryLineAnswered
unfolding rehearsed stands_in
every_line_answered ns m input text r =
    let q = reached [] (keeps_none ns) r.steps in
    r.all
    ∙ ap (λ (l : List ℕ). r.before ++ l) (last_said r.at q.far q.keeps r.started r.left r.last r.ended)
    ∙ q.rest []
    ∙ ap rehearsed (append-nil input)
