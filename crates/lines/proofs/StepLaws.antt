-- Laws of a step: up to the first line end, or over all bytes.
use Prim.Native.Nat.{ℕ, ◌+◌, ◌≤◌, ◌<◌}
use mathlib.Core.Path.{◌≡◌, refl, sym, ap, ◌∙◌}
use mathlib.Core.Bool.{Bool, true, false, cond, ◌||◌}
use mathlib.Core.List.{List, [], ◌∷◌, append-nil}
use native.Mathlib.Omega.{arith}
use borrow.Author.Tests.{ltb-false}
use lib.Dec.{eqb, ltb}
use lib.ListN.{length, take}
use lib.Seq.{take_all}
use Rattle.std.specs.List.{position_or_len}
use Rattle.std.specs.Prelude.{Option, Some, None, unwrap_or}
use Rattle.std.proofs.lemmas.List.Recursion.{is_position_or_len}
use Rattle.measures.proofs.ListLaws.{both_ways}
use Rattle.lines.specs.declared.reading.Reading.{Reading}
use Rattle.lines.specs.declared.reading.Reading.TheVariants.{Start}
use Rattle.lines.specs.declared.steps.Desk.{Desk}
use Rattle.lines.specs.Readings.{rest_of, begun, ReadsOn}
use Rattle.lines.specs.Stepping.{State, state, Answered, until_end, ends_in, Stepped, Ended}

-- the bytes before the first line end
module _ (b : ℕ) (bs : List ℕ) where
  shorter : (t : Bool) → (t || ends_in bs) ≡ true → (ends_in bs ≡ true → length (until_end bs) < length bs)
      → length (cond t [] (b ∷ until_end bs)) < length (b ∷ bs)
  shorter true e ih = omega arith
  shorter false e ih = let h = ih e in omega arith

  longer : (t : Bool) → (t || ends_in bs) ≡ false → (ends_in bs ≡ false → until_end bs ≡ bs) → cond t [] (b ∷ until_end bs) ≡ b ∷ bs
  longer true e ih = both_ways e
  longer false e ih = ap (λ (l : List ℕ). b ∷ l) (ih e)

  first : (t : Bool) → take (length (until_end bs)) bs ≡ until_end bs
      → take (length (cond t [] (b ∷ until_end bs))) (b ∷ bs) ≡ cond t [] (b ∷ until_end bs)
  first true ih = refl
  first false ih = ap (λ (l : List ℕ). b ∷ l) ih

pub ends_shorter : (bs : List ℕ) → ends_in bs ≡ true → length (until_end bs) < length bs
unfolding until_end ends_in
ends_shorter [] e = both_ways (sym e)
ends_shorter (b ∷ bs) e = shorter b bs (eqb b 10) e (λ h. ends_shorter bs h)

pub runs_on_lem : (bs : List ℕ) → ends_in bs ≡ false → until_end bs ≡ bs
unfolding until_end ends_in
runs_on_lem [] e = refl
runs_on_lem (b ∷ bs) e = longer b bs (eqb b 10) e (λ h. runs_on_lem bs h)

pub until_first : (bs : List ℕ) → take (length (until_end bs)) bs ≡ until_end bs
unfolding until_end
until_first [] = refl
until_first (b ∷ bs) = first b bs (eqb b 10) (until_first bs)

pub until_within : (bs : List ℕ) → length (until_end bs) ≤ length bs
until_within bs = go (ends_in bs) refl
  where
    go : (t : Bool) → ends_in bs ≡ t → length (until_end bs) ≤ length bs
    go true e = let h = ends_shorter bs e in omega arith
    go false e = let h = ap length (runs_on_lem bs e) in omega arith

-- the place of the first line end, or the end of the bytes
place_kept : (t : Bool) (b : ℕ) (bs : List ℕ) → length (cond t [] (b ∷ bs)) ≡ cond t 0 (1 + length bs)
place_kept true b bs = refl
place_kept false b bs = omega arith

until_next : (b : ℕ) (bs : List ℕ) → length (until_end (b ∷ bs)) ≡ cond (eqb b 10) 0 (1 + length (until_end bs))
unfolding until_end
until_next b bs = place_kept (eqb b 10) b (until_end bs)

until_none : length (until_end []) ≡ 0
unfolding until_end
until_none = refl

until_place : (bs : List ℕ) → length (until_end bs) ≡ position_or_len (λ b. eqb b 10) bs
until_place = is_position_or_len (λ bs. length (until_end bs)) (λ b. eqb b 10) until_none until_next

pub end_placed : (bs : List ℕ) (place : Option ℕ) (r : ℕ)
    → place ≡ cond (ltb (position_or_len (λ b. eqb b 10) bs) (length bs)) (Some (position_or_len (λ b. eqb b 10) bs)) None
    → r ≡ unwrap_or place (length bs) → r ≡ length (until_end bs)
end_placed bs place r e u = go (ltb (position_or_len (λ b. eqb b 10) bs) (length bs)) refl
  where
    go : (t : Bool) → ltb (position_or_len (λ b. eqb b 10) bs) (length bs) ≡ t → r ≡ length (until_end bs)
    go true h = (rw (e, h) at u) ∙ sym (until_place bs)
    go false h =
        let w = until_within bs in
        let p = until_place bs in
        let l : length bs ≤ position_or_len (λ b. eqb b 10) bs = ltb-false _ _ h in
        (rw (e, h) at u) ∙ omega arith

module _ (d : Desk) (ns m bs : List ℕ) (r' : Reading) (ns' : List ℕ) (end : ℕ) (at : end ≡ length (until_end bs))
    (f : ReadsOn d.reading ns (take end bs) r' ns') where
  pub stepped_on : end ≡ length bs → (text : List ℕ) → text ≡ []
      → Stepped (state d ns m) bs (state (record { reading = r'; started = d.started }) ns' m) end text
  stepped_on e text silent =
      record {
        runs_on =
            λ h. record { all = e; reads = rw (take_all end bs (omega arith)) at f; started = refl; memory = refl; silent = silent };
        line_ends = λ h. let l = ends_shorter bs h in absurd (omega arith);
      }

  -- what the line says at its end
  line_says : rest_of d.reading ns (until_end bs) ≡ rest_of r' ns' []
  line_says =
      ap (rest_of d.reading ns) (sym (until_first bs) ∙ ap (λ (k : ℕ). take k bs) (sym at) ∙ sym (append-nil (take end bs)))
      ∙ f.rest []

  pub stepped_line : (ns'' : List ℕ) (started' : Bool) (m' text : List ℕ) → (end ≡ length bs → ⊥)
      → Answered d.started m (rest_of r' ns' []) started' m' text
      → Stepped (state d ns m) bs (state (record { reading = Start; started = started' }) ns'' m') (end + 1) text
  stepped_line ns'' started' m' text ne a =
      record {
        runs_on = λ h. let l = ap length (runs_on_lem bs h) in absurd (ne (at ∙ l));
        line_ends = λ h. record { up_to = omega arith; next = refl; answered = rw line_says a };
      }

-- the end of the input
module _ (d : Desk) (ns m : List ℕ) where
  pub ended_none : begun d.reading ≡ false → Ended (state d ns m) d.started m []
  ended_none e = record { none = λ h. (refl, refl, refl); last = λ h. both_ways (sym (sym e ∙ h)) }

  pub ended_last : (started' : Bool) (m' text : List ℕ) → begun d.reading ≡ true → Answered d.started m (rest_of d.reading ns []) started' m' text
      → Ended (state d ns m) started' m' text
  ended_last started' m' text e a = record { none = λ h. both_ways (sym e ∙ h); last = λ h. a }

-- a step reads something, and no more than there is
module _ (s : State) (bs : List ℕ) (s' : State) (used : ℕ) (t : List ℕ) (p : Stepped s bs s' used t) where
  pub used_some : 0 < length bs → 0 < used
  used_some h = go (ends_in bs) refl
    where
      go : (b : Bool) → ends_in bs ≡ b → 0 < used
      go true e = let u = (p.line_ends e).up_to in omega arith
      go false e = let u = (p.runs_on e).all in omega arith

  pub used_within : used ≤ length bs
  used_within = go (ends_in bs) refl
    where
      go : (b : Bool) → ends_in bs ≡ b → used ≤ length bs
      go true e = let u = (p.line_ends e).up_to in let l = ends_shorter bs e in omega arith
      go false e = let u = (p.runs_on e).all in omega arith
