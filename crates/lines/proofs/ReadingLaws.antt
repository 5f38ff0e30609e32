-- Laws of reading a line byte by byte.
use Prim.Native.Nat.{ℕ, ◌+◌, ◌-◌, ◌*◌, ◌≤◌, ◌<◌}
use mathlib.Core.Path.{◌≡◌, refl, ap, ◌∙◌}
use mathlib.Core.Bool.{Bool, true, false, cond, ◌&&◌, ◌||◌}
use mathlib.Core.List.{List, [], ◌∷◌, ◌++◌, append_assoc, append-nil}
use native.Mathlib.Omega.{arith}
use native.Mathlib.Numerals.{add-one}
use native.Mathlib.Decide.{ℕ_discrete}
use borrow.Author.Tests.{eq-eqb, ne_eqb, lt-ltb, le-ltb, le-leb, lt-leb}
use lib.Dec.{eqb, leb, ltb}
use lib.ListN.{length, take, set, length-append, length-take}
use lib.Seq.{take-suc-set}
use Rattle.measures.specs.Lists.{every}
use Rattle.measures.proofs.ListLaws.{and_true, and_left-false, and_right_false}
use Rattle.lines.specs.declared.reading.Reading.{Reading}
use Rattle.lines.specs.declared.reading.Reading.TheVariants.{Start, Letter, Space, Digits, Lost}
use Rattle.lines.specs.Lines.{unknown, first_field, other_fields, is_digit, value_from, goes_on, is_number, values, count_of, called}
use Rattle.lines.specs.Lines.{numbered, lettered, parse}
use Rattle.lines.specs.Readings.{rest_of, begun, ReadsOn}

module _ (ns : List ℕ) (b : ℕ) where
  pub start_space : b ≡ 32 → ReadsOn Start ns (b ∷ []) Lost ns
  unfolding rest_of parse first_field other_fields lettered
  start_space e = record { rest = λ more. rw (eq-eqb b 32 e); begins = refl }

  pub start_letter : (b ≡ 32 → ⊥) → ReadsOn Start ns (b ∷ []) (Letter b) ns
  unfolding rest_of parse first_field other_fields
  start_letter e = record { rest = λ more. rw (ne_eqb b 32 e); begins = refl }

  pub letter_space : (l : ℕ) → b ≡ 32 → ReadsOn (Letter l) ns (b ∷ []) (Space l 0) ns
  unfolding rest_of first_field other_fields lettered
  letter_space l e = record { rest = λ more. rw (eq-eqb b 32 e); begins = refl }

  pub letter_lost : (l : ℕ) → (b ≡ 32 → ⊥) → ReadsOn (Letter l) ns (b ∷ []) Lost ns
  unfolding rest_of first_field other_fields lettered
  letter_lost l e = record { rest = λ more. rw (ne_eqb b 32 e); begins = refl }

-- digits only make a value larger
pub value_grows : (v : ℕ) (bs : List ℕ) → v ≤ value_from v bs
unfolding value_from
value_grows v [] = omega arith
value_grows v (b ∷ bs) = let ih = value_grows (v * 10 + (b - 48)) bs in omega arith

digit_is : (b : ℕ) → 48 ≤ b → b ≤ 57 → is_digit b ≡ true
digit_is b h k = and_true (leb 48 b) (leb b 57) (le-leb 48 b h) (le-leb b 57 k)

digit_low : (b : ℕ) → b < 48 → is_digit b ≡ false
digit_low b h = and_left-false (leb 48 b) (leb b 57) (lt-leb 48 b h)

digit_high : (b : ℕ) → 57 < b → is_digit b ≡ false
digit_high b h = and_right_false (leb 48 b) (leb b 57) (lt-leb b 57 h)

-- no letter has more than 27 numbers
count_most : (l : ℕ) → count_of l ≤ 27
unfolding count_of
count_most l =
    below (eqb l 79) _ _ (omega arith)
    (below (eqb l 69) _ _ (omega arith)
    (below (eqb l 76) _ _ (omega arith)
    (below (eqb l 84) _ _ (omega arith)
    (below (eqb l 87) _ _ (omega arith)
    (below (eqb l 82) _ _ (omega arith)
    (below (eqb l 88) _ _ (omega arith)
    (omega arith)))))))
  where
    below : (t : Bool) (x y : ℕ) → x ≤ 27 → y ≤ 27 → cond t x y ≤ 27
    below true x y h k = h
    below false x y h k = k

pub many_unknown : (l : ℕ) (ns : List ℕ) → 28 ≤ length ns → called l ns ≡ unknown
unfolding called
many_unknown l ns h = let m = count_most l in rw (ne_eqb (length ns) (count_of l) (omega arith))

-- behind a space, bytes begin a number as they go on one of value 0, but a space does not end it
module _ (ns : List ℕ) (b l n : ℕ) where
  digit_first : (b ≡ 32 → ⊥) → (more : List ℕ) → rest_of (Space l n) ns (b ∷ more) ≡ rest_of (Digits l n 0) ns (b ∷ more)
  unfolding rest_of first_field other_fields numbered is_number goes_on values
  digit_first ne more = rw (ne_eqb b 32 ne)

  space_space : b ≡ 32 → ReadsOn (Space l n) ns (b ∷ []) Lost ns
  unfolding rest_of first_field other_fields numbered is_number
  space_space e = record { rest = λ more. rw (eq-eqb b 32 e) refl; begins = refl }

  pub space_first : (r : Reading) → ((b ≡ 32 → ⊥) → ReadsOn (Digits l n 0) ns (b ∷ []) r ns) → (b ≡ 32 → r ≡ Lost)
      → ReadsOn (Space l n) ns (b ∷ []) r ns
  unfolding rest_of
  space_first r f g = go (ℕ_discrete b 32)
    where
      go : Dec (b ≡ 32) → ReadsOn (Space l n) ns (b ∷ []) r ns
      go (yes e) = rw (g e) (space_space e)
      go (no e) = record { rest = λ more. digit_first e more ∙ (f e).rest more; begins = (f e).begins }

-- a number goes on, or not
module _ (ns : List ℕ) (b l n v : ℕ) where
  pub digit_more : (w : ℕ) → 48 ≤ b → b ≤ 57 → w ≡ v * 10 + (b - 48) → w < 4_294_967_296 → ReadsOn (Digits l n v) ns (b ∷ []) (Digits l n w) ns
  unfolding rest_of first_field other_fields goes_on value_from
  digit_more w h k e f =
      record {
        rest = λ more. rw e (rw (ne_eqb b 32 (omega arith)) (rw (digit_is b h k)));
        begins = refl;
      }

  -- not understood, if the bytes do not go on the number
  broken : (f : List ℕ) (fs : List (List ℕ)) → goes_on v f ≡ false
      → cond (goes_on v f && every is_number fs) (called l (take n ns ++ (value_from v f ∷ values fs))) unknown ≡ unknown
  broken f fs e = rw e

  pub digit_other : (b ≡ 32 → ⊥) → is_digit b ≡ false → ReadsOn (Digits l n v) ns (b ∷ []) Lost ns
  unfolding rest_of first_field other_fields goes_on
  digit_other ne e =
      record { rest = λ more. rw (ne_eqb b 32 ne) (broken (b ∷ first_field more) (other_fields more) (rw e)); begins = refl }

  pub digit_low_lost : (b ≡ 32 → ⊥) → b < 48 → ReadsOn (Digits l n v) ns (b ∷ []) Lost ns
  digit_low_lost ne h = digit_other ne (digit_low b h)

  pub digit_high_lost : 57 < b → ReadsOn (Digits l n v) ns (b ∷ []) Lost ns
  digit_high_lost h = digit_other (omega arith) (digit_high b h)

  too_large : (f : List ℕ) → 4_294_967_296 ≤ v * 10 + (b - 48) → goes_on v (b ∷ f) ≡ false
  unfolding goes_on value_from
  too_large f h =
      let g = value_grows (v * 10 + (b - 48)) f in
      and_right_false (every is_digit (b ∷ f)) _ (le-ltb (value_from (v * 10 + (b - 48)) f) 4_294_967_296 (omega arith))

  pub digit_large : (b ≡ 32 → ⊥) → 4_294_967_296 ≤ v * 10 + (b - 48) → ReadsOn (Digits l n v) ns (b ∷ []) Lost ns
  unfolding rest_of first_field other_fields
  digit_large ne h =
      record { rest = λ more. rw (ne_eqb b 32 ne) (broken (b ∷ first_field more) (other_fields more) (too_large (first_field more) h)); begins = refl }

-- a number ends
module _ (ns : List ℕ) (l n v : ℕ) where
  pub number_ends : n < 26 → v < 4_294_967_296 → n < length ns → ReadsOn (Digits l n v) ns (32 ∷ []) (Space l (n + 1)) (set ns n v)
  unfolding rest_of first_field other_fields numbered goes_on value_from values
  number_ends h f k =
      record {
        rest = λ more. rw (
          lt-ltb v 4_294_967_296 f,
          add-one n,
          take-suc-set ns n v k,
          append_assoc (take n ns) (v ∷ []) (values (first_field more ∷ other_fields more)),
        );
        begins = refl;
      }

  -- one number too many
  many : (t : Bool) (vs : List ℕ) → 28 ≤ length (take n ns) + length vs → cond t (called l (take n ns ++ vs)) unknown ≡ unknown
  many true vs h = let a = length-append (take n ns) vs in many_unknown l (take n ns ++ vs) (omega arith)
  many false vs h = refl

  pub number_many : 26 ≤ n → length ns ≡ 27 → ReadsOn (Digits l n v) ns (32 ∷ []) Lost ns
  unfolding rest_of first_field other_fields values
  number_many h e =
      let k = length-take n ns in
      record {
        rest =
            λ more. many (goes_on v [] && every is_number (first_field more ∷ other_fields more))
            (value_from v [] ∷ value_from 0 (first_field more) ∷ values (other_fields more)) (omega arith);
        begins = refl;
      }

  large : 4_294_967_296 ≤ v → goes_on v [] ≡ false
  unfolding goes_on value_from
  large h = le-ltb v 4_294_967_296 h

  pub number_large : 4_294_967_296 ≤ v → ReadsOn (Digits l n v) ns (32 ∷ []) Lost ns
  unfolding rest_of first_field other_fields
  number_large h = record { rest = λ more. rw (large h); begins = refl }

  -- at the end of a line
  pub end_number : v < 4_294_967_296 → n < length ns → rest_of (Digits l n v) ns [] ≡ called l (take (n + 1) (set ns n v))
  unfolding rest_of first_field other_fields goes_on value_from values
  end_number f h = rw (lt-ltb v 4_294_967_296 f, add-one n, take-suc-set ns n v h)

  pub end_many : 27 ≤ n → length ns ≡ 27 → rest_of (Digits l n v) ns [] ≡ unknown
  unfolding rest_of first_field other_fields values
  end_many h e = let k = length-take n ns in many (goes_on v [] && every is_number []) (value_from v [] ∷ []) (omega arith)

  pub end_large : 4_294_967_296 ≤ v → rest_of (Digits l n v) ns [] ≡ unknown
  unfolding rest_of first_field other_fields
  end_large h = rw (large h)

-- a count or a value that no line yields says nothing that is understood, whatever follows
module _ (l n v : ℕ) (ns more : List ℕ) where
  pub space_beyond : 27 ≤ n → length ns ≡ 27 → rest_of (Space l n) ns more ≡ unknown
  unfolding rest_of numbered values
  space_beyond h e =
      let k = length-take n ns in
      many ns l n v (every is_number (first_field more ∷ other_fields more)) (value_from 0 (first_field more) ∷ values (other_fields more)) (omega arith)

  pub digits_beyond : 27 ≤ n → length ns ≡ 27 → rest_of (Digits l n v) ns more ≡ unknown
  unfolding rest_of
  digits_beyond h e =
      let k = length-take n ns in
      many ns l n v (goes_on v (first_field more) && every is_number (other_fields more)) (value_from v (first_field more) ∷ values (other_fields more)) (omega arith)

  pub value_beyond : 4_294_967_296 ≤ v → rest_of (Digits l n v) ns more ≡ unknown
  unfolding rest_of goes_on
  value_beyond h =
      let g = value_grows v (first_field more) in
      broken ns 0 l n v (first_field more) (other_fields more)
      (and_right_false (every is_digit (first_field more)) _ (le-ltb (value_from v (first_field more)) 4_294_967_296 (omega arith)))

pub lost_stays : (ns : List ℕ) (b : ℕ) → ReadsOn Lost ns (b ∷ []) Lost ns
unfolding rest_of
lost_stays ns b = record { rest = λ more. refl; begins = refl }

-- the end of a line
module _ (ns : List ℕ) where
  pub end_start : rest_of Start ns [] ≡ unknown
  unfolding rest_of parse first_field other_fields lettered
  end_start = refl

  pub end_letter : (l : ℕ) → rest_of (Letter l) ns [] ≡ called l (take 0 ns)
  unfolding rest_of first_field other_fields lettered numbered values
  end_letter l = refl

  pub end_space : (l n : ℕ) → rest_of (Space l n) ns [] ≡ unknown
  unfolding rest_of first_field other_fields numbered is_number
  end_space l n = refl

  pub end_lost : rest_of Lost ns [] ≡ unknown
  unfolding rest_of
  end_lost = refl

-- no bytes, and more bytes
pub reads_none : (r : Reading) (ns : List ℕ) → ReadsOn r ns [] r ns
reads_none r ns = record { rest = λ more. refl; begins = refl }

some_read : (a b : List ℕ) (t : Bool) → (ltb 0 (length b) || (ltb 0 (length a) || t)) ≡ (ltb 0 (length (a ++ b)) || t)
some_read [] b t = refl
some_read (x ∷ a) [] t = rw (append-nil a)
some_read (x ∷ a) (y ∷ b) t = rw (lt-ltb 0 (length (y ∷ b)) (omega arith), lt-ltb 0 (length (x ∷ (a ++ (y ∷ b)))) (omega arith))

pub reads_both : (r : Reading) (ns a : List ℕ) (r₁ : Reading) (ns₁ b : List ℕ) (r₂ : Reading) (ns₂ : List ℕ)
    → ReadsOn r ns a r₁ ns₁ → ReadsOn r₁ ns₁ b r₂ ns₂ → ReadsOn r ns (a ++ b) r₂ ns₂
reads_both r ns a r₁ ns₁ b r₂ ns₂ f g =
    record {
      rest = λ more. ap (rest_of r ns) (append_assoc a b more) ∙ f.rest (b ++ more) ∙ g.rest more;
      begins = g.begins ∙ ap (λ (t : Bool). ltb 0 (length b) || t) f.begins ∙ some_read a b (begun r);
    }
