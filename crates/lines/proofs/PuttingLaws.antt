-- Laws of printed text.
use Prim.Native.Nat.{ℕ, zero, suc, ◌+◌, ◌-◌, ◌*◌, ◌/◌, ◌^◌, ◌≤◌, ◌<◌}
use mathlib.Core.Path.{◌≡◌, refl, sym, ap, ◌∙◌}
use mathlib.Core.List.{List, [], ◌∷◌, ◌++◌, append_assoc, append-nil}
use native.Mathlib.Omega.{arith}
use native.Mathlib.Numerals.{add-one}
use borrow.Author.Tests.{lt-ltb, le-ltb}
use lib.ListN.{length, get_or, take, drop, length-take, length-drop}
use lib.Seq.{take-suc, take_all}
use Rattle.std.specs.Fmt as kit
use Rattle.std.specs.Simd.{first_chunks}
use Rattle.std.proofs.lemmas.List.{take-take, drop-take}
use Rattle.std.proofs.lemmas.Fmt.{AppendsLastDigit, decimal_from_appends, length-decimal-le}
use Rattle.matching.specs.Orders.{Row}
use Rattle.matching.specs.Memory.{flat_row, flat}
use Rattle.lines.specs.Printed.{digits, decimal, spaced, printed_row, printed_rows}
use Rattle.lines.specs.Inner.Puts.{row_text, rows_text, ok_text}

-- a number's digits are those that the kit writes
digits_append : AppendsLastDigit digits
unfolding digits
digits_append = record { one = λ k n h. rw (lt-ltb n 10 h); more = λ k n h. rw (le-ltb n 10 h) }

pub decimal_written : (n : ℕ) → n < 2 ^ 64 → kit.decimal n ≡ decimal n
unfolding decimal
decimal_written n h = sym (decimal_from_appends digits digits_append 20 n h (length-decimal-le 20 n (omega arith) (omega arith) h))

pub kit_short : (n : ℕ) → n < 2 ^ 64 → length (kit.decimal n) ≤ 20
kit_short n h = length-decimal-le 20 n (omega arith) (omega arith) h

pub decimal_short : (n : ℕ) → n < 2 ^ 64 → length (decimal n) ≤ 20
decimal_short n h = rw (← decimal_written n h) (length-decimal-le 20 n (omega arith) (omega arith) h)

pub digits_last : (n first : ℕ) (ds : List ℕ) → n < 2 ^ 64 → length ds ≡ 20 → drop first ds ≡ kit.decimal n ++ []
    → take (20 - first) (drop first ds) ≡ decimal n
digits_last n first ds h l e =
    let k : length (drop first ds) ≤ 20 - first = omega (arith, length-drop first ds) in
    take_all (20 - first) (drop first ds) k ∙ e ∙ append-nil (kit.decimal n) ∙ decimal_written n h

-- fields one behind the other
pub spaced_one : (n : ℕ) → spaced (n ∷ []) ≡ 32 ∷ decimal n
unfolding spaced
spaced_one n = rw (append-nil (decimal n))

pub spaced_both : (a b : List ℕ) → spaced (a ++ b) ≡ spaced a ++ spaced b
unfolding spaced
spaced_both [] b = refl
spaced_both (n ∷ a) b = ap (λ (x : List ℕ). 32 ∷ x) (rw (spaced_both a b) (sym (append_assoc (decimal n) (spaced a) (spaced b))))

pub field_next : (ns : List ℕ) (i : ℕ) → i < length ns → spaced (take (i + 1) ns) ≡ spaced (take i ns) ++ spaced (get_or ns i 0 ∷ [])
field_next ns i h = rw (add-one i, take-suc ns i 0 h) (spaced_both (take i ns) (get_or ns i 0 ∷ []))

pub fields_none : (o : List ℕ) (ns : List ℕ) → o ≡ o ++ spaced (take 0 ns)
unfolding spaced
fields_none o ns = sym (append-nil o)

pub fields_more : (o ns o₁ o₂ : List ℕ) (i : ℕ) → i < length ns → o₁ ≡ o ++ spaced (take i ns) → o₂ ≡ o₁ ++ spaced (get_or ns i 0 ∷ [])
    → o₂ ≡ o ++ spaced (take (i + 1) ns)
fields_more o ns o₁ o₂ i h e f = f ∙ rw (e, field_next ns i h) (append_assoc o (spaced (take i ns)) (spaced (get_or ns i 0 ∷ [])))

pub field_put : (o o₁ o₂ ds : List ℕ) (n : ℕ) → o₁ ≡ o ++ (32 ∷ []) → o₂ ≡ o₁ ++ ds → ds ≡ decimal n → o₂ ≡ o ++ spaced (n ∷ [])
field_put o o₁ o₂ ds n e f d = f ∙ rw (e, d, spaced_one n) (append_assoc o (32 ∷ []) (decimal n))

pub row_put : (o o₁ o₂ o₃ row : List ℕ) → o₁ ≡ o ++ (116 ∷ []) → o₂ ≡ o₁ ++ spaced row → o₃ ≡ o₂ ++ (10 ∷ []) → o₃ ≡ o ++ row_text row
unfolding row_text
row_put o o₁ o₂ o₃ row e f g = g ∙ rw (f, e) (append_assoc (o ++ (116 ∷ [])) (spaced row) (10 ∷ []) ∙ append_assoc o (116 ∷ []) (spaced row ++ (10 ∷ [])))

-- rows one behind the other
unfoldable pub joined : List (List ℕ) → List ℕ
joined [] = []
joined (r ∷ rs) = row_text r ++ joined rs

joined_both : (a b : List (List ℕ)) → joined (a ++ b) ≡ joined a ++ joined b
unfolding joined
joined_both [] b = refl
joined_both (r ∷ a) b = rw (joined_both a b) (sym (append_assoc (row_text r) (joined a) (joined b)))

pub joined_none : (o : List ℕ) (rs : List (List ℕ)) → o ≡ o ++ joined (take 0 rs)
unfolding joined
joined_none o rs = sym (append-nil o)

pub joined_more : (o : List ℕ) (rs : List (List ℕ)) (o₁ o₂ : List ℕ) (i : ℕ) → i < length rs → o₁ ≡ o ++ joined (take i rs)
    → o₂ ≡ o₁ ++ row_text (get_or rs i []) → o₂ ≡ o ++ joined (take (i + 1) rs)
unfolding joined
joined_more o rs o₁ o₂ i h e f =
    f ∙ rw (e, add-one i, take-suc rs i [] h, joined_both (take i rs) (get_or rs i [] ∷ []), append-nil (row_text (get_or rs i [])))
    (append_assoc o (joined (take i rs)) (row_text (get_or rs i [])))

chunks_joined : (k : ℕ) (ws : List ℕ) → joined (first_chunks 6 k ws) ≡ rows_text k ws
unfolding joined rows_text
chunks_joined zero ws = refl
chunks_joined (suc k) ws = ap (λ (x : List ℕ). row_text (take 6 ws) ++ x) (chunks_joined k (drop 6 ws))

pub joined_all : (o : List ℕ) (rs : List (List ℕ)) (o' ws : List ℕ) (k i : ℕ) → rs ≡ first_chunks 6 k ws → length rs ≤ i
    → o' ≡ o ++ joined (take i rs) → o' ≡ o ++ rows_text k ws
joined_all o rs o' ws k i e h f = f ∙ ap (λ (x : List ℕ). o ++ x) (ap joined (take_all i rs h ∙ e) ∙ chunks_joined k ws)

-- rows in memory print as rows
pub rows_printed : (rs : List Row) (d : List ℕ) → rows_text (length rs) (flat rs ++ d) ≡ printed_rows rs
unfolding row_text rows_text flat printed_rows printed_row
rows_printed [] d = refl
rows_printed (r ∷ rs) d = ap (λ (x : List ℕ). (116 ∷ (spaced (flat_row r) ++ (10 ∷ []))) ++ x) (rows_printed rs d)

-- the first k rows of memory, printed out of the words of k rows
first_rows : (k : ℕ) (ws : List ℕ) → rows_text k (take (6 * k) ws) ≡ rows_text k ws
unfolding rows_text
first_rows zero ws = refl
first_rows (suc k) ws =
    let e : 6 * suc k ≡ 6 + 6 * k = omega arith in
    rw (e, take-take 6 (6 + 6 * k) ws (omega arith), drop-take 6 (6 * k) ws) (ap (λ (x : List ℕ). row_text (take 6 ws) ++ x) (first_rows k (drop 6 ws)))

pub rows_counted : (n k : ℕ) (ws : List ℕ) → 6 * k ≤ length ws → ok_text n (length (take (6 * k) ws) / 6) (take (6 * k) ws) ≡ ok_text n k ws
unfolding ok_text
rows_counted n k ws h =
    let q : length (take (6 * k) ws) / 6 ≡ k = omega (arith, length-take (6 * k) ws) in
    rw q (ap (λ (x : List ℕ). 111 ∷ 107 ∷ (spaced (n ∷ []) ++ (10 ∷ x))) (first_rows k ws))

-- a word, a number and the line end; with `ok`, rows behind them
pub head_printed : (o o₁ o₂ o₃ word : List ℕ) (n : ℕ) → o ≡ [] → o₁ ≡ o ++ word → o₂ ≡ o₁ ++ spaced (n ∷ []) → o₃ ≡ o₂ ++ (10 ∷ [])
    → o₃ ≡ word ++ (spaced (n ∷ []) ++ (10 ∷ []))
head_printed o o₁ o₂ o₃ word n z e f g = g ∙ rw (f, e, z) (append_assoc word (spaced (n ∷ [])) (10 ∷ []))

pub ok_printed : (o o' ws : List ℕ) (n k : ℕ) → o ≡ 111 ∷ 107 ∷ (spaced (n ∷ []) ++ (10 ∷ [])) → o' ≡ o ++ rows_text k ws → o' ≡ ok_text n k ws
unfolding ok_text
ok_printed o o' ws n k e f = f ∙ rw e (ap (λ (x : List ℕ). 111 ∷ 107 ∷ x) (append_assoc (spaced (n ∷ [])) (10 ∷ []) (rows_text k ws)))
