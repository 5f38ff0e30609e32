-- Laws of rows in memory: one row more, and what is kept.
use Prim.Native.Nat.{ℕ, ◌+◌, ◌*◌, ◌≤◌}
use mathlib.Core.Path.{◌≡◌, refl, sym, ap, ◌∙◌}
use mathlib.Core.List.{List, [], ◌∷◌, ◌++◌, append_assoc}
use native.Mathlib.Omega.{arith}
use lib.ListN.{length, drop, length-append, length-drop}
use lib.Seq.{sets, sets-eq, take_at, drop-drop, drop-append-add}
use Rattle.matching.specs.Orders.{Row}
use Rattle.matching.specs.Memory.{flat_row, flat, written}

pub flat-length : (rs : List Row) → length (flat rs) ≡ 6 * length rs
unfolding flat
flat-length [] = refl
flat-length (r ∷ rs) = let ih = flat-length rs in omega arith

pub flat_append : (a b : List Row) → flat (a ++ b) ≡ flat a ++ flat b
unfolding flat
flat_append [] b = refl
flat_append (r ∷ a) b = rw (flat_append a b) (sym (append_assoc (flat_row r) (flat a) (flat b)))

pub written_none : (d : List ℕ) → d ≡ written d []
unfolding written flat
written_none d = refl

pub written-length : (d : List ℕ) (rs : List Row) → 6 * length rs ≤ length d → length (written d rs) ≡ length d
unfolding written
written-length d rs h = simp (length-append, flat-length, length-drop) (omega arith)

drop_past : (x y : List ℕ) (n k : ℕ) → length x ≡ n → drop (n + k) (x ++ y) ≡ drop k y
drop_past x y n k e = rw (← e) (drop-append-add x y k)

pub written-more : (d : List ℕ) (rs : List Row) (r : Row) (n : ℕ) → length rs ≡ n → 6 * n + 6 ≤ length (written d rs)
    → sets (written d rs) (6 * n) (flat_row r) ≡ written d (rs ++ (r ∷ []))
unfolding written flat
written-more d rs r n e h =
    let w = flat rs ++ drop (6 * length rs) d in
    let lf : length (flat rs) ≡ 6 * n = flat-length rs ∙ ap (λ (k : ℕ). 6 * k) e in
    let m1 : length (rs ++ (r ∷ [])) ≡ n + 1 = length-append rs (r ∷ []) ∙ ap (λ (k : ℕ). k + 1) e in
    let d1 : drop (6 * n + 6) w ≡ drop (6 * n + 6) d = drop_past (flat rs) (drop (6 * length rs) d) (6 * n) 6 lf ∙ ap (λ (k : ℕ). drop 6 (drop (6 * k) d)) e
    ∙ drop-drop 6 (6 * n) d in
    let d2 : 6 * (n + 1) ≡ 6 * n + 6 = omega arith in
    sets-eq (flat_row r) w (6 * n) h
    ∙ rw (take_at (flat rs) (drop (6 * length rs) d) (6 * n) lf, d1, m1, d2, flat_append rs (r ∷ []))
