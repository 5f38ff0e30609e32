-- What is left of amounts when each is less its part.
use Prim.Native.Nat.{ℕ, zero, suc, zero-le, ◌+◌, ◌-◌, ◌≤◌, ◌<◌, min}
use mathlib.Core.Path.{◌≡◌, refl, sym, ap, ◌∙◌}
use mathlib.Core.List.{List, [], ◌∷◌}
use native.Mathlib.Omega.{arith}
use native.Mathlib.Decide.{dec_lt}
use lib.ListN.{length, get_or, set, get_or-eq_default}
use lib.Seq.{ext_get_or}
use Rattle.measures.specs.Sharing.{total, parts, less_each}
use Rattle.measures.specs.Inner.Cuts.{Written}
use Rattle.measures.proofs.SharingLaws.{Within, no-part_exceeds, parts-sum}
use Rattle.measures.proofs.SelectLaws.{written-more}

pub less-length : (rs ps : List ℕ) → length (less_each rs ps) ≡ length rs
unfolding less_each
less-length [] ps = refl
less-length (r ∷ rs) [] = refl
less-length (r ∷ rs) (p ∷ ps) = ap suc (less-length rs ps)

pub less_at_lem : (rs ps : List ℕ) (i : ℕ) → get_or (less_each rs ps) i 0 ≡ get_or rs i 0 - get_or ps i 0
unfolding less_each
less_at_lem [] ps i = omega arith
less_at_lem (r ∷ rs) [] i = omega arith
less_at_lem (r ∷ rs) (p ∷ ps) zero = refl
less_at_lem (r ∷ rs) (p ∷ ps) (suc i) = less_at_lem rs ps i

pub less-total : (rs ps : List ℕ) → total (less_each rs ps) ≤ total rs
unfolding less_each
less-total [] ps = omega arith
less-total (r ∷ rs) [] = omega arith
less-total (r ∷ rs) (p ∷ ps) = let t = less-total rs ps in omega arith

-- what is left and what was taken make the whole
pub less_and_parts : (rs ps : List ℕ) → Within ps rs → total (less_each rs ps) + total ps ≡ total rs
unfolding less_each
less_and_parts [] [] w = refl
less_and_parts [] (p ∷ ps) w = absurd w
less_and_parts (r ∷ rs) [] w = absurd w
less_and_parts (r ∷ rs) (p ∷ ps) w = let h = less_and_parts rs ps w.1 in omega (arith, w.0)

pub less-parts : (d : ℕ) (rs : List ℕ) → 0 < d → d ≤ total rs → total (less_each rs (parts d rs)) + d ≡ total rs
less-parts d rs some most = omega (arith, less_and_parts rs (parts d rs) (no-part_exceeds d rs some most), parts-sum d rs (omega arith))

-- `take_off`: one amount more is less, and all that have a part are
pub less-more : (rs ps rs' : List ℕ) (i v : ℕ) → i < length rs' → Written 0 i (λ j. get_or rs j 0 - get_or ps j 0) rs rs' → v ≡ get_or rs' i 0 - get_or ps i 0
    → Written 0 (i + 1) (λ j. get_or rs j 0 - get_or ps j 0) rs (set rs' i v)
less-more rs ps rs' i v h w e = written-more 0 i (λ j. get_or rs j 0 - get_or ps j 0) rs rs' v zero-le h w
    (e ∙ ap (λ (r : ℕ). r - get_or ps i 0) (w.past i (omega arith)))

pub less_end : (rs ps rs' : List ℕ) → length rs' ≡ length rs
    → Written 0 (min (length rs) (length ps)) (λ j. get_or rs j 0 - get_or ps j 0) rs rs' → rs' ≡ less_each rs ps
less_end rs ps rs' e w = ext_get_or 0 rs' (less_each rs ps) (e ∙ sym (less-length rs ps)) (λ j h. at j h (dec_lt j (length ps)) ∙ sym (less_at_lem rs ps j))
  where
    at : (j : ℕ) → j < length rs' → Dec (j < length ps) → get_or rs' j 0 ≡ get_or rs j 0 - get_or ps j 0
    at j h (yes l) = w.each j zero-le (omega arith)
    at j h (no l) = let z = get_or-eq_default ps 0 {n = j} (omega arith) in omega (arith, w.past j (omega arith))
