-- The fit of an order on a sound book in memory: its quantity stands alone in its period.
use Rattle.std.proofs.Common.{◌≡◌, ℕ, zero, suc, ◌<◌, ◌≤◌, Bool, true, false, cond, eqb, List, length, get_or, set, replicate, refl, sym}
use Rattle.std.proofs.Common.{◌∙◌, arith, get_or-set_other, get_or-set_same, eq-eqb, ne_eqb, eqb-true}
use native.Mathlib.Decide.{ℕ_discrete}
use lib.ListN.{length-replicate}
use Rattle.measures.specs.Ranges.{most_energy}
use Rattle.measures.proofs.ListLaws.{both_ways, cond_zero}
use Rattle.limits.specs.Units.{generator}
use Rattle.book.specs.Book.{unit_of}
use Rattle.book.specs.Trades.{raises}
use Rattle.book.specs.Refusals.{first_refusal}
use Rattle.book.specs.Layout.{UNITS, word, decode}
use Rattle.book.specs.Inner.Readable.{declared, Fitted, small}
use Rattle.book.specs.Contract.{sound_in}
use Rattle.book.specs.Order.{order_declares}
use Rattle.book.specs.Inner.Ordering.{order_fit_checks}
use Rattle.book.proofs.Laws.Check.MisfitLaws.{zeros_at, misfit_ext, misfit_declared}
use Rattle.book.proofs.Laws.Sound.RangedLaws.{sound_marks, sound_fits}

-- one amount among zeros
module _ (n p q : ℕ) (h : p < n) where
  pub alone_at : (i : ℕ) → get_or (set (replicate {A = ℕ} n 0) p q) i 0 ≡ cond (eqb i p) q 0
  alone_at i = go (ℕ_discrete i p)
    where
      go : Dec (i ≡ p) → get_or (set (replicate {A = ℕ} n 0) p q) i 0 ≡ cond (eqb i p) q 0
      go (yes e) =
          let l : p < length (replicate {A = ℕ} n 0) = omega (arith, length-replicate {A = ℕ} n 0) in
          rw (eq-eqb i p e, e) (get_or-set_same (replicate {A = ℕ} n 0) p q 0 l)
      go (no e) = rw (ne_eqb i p e) (get_or-set_other (replicate {A = ℕ} n 0) p i q 0 e ∙ zeros_at n i)

pub alone_small : (n p q : ℕ) → p < n → q ≤ most_energy → small (set (replicate {A = ℕ} n 0) p q)
alone_small n p q h l i = rw (alone_at n p q h i) (go (eqb i p))
  where
    go : (b : Bool) → cond b q 0 ≤ most_energy
    go true = l
    go false = omega arith

-- an order raises or lowers
not_lower : (g : Bool) (d : ℕ) → cond g (eqb d 0) (eqb d 1) ≡ true → cond g (eqb d 1) (eqb d 0) ≡ false
not_lower true d e = let z = eqb-true d 0 e in ne_eqb d 1 (omega arith)
not_lower false d e = let z = eqb-true d 1 e in ne_eqb d 0 (omega arith)

does_lower : (g : Bool) (d : ℕ) → d ≤ 1 → cond g (eqb d 0) (eqb d 1) ≡ false → cond g (eqb d 1) (eqb d 0) ≡ true
does_lower true zero l e = both_ways e
does_lower true (suc zero) l e = refl
does_lower true (suc (suc d)) l e = absurd (omega arith)
does_lower false zero l e = refl
does_lower false (suc zero) l e = both_ways e
does_lower false (suc (suc d)) l e = absurd (omega arith)

module _ (m : List ℕ) (e : sound_in m ≡ true) (n u d p q r : ℕ) (from : 1 ≤ u) (upto : u ≤ word m UNITS) (h : p < n) where
  checked : (raising lowering : List ℕ) → ((i : ℕ) → get_or raising i 0 ≡ (order_declares (decode m) u d p q).raising i)
      → ((i : ℕ) → get_or lowering i 0 ≡ (order_declares (decode m) u d p q).lowering i)
      → Fitted (decode m) u (declared raising lowering) r → r ≡ first_refusal (order_fit_checks (decode m) u d p q)
  unfolding order_fit_checks
  checked raising lowering a b f =
      f.clean (sound_marks m e u (from, upto))
      ∙ misfit_ext (decode m) u (declared raising lowering) (order_declares (decode m) u d p q) a b
      ∙ misfit_declared (decode m) u (order_declares (decode m) u d p q) (sound_fits m e u (from, upto))

  pub fit_raising : raises (unit_of (decode m) u).kind d ≡ true
      → Fitted (decode m) u (declared (set (replicate {A = ℕ} n 0) p q) (replicate {A = ℕ} n 0)) r → r ≡ first_refusal (order_fit_checks (decode m) u d p q)
  fit_raising t =
      checked (set (replicate {A = ℕ} n 0) p q) (replicate {A = ℕ} n 0)
      (λ i. alone_at n p q h i ∙ rw t refl)
      (λ i. zeros_at n i ∙ rw (not_lower (generator (unit_of (decode m) u).kind) d t) (sym (cond_zero (eqb i p))))

  pub fit_lowering : d ≤ 1 → raises (unit_of (decode m) u).kind d ≡ false
      → Fitted (decode m) u (declared (replicate {A = ℕ} n 0) (set (replicate {A = ℕ} n 0) p q)) r → r ≡ first_refusal (order_fit_checks (decode m) u d p q)
  fit_lowering l t =
      checked (replicate {A = ℕ} n 0) (set (replicate {A = ℕ} n 0) p q)
      (λ i. zeros_at n i ∙ rw t (sym (cond_zero (eqb i p))))
      (λ i. alone_at n p q h i ∙ rw (does_lower (generator (unit_of (decode m) u).kind) d l t) refl)
