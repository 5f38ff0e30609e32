-- The checks of a clear.
use Rattle.std.proofs.Common.{◌≡◌, ℕ, ◌<◌, ◌≤◌, Bool, true, false, cond, eqb, ltb, List, refl, arith, ltb-false, le-ltb, lt-ltb, eq-eqb, ne_eqb}
use Rattle.book.specs.Book.{Book}
use Rattle.book.specs.Refusals.{first_refusal}
use Rattle.book.specs.Layout.{PHASE, word, decode}
use Rattle.book.specs.Clear.{clear_checks}

-- the checks
module _ (m : List ℕ) (lent : ℕ) where
  pub clear_few_rows : lent < 4464 → 7 ≡ first_refusal (clear_checks (decode m) lent)
  unfolding first_refusal
  clear_few_rows h = rw (lt-ltb lent 4464 h) refl

  pub clear_rolling : 4464 ≤ lent → word m PHASE ≡ 1 → 14 ≡ first_refusal (clear_checks (decode m) lent)
  unfolding first_refusal decode
  clear_rolling h e = rw (le-ltb lent 4464 h, eq-eqb (word m PHASE) 1 e) refl

  pub clear_passes : 4464 ≤ lent → (word m PHASE ≡ 1 → ⊥) → 0 ≡ first_refusal (clear_checks (decode m) lent)
  unfolding first_refusal decode
  clear_passes h e = rw (le-ltb lent 4464 h, ne_eqb (word m PHASE) 1 e) refl

-- where the checks of a clear give 0, 744 rows are lent
pub clear_room : (b : Book) (lent : ℕ) → 0 ≡ first_refusal (clear_checks b lent) → 4464 ≤ lent
unfolding first_refusal
clear_room b lent e = go (ltb lent 4464) (eqb b.phase 1) refl e
  where
    go : (p q : Bool) → ltb lent 4464 ≡ p → ◌≡◌ {A = ℕ} 0 (cond p 7 (cond q 14 0)) → 4464 ≤ lent
    go true q ep h = absurd (omega arith)
    go false q ep h = ltb-false lent 4464 ep
