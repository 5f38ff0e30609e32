-- Laws of `lessen`: from rising numbers it changes one place, and they rise still.
use Prim.Native.Nat.{ℕ, zero, suc, ◌<◌, ◌≤◌}
use mathlib.Core.Path.{◌≡◌, refl, ap}
use mathlib.Core.Bool.{true}
use mathlib.Core.List.{List, [], ◌∷◌}
use native.Mathlib.Omega.{arith}
use native.Mathlib.Nat.{not-suc-le-zero}
use borrow.Author.Tests.{eq-eqb, ne_eqb, le-leb, lt-leb}
use lib.ListN.{length, get_or, set}
use Rattle.matching.specs.Orders.{Order, less, lessen, rising, numbers}
use Rattle.matching.specs.Memory.{no_order}
use Rattle.matching.proofs.Laws.Lists.EachLaws.{each_at}
use Rattle.matching.proofs.Laws.Orders.LessenLaws.{Numbered, rising-numbered, numbered-rising, lessen-numbered}
use Rattle.matching.proofs.Laws.Rolling.CounterpartLaws.{without}

pub without-length : (b : ℕ) (os : List Order) → b < length os → suc (length (without b os)) ≡ length os
unfolding without
without-length b [] l = absurd (not-suc-le-zero l)
without-length zero (o ∷ os) l = refl
without-length (suc b) (o ∷ os) l = ap suc (without-length b os (omega arith))

gone : (os : List Order) (b x : ℕ) → Numbered os → b < length os → (get_or os b no_order).quantity ≤ x → lessen (get_or os b no_order).number x os ≡ without b os
unfolding lessen without
gone [] b x e l h = absurd (not-suc-le-zero l)
gone (o ∷ os) zero x e l h = rw (eq-eqb o.number o.number refl, le-leb o.quantity x h)
gone (o ∷ os) (suc b) x e l h =
    let u : o.number < (get_or os b no_order).number = each_at (λ (p : Order). o.number < p.number) os b no_order e.0 (omega arith) in
    rw (ne_eqb o.number (get_or os b no_order).number (omega arith))
    (ap (λ (y : List Order). o ∷ y) (gone os b x e.1 (omega arith) h))

kept : (os : List Order) (b x : ℕ) → Numbered os → b < length os → x < (get_or os b no_order).quantity → lessen (get_or os b no_order).number x os
    ≡ set os b (less (get_or os b no_order) x)
unfolding lessen
kept [] b x e l h = absurd (not-suc-le-zero l)
kept (o ∷ os) zero x e l h = rw (eq-eqb o.number o.number refl, lt-leb o.quantity x h)
kept (o ∷ os) (suc b) x e l h =
    let u : o.number < (get_or os b no_order).number = each_at (λ (p : Order). o.number < p.number) os b no_order e.0 (omega arith) in
    rw (ne_eqb o.number (get_or os b no_order).number (omega arith))
    (ap (λ (y : List Order). o ∷ y) (kept os b x e.1 (omega arith) h))

-- under the number of the order at place b, an emptied order goes and another keeps the rest
module _ (os : List Order) (b x : ℕ) (rises : rising (numbers os) ≡ true) (l : b < length os) where
  pub lessen_gone : (get_or os b no_order).quantity ≤ x → lessen (get_or os b no_order).number x os ≡ without b os
  lessen_gone h = gone os b x (rising-numbered os rises) l h

  pub lessen_kept : x < (get_or os b no_order).quantity → lessen (get_or os b no_order).number x os ≡ set os b (less (get_or os b no_order) x)
  lessen_kept h = kept os b x (rising-numbered os rises) l h

-- numbers that rise rise after it
pub lessen_rises : (n x : ℕ) (os : List Order) → rising (numbers os) ≡ true → rising (numbers (lessen n x os)) ≡ true
lessen_rises n x os e = numbered-rising (lessen n x os) (lessen-numbered n x os (rising-numbered os e))
