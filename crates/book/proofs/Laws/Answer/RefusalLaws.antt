-- What no refusal says, and what a refused call leaves (specs/Refusals.antt).
use Rattle.std.proofs.Common.{◌≡◌, ℕ, ◌<◌, Bool, true, false, cond, not, ◌&&◌, eqb, List, [], ◌∷◌, refl, arith, eqb-true}
use Rattle.measures.proofs.ListLaws.{both_ways}
use Rattle.book.specs.Book.{Book}
use Rattle.book.specs.Sound.{sound}
use Rattle.book.specs.Refusals.{Outcome, Check, first_refusal, decided, unsound}

-- each check's number is positive
abbrev pub Numbered : List Check → Type 0
Numbered [] = Unit {0}
Numbered (c ∷ cs) = (0 < c.number) × Numbered cs

-- no check applies
abbrev pub NoneApplies : List Check → Type 0
NoneApplies [] = Unit {0}
NoneApplies (c ∷ cs) = (c.applies ≡ false) × NoneApplies cs

-- where the first refusal is 0, every check was passed
pub none_applies : (cs : List Check) → Numbered cs → first_refusal cs ≡ 0 → NoneApplies cs
unfolding first_refusal
none_applies [] n e = tt
none_applies (c ∷ cs) n e = go c.applies refl (λ k. none_applies cs n.1 k) e
  where
    go : (t : Bool) → c.applies ≡ t → (first_refusal cs ≡ 0 → NoneApplies cs) → cond t c.number (first_refusal cs) ≡ 0 → (c.applies ≡ false) × NoneApplies cs
    go true q ih z = let k = n.0 in absurd (omega arith)
    go false q ih z = (q, ih z)

-- a call that answers no refusal was not refused, and leaves what it says
pub not-refused : (r : ℕ) (b : Book) (o : Outcome) → (decided r b o).refusal ≡ 0 → r ≡ 0
not-refused r b o e = go (eqb r 0) refl e
  where
    go : (t : Bool) → eqb r 0 ≡ t → (cond t o (record { refusal = r; number = 0; rows = []; book = b })).refusal ≡ 0 → r ≡ 0
    go true q z = eqb-true r 0 q
    go false q z = z

-- a book stays sound if the accepted call leaves a sound one: a refused call leaves it as it was
pub decided-sound : (r : ℕ) (b : Book) (o : Outcome) → sound b ≡ true → (r ≡ 0 → sound o.book ≡ true) → sound (decided r b o).book ≡ true
decided-sound r b o s h = go (eqb r 0) refl
  where
    go : (t : Bool) → eqb r 0 ≡ t → sound (cond t o (record { refusal = r; number = 0; rows = []; book = b })).book ≡ true
    go true q = h (eqb-true r 0 q)
    go false q = s

-- of a check of two conditions, the second was passed where the first holds
pub second_passed : (a c : Bool) → (not a && not c) ≡ false → a ≡ false → c ≡ true
second_passed true c e f = both_ways f
second_passed false true e f = refl
second_passed false false e f = both_ways e

-- each chain begins with the book: what is not refused was on a sound book
pub first_passed : (b : Book) (cs : List Check) → first_refusal (unsound b ∷ cs) ≡ 0 → sound b ≡ true
unfolding first_refusal
first_passed b cs z = go (sound b) refl z
  where
    go : (t : Bool) → sound b ≡ t → cond (not t) 1 (first_refusal cs) ≡ 0 → sound b ≡ true
    go true e h = e
    go false e h = absurd (omega arith)
