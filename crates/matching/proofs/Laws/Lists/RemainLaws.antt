-- What remains of a list: facts of each element, sums, tests and rising numbers.
use Prim.Native.Nat.{ℕ, suc, ◌≤◌, ◌<◌}
use mathlib.Core.Path.{◌≡◌, refl}
use mathlib.Core.Bool.{Bool, true, false, cond}
use mathlib.Core.List.{List, [], ◌∷◌, ◌++◌, map}
use native.Mathlib.Omega.{arith}
use lib.ListN.{length, get_or}
use lib.Dec.{ltb}
use borrow.Author.Tests.{lt-ltb}
use Rattle.measures.specs.Lists.{sum_of, every, Each, keep}
use Rattle.measures.proofs.ListLaws.{and_true, and_left, and_right}
use Rattle.matching.specs.Orders.{rising}

-- a test of each element, as a fact of each
module _ {A : Type 0} where
  pub each_of : (f : A → Bool) (P : A → Type 0) → ((x : A) → f x ≡ true → P x) → (l : List A) → every f l ≡ true → Each P l
  each_of f P h [] e = tt
  each_of f P h (x ∷ l) e = (h x (and_left (f x) (every f l) e), each_of f P h l (and_right (f x) (every f l) e))

  pub each_holds : (f : A → Bool) (P : A → Type 0) → ((x : A) → P x → f x ≡ true) → (l : List A) → Each P l → every f l ≡ true
  each_holds f P h [] e = refl
  each_holds f P h (x ∷ l) e = and_true (f x) (every f l) (h x e.0) (each_holds f P h l e.1)

  pub each_imp : (P Q : A → Type 0) → ((x : A) → P x → Q x) → (l : List A) → Each P l → Each Q l
  each_imp P Q h [] e = tt
  each_imp P Q h (x ∷ l) e = (h x e.0, each_imp P Q h l e.1)

  pub each_by : (P : A → Type 0) (l : List A) (d : A) → ((i : ℕ) → i < length l → P (get_or l i d)) → Each P l
  each_by P [] d h = tt
  each_by P (x ∷ l) d h = (h 0 (omega arith), each_by P l d (λ i k. h (suc i) (omega arith)))

  pub every_append : (f : A → Bool) (xs ys : List A) → every f xs ≡ true → every f ys ≡ true → every f (xs ++ ys) ≡ true
  every_append f [] ys e h = h
  every_append f (x ∷ xs) ys e h =
      and_true (f x) (every f (xs ++ ys)) (and_left (f x) (every f xs) e) (every_append f xs ys (and_right (f x) (every f xs) e) h)

-- two tests of each element that give a third
pub every_both : {A : Type 0} (f g h : A → Bool) → ((x : A) → f x ≡ true → g x ≡ true → h x ≡ true) → (l : List A) → every f l ≡ true → every g l ≡ true
    → every h l ≡ true
every_both f g h k [] p q = refl
every_both f g h k (x ∷ l) p q =
    and_true (h x) (every h l) (k x (and_left (f x) (every f l) p) (and_left (g x) (every g l) q))
    (every_both f g h k l (and_right (f x) (every f l) p) (and_right (g x) (every g l) q))

-- a larger number behind numbers that rise
module _ {A : Type 0} (f : A → ℕ) where
  above_append : (n : ℕ) (xs : List A) (y : A) → every (ltb n) (map f xs) ≡ true → n < f y → every (ltb n) (map f (xs ++ (y ∷ []))) ≡ true
  above_append n [] y e h = and_true (ltb n (f y)) true (lt-ltb n (f y) h) refl
  above_append n (x ∷ xs) y e h =
      and_true (ltb n (f x)) (every (ltb n) (map f (xs ++ (y ∷ [])))) (and_left (ltb n (f x)) (every (ltb n) (map f xs)) e)
      (above_append n xs y (and_right (ltb n (f x)) (every (ltb n) (map f xs)) e) h)

  pub rising_append : (xs : List A) (y : A) → rising (map f xs) ≡ true → Each (λ (x : A). f x < f y) xs → rising (map f (xs ++ (y ∷ []))) ≡ true
  unfolding rising
  rising_append [] y e h = refl
  rising_append (x ∷ xs) y e h =
      and_true (every (ltb (f x)) (map f (xs ++ (y ∷ [])))) (rising (map f (xs ++ (y ∷ []))))
      (above_append (f x) xs y (and_left (every (ltb (f x)) (map f xs)) (rising (map f xs)) e) h.0)
      (rising_append xs y (and_right (every (ltb (f x)) (map f xs)) (rising (map f xs)) e) h.1)

-- a list from which elements are gone, and in which each that is kept stands to the old one as R says
pub data Remains {A : Type 0} (R : A → A → Type 0) : List A → List A → Type 0 where
  ended : Remains R [] []
  gone : {y : A} {xs ys : List A} → Remains R xs ys → Remains R xs (y ∷ ys)
  kept : {x y : A} {xs ys : List A} → R x y → Remains R xs ys → Remains R (x ∷ xs) (y ∷ ys)

module _ {A : Type 0} (R : A → A → Type 0) where
  pub remains-all : ((x : A) → R x x) → (l : List A) → Remains R l l
  remains-all r [] = ended
  remains-all r (x ∷ l) = kept (r x) (remains-all r l)

  pub remains-keep : (f : A → Bool) → ((x : A) → R x x) → (l : List A) → Remains R (keep f l) l
  remains-keep f r [] = ended
  remains-keep f r (x ∷ l) = go (f x) (remains-keep f r l)
    where
      go : (b : Bool) → Remains R (keep f l) l → Remains R (cond b (x ∷ keep f l) (keep f l)) (x ∷ l)
      go true t = kept (r x) t
      go false t = gone t

  pub remains_each : (P Q : A → Type 0) → ((x y : A) → R x y → P y → Q x) → {xs ys : List A} → Remains R xs ys → Each P ys → Each Q xs
  remains_each P Q h ended e = tt
  remains_each P Q h (gone t) e = remains_each P Q h t e.1
  remains_each P Q h (kept {x = x} {y = y} r t) e = (h x y r e.0, remains_each P Q h t e.1)

  pub remains-every : (f g : A → Bool) → ((x y : A) → R x y → f y ≡ true → g x ≡ true) → (xs ys : List A) → Remains R xs ys → every f ys ≡ true → every g xs
      ≡ true
  remains-every f g h xs ys t e =
      each_holds g (λ x. g x ≡ true) (λ x k. k) xs
      (remains_each (λ y. f y ≡ true) (λ x. g x ≡ true) h t (each_of f (λ y. f y ≡ true) (λ y k. k) ys e))

  pub remains-sum : (f g : A → ℕ) → ((x y : A) → R x y → f x ≤ g y) → {xs ys : List A} → Remains R xs ys → sum_of f xs ≤ sum_of g ys
  remains-sum f g h ended = omega arith
  remains-sum f g h (gone t) = let s = remains-sum f g h t in omega arith
  remains-sum f g h (kept {x = x} {y = y} r t) =
      let s = remains-sum f g h t in
      let k = h x y r in
      omega arith

  pub remains-length : {xs ys : List A} → Remains R xs ys → length xs ≤ length ys
  remains-length ended = omega arith
  remains-length (gone t) = let s = remains-length t in omega arith
  remains-length (kept r t) = let s = remains-length t in omega arith

  -- with their numbers kept
  pub remains-above : (f : A → ℕ) → ((x y : A) → R x y → f x ≡ f y) → (n : ℕ) {xs ys : List A} → Remains R xs ys → every (ltb n) (map f ys) ≡ true
      → every (ltb n) (map f xs) ≡ true
  remains-above f h n ended e = refl
  remains-above f h n (gone {y = y} {ys = ys} t) e = remains-above f h n t (and_right (ltb n (f y)) (every (ltb n) (map f ys)) e)
  remains-above f h n (kept {x = x} {y = y} {xs = xs} {ys = ys} r t) e =
      and_true (ltb n (f x)) (every (ltb n) (map f xs))
      (rw (h x y r) (and_left (ltb n (f y)) (every (ltb n) (map f ys)) e))
      (remains-above f h n t (and_right (ltb n (f y)) (every (ltb n) (map f ys)) e))

  pub remains-rising : (f : A → ℕ) → ((x y : A) → R x y → f x ≡ f y) → {xs ys : List A} → Remains R xs ys → rising (map f ys) ≡ true → rising (map f xs)
      ≡ true
  unfolding rising
  remains-rising f h ended e = refl
  remains-rising f h (gone {y = y} {ys = ys} t) e = remains-rising f h t (and_right (every (ltb (f y)) (map f ys)) (rising (map f ys)) e)
  remains-rising f h (kept {x = x} {y = y} {xs = xs} {ys = ys} r t) e =
      and_true (every (ltb (f x)) (map f xs)) (rising (map f xs))
      (rw (h x y r) (remains-above f h (f y) t (and_left (every (ltb (f y)) (map f ys)) (rising (map f ys)) e)))
      (remains-rising f h t (and_right (every (ltb (f y)) (map f ys)) (rising (map f ys)) e))
