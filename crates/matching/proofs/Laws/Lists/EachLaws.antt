-- What holds of each element of a list, and of each with all behind it.
use Prim.Native.Nat.{ℕ, zero, suc, ◌+◌, ◌<◌}
use mathlib.Core.Path.{◌≡◌, refl, sym, ap, ◌∙◌}
use mathlib.Core.Logic.{inl, inr}
use mathlib.Core.Bool.{Bool, true, false, cond, ◌&&◌}
use mathlib.Core.List.{List, [], ◌∷◌, ◌++◌, map}
use native.Mathlib.Omega.{arith}
use lib.ListN.{length, get_or, take, drop}
use Rattle.measures.specs.Lists.{Each, Has, Along, sum_of, keep}
use Rattle.measures.proofs.ListLaws.{cond_case, sum_of_append, keep_append}

module _ {A : Type 0} where
  -- R holds of each element with each behind it
  abbrev pub Pairs : (A → A → Type 0) → List A → Type 0
  Pairs R [] = Unit {0}
  Pairs R (x ∷ xs) = Each (R x) xs × Pairs R xs

  pub each_map : (P Q : A → Type 0) (l : List A) → ((x : A) → P x → Q x) → Each P l → Each Q l
  each_map P Q [] h e = tt
  each_map P Q (x ∷ xs) h e = (h x e.0, each_map P Q xs h e.1)

  pub each_all : (P : A → Type 0) (l : List A) → ((x : A) → P x) → Each P l
  each_all P [] h = tt
  each_all P (x ∷ xs) h = (h x, each_all P xs h)

  pub each_both : (P Q R : A → Type 0) (l : List A) → ((x : A) → P x → Q x → R x) → Each P l → Each Q l → Each R l
  each_both P Q R [] h e d = tt
  each_both P Q R (x ∷ xs) h e d = (h x e.0 d.0, each_both P Q R xs h e.1 d.1)

  pub each_append : (P : A → Type 0) (xs ys : List A) → Each P xs → Each P ys → Each P (xs ++ ys)
  each_append P [] ys e d = d
  each_append P (x ∷ xs) ys e d = (e.0, each_append P xs ys e.1 d)

  pub each_keep : (P : A → Type 0) (f : A → Bool) (l : List A) → Each P l → Each P (keep f l)
  each_keep P f [] e = tt
  each_keep P f (x ∷ xs) e =
      let ih = each_keep P f xs e.1 in
      cond_case (λ (l : List A). Each P l) (f x) (x ∷ keep f xs) (keep f xs) (λ _. (e.0, ih)) (λ _. ih)

  -- the test holds of what is kept
  pub kept : (f : A → Bool) (l : List A) → Each (λ x. f x ≡ true) (keep f l)
  kept f [] = tt
  kept f (x ∷ xs) =
      let ih = kept f xs in
      cond_case (λ (l : List A). Each (λ y. f y ≡ true) l) (f x) (x ∷ keep f xs) (keep f xs) (λ e. (e, ih)) (λ _. ih)

  pub each_at : (P : A → Type 0) (l : List A) (i : ℕ) (d : A) → Each P l → i < length l → P (get_or l i d)
  each_at P [] i d e h = absurd (omega arith)
  each_at P (x ∷ xs) zero d e h = e.0
  each_at P (x ∷ xs) (suc i) d e h = each_at P xs i d e.1 (omega arith)

  -- elements
  pub each_has : (P : A → Type 0) (l : List A) → ((x : A) → Has x l → P x) → Each P l
  each_has P [] h = tt
  each_has P (x ∷ xs) h = (h x (inl refl), each_has P xs (λ y m. h y (inr m)))

  pub has_each : (P : A → Type 0) (l : List A) (x : A) → Each P l → Has x l → P x
  has_each P [] x e m = absurd m
  has_each P (y ∷ ys) x e (inl q) = rw q e.0
  has_each P (y ∷ ys) x e (inr m) = has_each P ys x e.1 m

  pub has_self : (l : List A) → Each (λ x. Has x l) l
  has_self l = each_has (λ x. Has x l) l (λ x m. m)

  pub has_append : (xs ys : List A) (x : A) → Has x ys → Has x (xs ++ ys)
  has_append [] ys x m = m
  has_append (y ∷ xs) ys x m = inr (has_append xs ys x m)

  pub append_has : (xs ys : List A) (x : A) → Has x xs → Has x (xs ++ ys)
  append_has [] ys x m = absurd m
  append_has (y ∷ xs) ys x (inl q) = inl q
  append_has (y ∷ xs) ys x (inr m) = inr (append_has xs ys x m)

  -- of what a test keeps
  pub keep_has : (f : A → Bool) (l : List A) (x : A) → f x ≡ true → Has x l → Has x (keep f l)
  keep_has f [] x e m = m
  keep_has f (y ∷ ys) x e (inl q) = rw (ap f (sym q) ∙ e) (inl q)
  keep_has f (y ∷ ys) x e (inr m) =
      let ih = keep_has f ys x e m in
      cond_case (λ (l : List A). Has x l) (f y) (y ∷ keep f ys) (keep f ys) (λ _. inr ih) (λ _. ih)

  pub has_keep : (f : A → Bool) (l : List A) (x : A) → Has x (keep f l) → Has x l
  has_keep f l x m = has_each (λ y. Has y l) (keep f l) x (each_keep (λ y. Has y l) f l (has_self l)) m

  -- lists of which a test keeps the same
  pub has_other : (f : A → Bool) (k l : List A) → keep f k ≡ keep f l → (x : A) → f x ≡ true → Has x k → Has x l
  has_other f k l e x t m = has_keep f l x (rw e at (keep_has f k x t m))

  -- pairs
  pub pairs_keep : (R : A → A → Type 0) (f : A → Bool) (l : List A) → Pairs R l → Pairs R (keep f l)
  pairs_keep R f [] e = tt
  pairs_keep R f (x ∷ xs) e =
      let ih = pairs_keep R f xs e.1 in
      cond_case (λ (l : List A). Pairs R l) (f x) (x ∷ keep f xs) (keep f xs) (λ _. (each_keep (R x) f xs e.0, ih)) (λ _. ih)

  pub pairs_map : (R S : A → A → Type 0) (l : List A) → ((x y : A) → R x y → S x y) → Pairs R l → Pairs S l
  pairs_map R S [] h p = tt
  pairs_map R S (x ∷ xs) h p = (each_map (R x) (S x) xs (h x) p.0, pairs_map R S xs h p.1)

  pub pairs_append : (R : A → A → Type 0) (xs ys : List A) → Pairs R xs → Pairs R ys → Each (λ x. Each (R x) ys) xs → Pairs R (xs ++ ys)
  pairs_append R [] ys p q e = q
  pairs_append R (x ∷ xs) ys p q e = (each_append (R x) xs ys p.0 e.0, pairs_append R xs ys p.1 q e.1)

  -- an element and those up to it, and those from it on
  module _ (R : A → A → Type 0) (self : (x : A) → R x x) where
    pub pairs_upto : (l : List A) (i : ℕ) (d : A) → Pairs R l → i < length l → Each (λ x. R x (get_or l i d)) (take (suc i) l)
    pairs_upto [] i d p h = absurd (omega arith)
    pairs_upto (x ∷ xs) zero d p h = (self x, tt)
    pairs_upto (x ∷ xs) (suc i) d p h = (each_at (R x) xs i d p.0 (omega arith), pairs_upto xs i d p.1 (omega arith))

    pub pairs_from : (l : List A) (i : ℕ) (d : A) → Pairs R l → i < length l → Each (λ x. R (get_or l i d) x) (drop i l)
    pairs_from [] i d p h = absurd (omega arith)
    pairs_from (x ∷ xs) zero d p h = (self x, p.0)
    pairs_from (x ∷ xs) (suc i) d p h = pairs_from xs i d p.1 (omega arith)

  -- sums of what is kept
  pub keep-sum : (f : A → ℕ) (g : A → Bool) (l : List A) → sum_of f (keep g l) ≡ sum_of (λ x. cond (g x) (f x) 0) l
  keep-sum f g [] = refl
  keep-sum f g (x ∷ xs) = go (g x) (keep-sum f g xs)
    where
      go : (b : Bool) → sum_of f (keep g xs) ≡ sum_of (λ y. cond (g y) (f y) 0) xs → sum_of f (cond b (x ∷ keep g xs) (keep g xs))
          ≡ cond b (f x) 0 + sum_of (λ y. cond (g y) (f y) 0) xs
      go true ih = omega arith
      go false ih = omega arith

  pub keep-sum_append : (f : A → ℕ) (g : A → Bool) (xs ys : List A) → sum_of f (keep g (xs ++ ys)) ≡ sum_of f (keep g xs) + sum_of f (keep g ys)
  keep-sum_append f g xs ys = ap (sum_of f) (keep_append g xs ys) ∙ sum_of_append f (keep g xs) (keep g ys)

  pub keep_all : (f : A → Bool) (l : List A) → Each (λ x. f x ≡ true) l → keep f l ≡ l
  keep_all f [] e = refl
  keep_all f (x ∷ xs) e = rw e.0 (ap (λ (l : List A). x ∷ l) (keep_all f xs e.1))

  pub keep-nothing : (f : A → Bool) (l : List A) → Each (λ x. f x ≡ false) l → keep f l ≡ []
  keep-nothing f [] e = refl
  keep-nothing f (x ∷ xs) e = rw e.0 (keep-nothing f xs e.1)

  pub keep_ext : (f g : A → Bool) (l : List A) → Each (λ x. f x ≡ g x) l → keep f l ≡ keep g l
  keep_ext f g [] e = refl
  keep_ext f g (x ∷ xs) e = rw e.0 (ap (λ (l : List A). cond (g x) (x ∷ l) l) (keep_ext f g xs e.1))

  pub keep-keep : (f g : A → Bool) (l : List A) → keep f (keep g l) ≡ keep (λ x. g x && f x) l
  keep-keep f g [] = refl
  keep-keep f g (x ∷ xs) = go (g x) (keep-keep f g xs)
    where
      go : (b : Bool) → keep f (keep g xs) ≡ keep (λ y. g y && f y) xs → keep f (cond b (x ∷ keep g xs) (keep g xs))
          ≡ cond (b && f x) (x ∷ keep (λ y. g y && f y) xs) (keep (λ y. g y && f y) xs)
      go true ih = ap (λ (l : List A). cond (f x) (x ∷ l) l) ih
      go false ih = ih

module _ {A B : Type 0} where
  -- of what a function gives for each element
  pub each_mapped : (P : B → Type 0) (f : A → B) (l : List A) → Each (λ x. P (f x)) l → Each P (map f l)
  each_mapped P f [] e = tt
  each_mapped P f (x ∷ xs) e = (e.0, each_mapped P f xs e.1)

  pub sum_of_each : (h : B → ℕ) (f : A → B) (l : List A) → sum_of h (map f l) ≡ sum_of (λ x. h (f x)) l
  sum_of_each h f [] = refl
  sum_of_each h f (x ∷ xs) = ap (λ (n : ℕ). h (f x) + n) (sum_of_each h f xs)

  pub sum_of_mapped : (h : B → ℕ) (g : B → Bool) (f : A → B) (l : List A) → sum_of h (keep g (map f l)) ≡ sum_of (λ x. h (f x)) (keep (λ x. g (f x)) l)
  sum_of_mapped h g f [] = refl
  sum_of_mapped h g f (x ∷ xs) = go (g (f x)) (sum_of_mapped h g f xs)
    where
      go : (b : Bool) → sum_of h (keep g (map f xs)) ≡ sum_of (λ y. h (f y)) (keep (λ y. g (f y)) xs)
          → sum_of h (cond b (f x ∷ keep g (map f xs)) (keep g (map f xs)))
          ≡ sum_of (λ y. h (f y)) (cond b (x ∷ keep (λ y. g (f y)) xs) (keep (λ y. g (f y)) xs))
      go true ih = ap (λ (n : ℕ). h (f x) + n) ih
      go false ih = ih

  -- of two lists, place by place
  module _ (R : A → B → Type 0) where
    pub along_mapped : (f : A → B) (xs : List A) → Each (λ x. R x (f x)) xs → Along R xs (map f xs)
    along_mapped f [] e = tt
    along_mapped f (x ∷ xs) e = (e.0, along_mapped f xs e.1)

    pub along_append : (xs vs : List A) (ys ws : List B) → Along R xs ys → Along R vs ws → Along R (xs ++ vs) (ys ++ ws)
    along_append [] vs [] ws e d = d
    along_append [] vs (y ∷ ys) ws e d = absurd e
    along_append (x ∷ xs) vs [] ws e d = absurd e
    along_append (x ∷ xs) vs (y ∷ ys) ws e d = (e.0, along_append xs vs ys ws e.1 d)

    pub along_imp : (S : A → B → Type 0) → ((x : A) (y : B) → R x y → S x y) → (xs : List A) (ys : List B) → Along R xs ys → Along S xs ys
    along_imp S h [] [] e = tt
    along_imp S h [] (y ∷ ys) e = absurd e
    along_imp S h (x ∷ xs) [] e = absurd e
    along_imp S h (x ∷ xs) (y ∷ ys) e = (h x y e.0, along_imp S h xs ys e.1)

    -- of either list alone
    pub along_left : (P : A → Type 0) → ((x : A) (y : B) → R x y → P x) → (xs : List A) (ys : List B) → Along R xs ys → Each P xs
    along_left P h [] [] e = tt
    along_left P h [] (y ∷ ys) e = absurd e
    along_left P h (x ∷ xs) [] e = absurd e
    along_left P h (x ∷ xs) (y ∷ ys) e = (h x y e.0, along_left P h xs ys e.1)

    pub along_right : (P : B → Type 0) → ((x : A) (y : B) → R x y → P y) → (xs : List A) (ys : List B) → Along R xs ys → Each P ys
    along_right P h [] [] e = tt
    along_right P h [] (y ∷ ys) e = absurd e
    along_right P h (x ∷ xs) [] e = absurd e
    along_right P h (x ∷ xs) (y ∷ ys) e = (h x y e.0, along_right P h xs ys e.1)
