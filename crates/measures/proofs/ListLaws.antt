-- Laws of tables, sums and tests (specs/Lists.antt).
use Prim.Native.Nat.{ℕ, zero, suc, ◌+◌, ◌*◌, ◌≤◌, ◌<◌, min}
use mathlib.Core.Path.{◌≡◌, refl, sym, ap, ◌∙◌}
use mathlib.Core.Bool.{Bool, true, false, cond, not, ◌&&◌, ◌||◌}
use mathlib.Core.List.{List, [], ◌∷◌, ◌++◌, map}
use native.Mathlib.Omega.{arith}
use native.Mathlib.Nat.{not-suc-le-zero, add-zero, zero-add, mul-zero, mul-add}
use native.Mathlib.Numerals.{add-one}
use native.Mathlib.Decide.{ℕ_discrete, dec_lt}
use lib.ListN.{length, get_or, drop, set, length-set, length-append, length-map, get_or-append, get_or-map}
use lib.Seq.{ext_get_or, get_or-set_same, get_or-set_other, get_or_at, drop-cons}
use Rattle.measures.specs.Sharing.{total}
use Rattle.measures.specs.Lists.{holds, sum_of, every, keep, sum, all, table_from, table}

-- cases of a choice
pub cond-true : {A : Type 0} (b : Bool) (x y : A) {z : A} → b ≡ true → x ≡ z → cond b x y ≡ z
cond-true b x y e h = rw e h

pub cond-false : {A : Type 0} (b : Bool) (x y : A) {z : A} → b ≡ false → y ≡ z → cond b x y ≡ z
cond-false b x y e h = rw e h

pub cond_case : {A : Type 0} (P : A → Type 0) (b : Bool) (x y : A) → (b ≡ true → P x) → (b ≡ false → P y) → P (cond b x y)
cond_case P true x y h k = h refl
cond_case P false x y h k = k refl

pub cond_zero : (b : Bool) → cond {A = ℕ} b 0 0 ≡ 0
cond_zero true = refl
cond_zero false = refl

-- no Bool is both
pub both_ways : {X : Type 0} → true ≡ false → X
both_ways e = let z : ◌≡◌ {A = ℕ} 0 1 = cc in absurd (omega arith)

-- a test that cannot hold fails
pub false_by : (b : Bool) → (b ≡ true → ⊥) → b ≡ false
false_by true h = absurd (h refl)
false_by false h = refl

pub true_by : (b : Bool) → (b ≡ false → ⊥) → b ≡ true
true_by true h = refl
true_by false h = absurd (h refl)

pub not_both : (b : Bool) → b ≡ true → b ≡ false → ⊥
not_both b e f = both_ways (sym e ∙ f)

pub not_fails : (b : Bool) → b ≡ false → not b ≡ true
not_fails b e = rw e

-- a disjunction
pub or_left : (a b : Bool) → a ≡ true → (a || b) ≡ true
or_left a b e = rw e

pub or_right : (a b : Bool) → b ≡ true → (a || b) ≡ true
or_right true b e = refl
or_right false b e = e

pub or_none : (a : Bool) → (a || false) ≡ a
or_none true = refl
or_none false = refl

pub or_neither : (a b : Bool) → (a || b) ≡ false → (a ≡ false) × (b ≡ false)
or_neither true b e = both_ways e
or_neither false b e = (refl, e)

pub or_other : (a b : Bool) → (a || b) ≡ true → a ≡ false → b ≡ true
or_other true b e f = both_ways f
or_other false b e f = e

-- a conjunction and its halves
pub and_true : (a b : Bool) → a ≡ true → b ≡ true → (a && b) ≡ true
and_true a b e f = rw (e, f)

pub and_left : (a b : Bool) → (a && b) ≡ true → a ≡ true
and_left true b e = refl
and_left false b e = e

pub and_right : (a b : Bool) → (a && b) ≡ true → b ≡ true
and_right true b e = e
and_right false b e = both_ways (sym e)

pub and_left-false : (a b : Bool) → a ≡ false → (a && b) ≡ false
and_left-false a b e = rw e

pub and_right_false : (a b : Bool) → b ≡ false → (a && b) ≡ false
and_right_false true b e = e
and_right_false false b e = refl

pub and_true_right : (b : Bool) → (b && true) ≡ b
and_true_right true = refl
and_true_right false = refl

pub with_true : (b : Bool) (x : ℕ) → cond (b && true) x 0 ≡ cond b x 0
with_true b x = ap (λ (t : Bool). cond t x 0) (and_true_right b)

pub and_holding : (a b : Bool) → b ≡ true → (a && b) ≡ a
and_holding a b e = rw e (and_true_right a)

-- a list of conditions, as facts
abbrev pub AllTrue : List Bool → Type 0
AllTrue [] = Unit {0}
AllTrue (c ∷ cs) = (c ≡ true) × AllTrue cs

pub all_true : (cs : List Bool) → holds cs ≡ true → AllTrue cs
unfolding holds
all_true [] e = tt
all_true (c ∷ cs) e = (and_left c (holds cs) e, all_true cs (and_right c (holds cs) e))

pub holds-all : (cs : List Bool) → AllTrue cs → holds cs ≡ true
unfolding holds
holds-all [] t = refl
holds-all (c ∷ cs) t = and_true c (holds cs) t.0 (holds-all cs t.1)

-- a table is known by its elements
module _ {A : Type 0} where
  from_length : (j n : ℕ) (f : ℕ → A) → length (table_from j n f) ≡ n
  unfolding table_from
  from_length j zero f = refl
  from_length j (suc n) f = ap suc (from_length (suc j) n f)

  from_at : (j n : ℕ) (f : ℕ → A) (k : ℕ) (d : A) → k < n → get_or (table_from j n f) k d ≡ f (j + k)
  unfolding table_from
  from_at j zero f k d h = absurd (not-suc-le-zero h)
  from_at j (suc n) f zero d h = ap f (sym (add-zero j))
  from_at j (suc n) f (suc k) d h = from_at (suc j) n f k d (omega arith) ∙ ap f (omega arith)

  pub table-length : (n : ℕ) (f : ℕ → A) → length (table n f) ≡ n
  table-length n f = from_length 0 n f

  pub table_at : (n : ℕ) (f : ℕ → A) (k : ℕ) (d : A) → k < n → get_or (table n f) k d ≡ f k
  table_at n f k d h = from_at 0 n f k d h ∙ ap f (zero-add k)

  pub table_is : (n : ℕ) (f : ℕ → A) (l : List A) (d : A) → length l ≡ n → ((k : ℕ) → k < n → f k ≡ get_or l k d) → table n f ≡ l
  table_is n f l d e h = ext_get_or d (table n f) l (table-length n f ∙ sym e) (λ k hk. at k (rw (table-length n f) at hk))
    where
      at : (k : ℕ) → k < n → get_or (table n f) k d ≡ get_or l k d
      at k hk = table_at n f k d hk ∙ h k hk

  pub table_ext : (n : ℕ) (f g : ℕ → A) → ((k : ℕ) → k < n → f k ≡ g k) → table n f ≡ table n g
  table_ext n f g h = table_is n f (table n g) (f 0) (table-length n g) (λ k hk. h k hk ∙ sym (table_at n g k (f 0) hk))

  -- a table that differs at one place
  pub table-set : (n : ℕ) (f g : ℕ → A) (i : ℕ) (v d : A) → i < n → g i ≡ v → ((k : ℕ) → k < n → (k ≡ i → ⊥) → g k ≡ f k) → table n g ≡ set (table n f) i v
  table-set n f g i v d hi e h = table_is n g (set (table n f) i v) d (length-set (table n f) i v ∙ table-length n f) (λ k hk. at k hk (ℕ_discrete k i))
    where
      at : (k : ℕ) → k < n → Dec (k ≡ i) → g k ≡ get_or (set (table n f) i v) k d
      at k hk (yes q) =
          let l : i < length (table n f) = omega (arith, table-length n f) in
          rw q (e ∙ sym (get_or-set_same (table n f) i v d l))
      at k hk (no q) = h k hk q ∙ sym (table_at n f k d hk) ∙ sym (get_or-set_other (table n f) i k v d q)

  -- one element more
  pub table_more : (n : ℕ) (f : ℕ → A) → table (n + 1) f ≡ table n f ++ (f n ∷ [])
  table_more n f = table_is (n + 1) f (table n f ++ (f n ∷ [])) (f 0) (length-append (table n f) (f n ∷ [])
      ∙ ap (λ (x : ℕ). x + 1) (table-length n f)) (λ k hk. at k hk (ℕ_discrete k n))
    where
      at : (k : ℕ) → k < n + 1 → Dec (k ≡ n) → f k ≡ get_or (table n f ++ (f n ∷ [])) k (f 0)
      at k hk (yes e) = rw e (sym (get_or_at (table n f) (f n) [] (f 0) n (table-length n f)))
      at k hk (no ne) =
          let h : k < n = omega arith in
          let l : k < length (table n f) = rw (table-length n f) h in
          sym (table_at n f k (f 0) h) ∙ sym (get_or-append (table n f) (f n ∷ []) (f 0) k l)

-- tests over the numbers below a bound
pub all_none : (f : ℕ → Bool) → all 0 f ≡ true
unfolding all
all_none f = refl

pub all_more : (n : ℕ) (f : ℕ → Bool) → all n f ≡ true → f n ≡ true → all (n + 1) f ≡ true
unfolding all
all_more n f h g = rw add-one (rw (h, g))

pub all_fails : (n : ℕ) (f : ℕ → Bool) (i : ℕ) → i < n → f i ≡ false → all n f ≡ false
unfolding all
all_fails zero f i h g = absurd (not-suc-le-zero h)
all_fails (suc n) f i h g = go (λ l. all_fails n f i l g) (dec_lt i n)
  where
    go : (i < n → all n f ≡ false) → Dec (i < n) → (all n f && f n) ≡ false
    go ih (yes l) = rw (ih l)
    go ih (no l) =
        let e : i ≡ n = omega arith in
        and_right_false (all n f) (f n) (rw (← e) g)

pub all_at : (n : ℕ) (f : ℕ → Bool) (i : ℕ) → all n f ≡ true → i < n → f i ≡ true
unfolding all
all_at zero f i h l = absurd (not-suc-le-zero l)
all_at (suc n) f i h l = go (λ k. all_at n f i (and_left (all n f) (f n) h) k) (dec_lt i n)
  where
    go : (i < n → f i ≡ true) → Dec (i < n) → f i ≡ true
    go ih (yes k) = ih k
    go ih (no k) =
        let w : i ≡ n = omega arith in
        rw w (and_right (all n f) (f n) h)

pub all_by : (n : ℕ) (f : ℕ → Bool) → ((i : ℕ) → i < n → f i ≡ true) → all n f ≡ true
unfolding all
all_by zero f h = refl
all_by (suc n) f h = and_true (all n f) (f n) (all_by n f (λ i l. h i (omega arith))) (h n (omega arith))

pub all_ext : (n : ℕ) (f g : ℕ → Bool) → ((i : ℕ) → i < n → f i ≡ g i) → all n f ≡ all n g
unfolding all
all_ext zero f g h = refl
all_ext (suc n) f g h = rw (all_ext n f g (λ i l. h i (omega arith)), h n (omega arith))

-- sums over the numbers below a bound
pub sum_none : (f : ℕ → ℕ) → sum 0 f ≡ 0
unfolding sum
sum_none f = refl

-- a sum of nothings
pub sum-zero : (n : ℕ) (f : ℕ → ℕ) → ((i : ℕ) → i < n → f i ≡ 0) → sum n f ≡ 0
unfolding sum
sum-zero zero f h = refl
sum-zero (suc n) f h = let t = sum-zero n f (λ i l. h i (omega arith)) in let e = h n (omega arith) in omega arith

pub sum_more : (n : ℕ) (f : ℕ → ℕ) → sum (n + 1) f ≡ sum n f + f n
unfolding sum
sum_more n f = rw add-one

pub sum_ext : (n : ℕ) (f g : ℕ → ℕ) → ((i : ℕ) → i < n → f i ≡ g i) → sum n f ≡ sum n g
unfolding sum
sum_ext zero f g h = refl
sum_ext (suc n) f g h = rw (sum_ext n f g (λ i l. h i (omega arith)), h n (omega arith))

pub sum_mono : (n : ℕ) (f g : ℕ → ℕ) → ((i : ℕ) → i < n → f i ≤ g i) → sum n f ≤ sum n g
unfolding sum
sum_mono zero f g h = omega arith
sum_mono (suc n) f g h =
    let t = sum_mono n f g (λ i l. h i (omega arith)) in
    let s = h n (omega arith) in
    omega arith

pub sum_add : (n : ℕ) (f g : ℕ → ℕ) → sum n (λ i. f i + g i) ≡ sum n f + sum n g
unfolding sum
sum_add zero f g = refl
sum_add (suc n) f g = let t = sum_add n f g in omega arith

-- a shorter sum is no larger
pub sum_prefix : (n k : ℕ) (f : ℕ → ℕ) → k ≤ n → sum k f ≤ sum n f
unfolding sum
sum_prefix zero k f h =
    let e : k ≡ 0 = omega arith in
    rw e (omega arith)
sum_prefix (suc n) k f h = go (λ l. sum_prefix n k f l) (dec_lt n k)
  where
    go : (k ≤ n → sum k f ≤ sum n f) → Dec (n < k) → sum k f ≤ sum n f + f n
    go ih (yes l) =
        let e : k ≡ suc n = omega arith in
        rw e (omega arith)
    go ih (no l) = let t = ih (omega arith) in omega arith

-- each term is at most the sum
pub sum_at : (n : ℕ) (f : ℕ → ℕ) (i : ℕ) → i < n → f i ≤ sum n f
unfolding sum
sum_at zero f i h = absurd (not-suc-le-zero h)
sum_at (suc n) f i h = go (λ l. sum_at n f i l) (dec_lt i n)
  where
    go : (i < n → f i ≤ sum n f) → Dec (i < n) → f i ≤ sum n f + f n
    go ih (yes l) = let t = ih l in omega arith
    go ih (no l) =
        let e : f i ≡ f n = ap f (omega arith) in
        omega arith

-- a factor of each term
pub sum_scale : (n c : ℕ) (f : ℕ → ℕ) → sum n (λ i. c * f i) ≡ c * sum n f
unfolding sum
sum_scale zero c f = sym (mul-zero c)
sum_scale (suc n) c f = rw (sum_scale n c f) (sym (mul-add c (sum n f) (f n)))

-- a sum that is smaller at one place
pub sum_less : (n : ℕ) (f g : ℕ → ℕ) (k : ℕ) → k < n → ((i : ℕ) → i < n → f i ≤ g i) → f k < g k → sum n f < sum n g
unfolding sum
sum_less zero f g k l h s = absurd (not-suc-le-zero l)
sum_less (suc n) f g k l h s = go (λ l'. sum_less n f g k l' (λ i li. h i (omega arith)) s) (ℕ_discrete k n)
  where
    go : (k < n → sum n f < sum n g) → Dec (k ≡ n) → sum n f + f n < sum n g + g n
    go ih (yes e) =
        let t = sum_mono n f g (λ i li. h i (omega arith)) in
        let u : f n < g n = rw e at s in
        omega arith
    go ih (no ne) =
        let t = ih (omega arith) in
        let u = h n (omega arith) in
        omega arith

-- two functions that differ at one place
pub sum_change : (n : ℕ) (f g : ℕ → ℕ) (k : ℕ) → k < n → ((j : ℕ) → j < n → (j ≡ k → ⊥) → f j ≡ g j) → sum n f + g k ≡ sum n g + f k
unfolding sum
sum_change zero f g k l h = absurd (not-suc-le-zero l)
sum_change (suc n) f g k l h = go (λ l'. sum_change n f g k l' (λ j lj ne. h j (omega arith) ne)) (ℕ_discrete k n)
  where
    go : (k < n → sum n f + g k ≡ sum n g + f k) → Dec (k ≡ n) → sum n f + f n + g k ≡ sum n g + g n + f k
    go ih (yes e) =
        let t : sum n f ≡ sum n g = sum_ext n f g (λ j lj. h j (omega arith) (omega arith)) in
        rw (e, t) (omega arith)
    go ih (no ne) =
        let t = ih (omega arith) in
        let w : f n ≡ g n = h n (omega arith) (λ e. ne (sym e)) in
        omega arith

-- sums, tests and choices over a list
module _ {A : Type 0} where
  pub sum_of_append : (f : A → ℕ) (xs ys : List A) → sum_of f (xs ++ ys) ≡ sum_of f xs + sum_of f ys
  sum_of_append f [] ys = omega arith
  sum_of_append f (x ∷ xs) ys = let t = sum_of_append f xs ys in omega arith

  pub sum_of-drop : (f : A → ℕ) (l : List A) (i : ℕ) (d : A) → i < length l → sum_of f (drop i l) ≡ f (get_or l i d) + sum_of f (drop (i + 1) l)
  sum_of-drop f l i d h = rw (add-one, drop-cons l i d)

  pub every_at : (f : A → Bool) (l : List A) (i : ℕ) (d : A) → every f l ≡ true → i < length l → f (get_or l i d) ≡ true
  every_at f [] i d e h = absurd (not-suc-le-zero h)
  every_at f (x ∷ xs) zero d e h = and_left (f x) (every f xs) e
  every_at f (x ∷ xs) (suc i) d e h = every_at f xs i d (and_right (f x) (every f xs) e) (omega arith)

  pub every_by : (f : A → Bool) (l : List A) (d : A) → ((i : ℕ) → i < length l → f (get_or l i d) ≡ true) → every f l ≡ true
  every_by f [] d h = refl
  every_by f (x ∷ xs) d h = and_true (f x) (every f xs) (h 0 (omega arith)) (every_by f xs d (λ i l. h (suc i) (omega arith)))

  -- a test of each element of a table is one of each number
  pub every-table : (f : A → Bool) (n : ℕ) (g : ℕ → A) → every f (table n g) ≡ all n (λ k. f (g k))
  every-table f n g = go (all n (λ k. f (g k))) refl
    where
      go : (b : Bool) → all n (λ k. f (g k)) ≡ b → every f (table n g) ≡ all n (λ k. f (g k))
      go true e =
          every_by f (table n g) (g 0) (λ i l. let h : i < n = omega (arith, table-length n g) in rw (table_at n g i (g 0) h)
          (all_at n (λ k. f (g k)) i e h)) ∙ sym e
      go false e =
          false_by (every f (table n g)) (λ t. not_both (all n (λ k. f (g k)))
          (all_by n (λ k. f (g k)) (λ i h. let l : i < length (table n g) = rw (table-length n g) h in rw (table_at n g i (g 0) h) at
          (every_at f (table n g) i (g 0) t l))) e) ∙ sym e

  pub keep_append : (f : A → Bool) (xs ys : List A) → keep f (xs ++ ys) ≡ keep f xs ++ keep f ys
  keep_append f [] ys = refl
  keep_append f (x ∷ xs) ys = go (f x) refl (keep_append f xs ys)
    where
      go : (b : Bool) → f x ≡ b → keep f (xs ++ ys) ≡ keep f xs ++ keep f ys → cond (f x) (x ∷ keep f (xs ++ ys)) (keep f (xs ++ ys))
          ≡ cond (f x) (x ∷ keep f xs) (keep f xs) ++ keep f ys
      go true e ih = rw (e, ih)
      go false e ih = rw (e, ih)

-- a table's sum is the sum over its numbers
pub sum_of-table : {A : Type 0} (f : A → ℕ) (n : ℕ) (g : ℕ → A) → sum_of f (table n g) ≡ sum n (λ k. f (g k))
unfolding sum table_from
sum_of-table f zero g = refl
sum_of-table f (suc n) g =
    ap (λ (k : ℕ). sum_of f (table k g)) (sym (add-one n)) ∙ ap (sum_of f) (table_more n g) ∙ sum_of_append f (table n g) (g n ∷ [])
    ∙ rw (sum_of-table f n g) (omega arith)

pub total-sum_of : (l : List ℕ) → total l ≡ sum_of (λ x. x) l
total-sum_of [] = refl
total-sum_of (x ∷ l) = rw (total-sum_of l)

-- a sum from its first term on
sum_first : (n : ℕ) (f : ℕ → ℕ) → sum (suc n) f ≡ f 0 + sum n (λ i. f (suc i))
unfolding sum
sum_first zero f = omega arith
sum_first (suc n) f = let t = sum_first n f in omega arith

-- a list's sum is the sum over its places
pub total_at : (l : List ℕ) → total l ≡ sum (length l) (λ i. get_or l i 0)
total_at [] = sym (sum_none _)
total_at (x ∷ l) = rw (total_at l) (sym (sum_first (length l) (λ i. get_or (x ∷ l) i 0)))

-- an amount is at most the total
pub amount_le : (l : List ℕ) (i : ℕ) → get_or l i 0 ≤ total l
amount_le [] i = omega arith
amount_le (x ∷ l) zero = omega arith
amount_le (x ∷ l) (suc i) = let t = amount_le l i in omega arith

pub total-table : (n : ℕ) (f : ℕ → ℕ) → total (table n f) ≡ sum n f
total-table n f = total-sum_of (table n f) ∙ sum_of-table (λ x. x) n f

-- a running sum with a largest value: the amount that passes it, one amount more, and the end
module _ (most n p w : ℕ) (f : ℕ → ℕ) where
  pub capped_over : p < n → w ≡ sum p f → most < w + f p → most + 1 ≡ min (total (table n f)) (most + 1)
  capped_over h e over =
      let t = total-table n f in
      let s = sum_more p f in
      let l = sum_prefix n (p + 1) f (omega arith) in
      omega arith

  pub capped_more : w ≡ sum p f → w + f p ≡ sum (p + 1) f
  capped_more e = let s = sum_more p f in omega arith

  pub capped_end : p ≡ n → w ≡ sum p f → w ≤ most → w ≡ min (total (table n f)) (most + 1)
  capped_end e s l =
      let t = total-table n f in
      let q : sum p f ≡ sum n f = ap (λ (k : ℕ). sum k f) e in
      omega arith

-- a function over a table, and a table of nothing
pub map-table : {A B : Type 0} (f : A → B) (n : ℕ) (g : ℕ → A) (d : A) → map f (table n g) ≡ table n (λ k. f (g k))
map-table f n g d =
    sym (table_is n (λ k. f (g k)) (map f (table n g)) (f d) (length-map (table n g) f ∙ table-length n g)
    (λ k h. sym (get_or-map f (table n g) k d ∙ ap f (table_at n g k d h))))

pub table_none : {A : Type 0} (f : ℕ → A) → table 0 f ≡ []
unfolding table_from
table_none f = refl
