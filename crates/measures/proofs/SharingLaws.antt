-- Laws of sharing. For callers: `parts-length`, `parts-sum`, `no-part_exceeds`, `parts_of_all`; `fair` has the promises of paper 02, and
-- `one_each` and `largest-first` say in its words who gets the kWh left over.
use Prim.Native.Nat.{ℕ, zero, suc, ◌+◌, ◌*◌, ◌^◌, ◌≤◌, ◌<◌}
use mathlib.Core.Path.{◌≡◌, refl, sym, ap, ap₂, ◌∙◌}
use mathlib.Core.Bool.{Bool, true, false, cond}
use mathlib.Core.List.{List, [], ◌∷◌, ◌++◌}
use native.Mathlib.Nat.{
  lt_of_le_of_lt,
  mul-le-mul,
  mul-le-mul_right,
  mul-add,
  mul_comm,
  mul-sub,
  mul-one,
  add-zero,
  mul-zero,
  div-add-mod,
  mod-lt,
  le_of_mul-le-mul_left,
  lt_of_mul-lt-mul_left,
}
use native.Mathlib.Omega.{arith}
use native.Mathlib.Numerals.{add-one}
use native.Mathlib.Decide.{dec_lt}
use lib.ListN.{length, get_or, take, drop, drop_of_length-le}
use lib.Dec.{lit<, leb, ltb, eqb}
use lib.Seq.{drop-cons, take_at}
use borrow.Author.Tests.{lt-ltb, le-ltb, le-leb, lt-leb, eq-eqb, ne_eqb, ltb-true, ltb-false, eqb-false}
use Rattle.measures.specs.Ranges.{most_energy}
use Rattle.measures.specs.Lists.{Along, sum, one, count}
use Rattle.measures.specs.Sharing.{total, rounded, fraction, left_over, before, ahead, part, parts, Fair, refused, sharing, Is}
use Rattle.measures.specs.Inner.Cuts.{reach}
use Rattle.measures.proofs.ListLaws.{sum_scale, sum_mono, sum_add, sum_ext, total_at, total-table, table-length, table_at}
use Rattle.measures.proofs.LargestLaws.{firsts, has_cut, reach_mono, reach-all, zero_place, fewer_ahead}

-- what is left from i on is the amount at i and what is left after it
pub total-drop : (l : List ℕ) (i : ℕ) → i < length l → total (drop i l) ≡ get_or l i 0 + total (drop (i + 1) l)
total-drop l i h = rw (add-one, drop-cons l i 0)

pub total_end : (l : List ℕ) (i : ℕ) → length l ≤ i → total (drop i l) ≡ 0
total_end l i h = ap total (drop_of_length-le l h)

-- a product of two amounts fits 64 bits
pub product_fits : (a b : ℕ) → a ≤ most_energy → b ≤ most_energy → a * b < 2 ^ 64
product_fits a b ha hb = lt_of_le_of_lt (mul-le-mul ha hb) (lit< tt)

-- one part for each amount
pub parts-length : (d : ℕ) (rs : List ℕ) → length (parts d rs) ≡ length rs
unfolding parts
parts-length d rs = table-length (length rs) (part d rs)

pub part_at : (d : ℕ) (rs : List ℕ) (j : ℕ) → j < length rs → get_or (parts d rs) j 0 ≡ part d rs j
unfolding parts
part_at d rs j h = table_at (length rs) (part d rs) j 0 h

module _ (d : ℕ) (rs : List ℕ) (pos : 0 < total rs) where
  -- a share is its rounded part and its fraction
  pub share_splits : (j : ℕ) → total rs * rounded d rs j + fraction d rs j ≡ d * get_or rs j 0
  share_splits j = div-add-mod (d * get_or rs j 0) (total rs)

  pub fraction-less : (j : ℕ) → fraction d rs j < total rs
  fraction-less j = mod-lt (d * get_or rs j 0) pos

  -- and so are all of them together
  all_split : total rs * sum (length rs) (rounded d rs) + sum (length rs) (fraction d rs) ≡ total rs * d
  all_split =
      ap (λ (x : ℕ). x + sum (length rs) (fraction d rs)) (sym (sum_scale (length rs) (total rs) (rounded d rs)))
      ∙ sym (sum_add (length rs) (λ j. total rs * rounded d rs j) (fraction d rs))
      ∙ sum_ext (length rs) (λ j. total rs * rounded d rs j + fraction d rs j) (λ j. d * get_or rs j 0) (λ j h. share_splits j)
      ∙ sum_scale (length rs) d (λ j. get_or rs j 0)
      ∙ ap (λ (x : ℕ). d * x) (sym (total_at rs))
      ∙ mul_comm d (total rs)

  pub rounded-sum : sum (length rs) (rounded d rs) ≤ d
  rounded-sum = le_of_mul-le-mul_left {k = total rs} (omega (arith, all_split)) pos

  -- the fractions make up the kWh left over
  pub fractions_sum : total rs * left_over d rs ≡ sum (length rs) (fraction d rs)
  fractions_sum = mul-sub (total rs) d (sum (length rs) (rounded d rs)) ∙ omega (arith, all_split)

  fractions_few : sum (length rs) (fraction d rs) ≤ total rs * reach (fraction d rs) (length rs) 1
  unfolding reach
  fractions_few =
      rw (← sum_scale (length rs) (total rs) (λ j. one (leb 1 (fraction d rs j))))
      (sum_mono (length rs) (fraction d rs) (λ j. total rs * one (leb 1 (fraction d rs j)))
      (λ j h. at (fraction d rs j) (fraction-less j) (dec_lt 0 (fraction d rs j))))
    where
      at : (x : ℕ) → x < total rs → Dec (0 < x) → x ≤ total rs * one (leb 1 x)
      at x l (yes k) = simp (le-leb 1 x k, mul-one) (omega arith)
      at x l (no k) = simp (lt-leb 1 x (omega arith), mul-zero) (omega arith)

  -- so there are no more of them than fractions
  pub left_over_few : left_over d rs ≤ reach (fraction d rs) (length rs) 1
  left_over_few = le_of_mul-le-mul_left {k = total rs} (omega (arith, fractions_sum, fractions_few)) pos

  pub left_over-length : left_over d rs ≤ length rs
  left_over-length = omega (arith, left_over_few, reach-all (fraction d rs) (length rs), reach_mono (fraction d rs) (length rs) 0 1 (omega arith))

  -- "the kWh left over go one each": to as many places as there are kWh left over
  pub one_each : count (length rs) (λ j. ltb (ahead d rs j) (left_over d rs)) ≡ left_over d rs
  unfolding ahead
  one_each =
      let c = has_cut (fraction d rs) (length rs) (left_over d rs) (total rs) left_over-length (λ i h. fraction-less i) in
      firsts (fraction d rs) (length rs) (left_over d rs) c.at c.cut

  -- "parts still sum to d", for every d
  pub parts-sum : total (parts d rs) ≡ d
  unfolding parts part
  parts-sum =
      total-table (length rs) (part d rs)
      ∙ sum_add (length rs) (rounded d rs) (λ j. one (ltb (ahead d rs j) (left_over d rs)))
      ∙ rw one_each (omega (arith, rounded-sum))

  -- a part is the rounded one, or, where rounding took something off, one more
  part_cases : (j : ℕ) (b : Bool) → ltb (ahead d rs j) (left_over d rs) ≡ b → (part d rs j ≡ rounded d rs j + one b) × (b ≡ true → 0 < fraction d rs j)
  unfolding part ahead
  part_cases j b e = (rw e refl, λ t. some t (dec_lt 0 (fraction d rs j)))
    where
      some : b ≡ true → Dec (0 < fraction d rs j) → 0 < fraction d rs j
      some t (yes h) = h
      some t (no h) =
          let z = zero_place (fraction d rs) (length rs) (left_over d rs) j left_over_few (omega arith) in
          let l = ltb-true (ahead d rs j) (left_over d rs) (e ∙ t) in
          absurd (omega arith)

  -- "to the largest fractions, equal fractions by lowest place": where place j gets one, each place before it does
  pub largest-first : (i j : ℕ) → before (fraction d rs) i j ≡ true → part d rs j ≡ rounded d rs j + 1 → part d rs i ≡ rounded d rs i + 1
  unfolding part ahead
  largest-first i j p e =
      let l = fewer_ahead (fraction d rs) (length rs) i j p in
      go (ltb (ahead d rs j) (left_over d rs)) refl l
    where
      go : (b : Bool) → ltb (ahead d rs j) (left_over d rs) ≡ b → ahead d rs i ≤ ahead d rs j → part d rs i ≡ rounded d rs i + 1
      go true h l =
          let k = ltb-true (ahead d rs j) (left_over d rs) h in
          simp (lt-ltb (ahead d rs i) (left_over d rs) (omega arith))
      go false h l = absurd (omega (arith, rw h at e))

  -- "each lies within 1 kWh of the exact share", d times rj over R: R times the part is less than R from d times rj
  pub below_one : (j : ℕ) → d * get_or rs j 0 < total rs * part d rs j + total rs
  below_one j = go (ltb (ahead d rs j) (left_over d rs)) refl
    where
      go : (b : Bool) → ltb (ahead d rs j) (left_over d rs) ≡ b → d * get_or rs j 0 < total rs * part d rs j + total rs
      go b e =
          rw ((part_cases j b e).0, mul-add (total rs) (rounded d rs j) (one b))
          (omega (arith, share_splits j, fraction-less j))

  pub above-one : (j : ℕ) → total rs * part d rs j < d * get_or rs j 0 + total rs
  above-one j = go (ltb (ahead d rs j) (left_over d rs)) refl
    where
      go : (b : Bool) → ltb (ahead d rs j) (left_over d rs) ≡ b → total rs * part d rs j < d * get_or rs j 0 + total rs
      go true e =
          rw ((part_cases j true e).0, mul-add (total rs) (rounded d rs j) 1, mul-one)
          (omega (arith, share_splits j, (part_cases j true e).1 refl))
      go false e =
          rw ((part_cases j false e).0, add-zero)
          (omega (arith, share_splits j))

  -- "none exceeds its rj where d ≤ R"
  pub part_within : (j : ℕ) → d ≤ total rs → part d rs j ≤ get_or rs j 0
  part_within j h =
      let m : d * get_or rs j 0 ≤ total rs * get_or rs j 0 = mul-le-mul_right (get_or rs j 0) h in
      let l : total rs * part d rs j < total rs * (get_or rs j 0 + 1) = rw (mul-add, mul-one) (omega (arith, above-one j)) in
      let s = lt_of_mul-lt-mul_left (total rs) l in
      omega arith

  -- a place with no amount gets nothing
  pub part_of_nothing : (j : ℕ) → get_or rs j 0 ≡ 0 → part d rs j ≡ 0
  part_of_nothing j e =
      let l : total rs * part d rs j < total rs * 1 = rw mul-one (omega (arith, rw (e, mul-zero) at (above-one j))) in
      let s = lt_of_mul-lt-mul_left (total rs) l in
      omega arith

-- the promises of paper 02
pub fair : (d : ℕ) (rs : List ℕ) → 0 < total rs → Fair d rs
fair d rs pos = record {
  sum = parts-sum d rs pos;
  within = λ j h le. rw (part_at d rs j h) (part_within d rs pos j le);
  not_below = λ j h. rw (part_at d rs j h) (below_one d rs pos j);
  not_above = λ j h. rw (part_at d rs j h) (above-one d rs pos j);
}

-- each part of a list is at most the amount beside it
abbrev pub Within : List ℕ → List ℕ → Type 0
Within ps rs = Along (λ p r. p ≤ r) ps rs

pub within_by : (ps rs : List ℕ) → length ps ≡ length rs → ((j : ℕ) → j < length rs → get_or ps j 0 ≤ get_or rs j 0) → Within ps rs
within_by [] [] e h = tt
within_by [] (r ∷ rs) e h = absurd (omega arith)
within_by (p ∷ ps) [] e h = absurd (omega arith)
within_by (p ∷ ps) (r ∷ rs) e h = (h 0 (omega arith), within_by ps rs (omega arith) (λ j l. h (suc j) (omega arith)))

-- "none exceeds its rj"
pub no-part_exceeds : (d : ℕ) (rs : List ℕ) → 0 < d → d ≤ total rs → Within (parts d rs) rs
no-part_exceeds d rs some le =
    within_by (parts d rs) rs (parts-length d rs) (λ j h. rw (part_at d rs j h) (part_within d rs (omega arith) j le))

pub within_at : (ps rs : List ℕ) (i : ℕ) → Within ps rs → get_or ps i 0 ≤ get_or rs i 0
within_at [] [] i w = omega arith
within_at [] (r ∷ rs) i w = absurd w
within_at (p ∷ ps) [] i w = absurd w
within_at (p ∷ ps) (r ∷ rs) zero w = w.0
within_at (p ∷ ps) (r ∷ rs) (suc i) w = within_at ps rs i w.1

-- parts within the amounts sum to no more than they do
pub within_total : (ps rs : List ℕ) → Within ps rs → total ps ≤ total rs
within_total [] [] w = omega arith
within_total [] (r ∷ rs) w = absurd w
within_total (p ∷ ps) [] w = absurd w
within_total (p ∷ ps) (r ∷ rs) w = let h = within_total ps rs w.1 in omega arith

-- and to as much only where each part is its amount
pub within_all : (ps rs : List ℕ) → Within ps rs → total ps ≡ total rs → ps ≡ rs
within_all [] [] w e = refl
within_all [] (r ∷ rs) w e = absurd w
within_all (p ∷ ps) [] w e = absurd w
within_all (p ∷ ps) (r ∷ rs) w e =
    let h = within_total ps rs w.1 in
    let q : p ≡ r = omega arith in
    let t : total ps ≡ total rs = omega arith in
    ap₂ (λ (x : ℕ) (xs : List ℕ). x ∷ xs) q (within_all ps rs w.1 t)

-- all of it, shared, is each amount: by the two laws alone
pub parts_of_all : (rs : List ℕ) → 0 < total rs → parts (total rs) rs ≡ rs
parts_of_all rs pos = within_all (parts (total rs) rs) rs (no-part_exceeds (total rs) rs pos (omega arith)) (parts-sum (total rs) rs pos)

-- sharing by cases
module _ (d : ℕ) (rs m : List ℕ) where
  pub is_short : length m < length rs → Is (sharing d rs m) 7 m
  unfolding sharing
  is_short short = simp (lt-ltb _ _ short) (record { answer = refl; memory = refl })

  pub is_nothing : length rs ≤ length m → d ≡ 0 → Is (sharing d rs m) 9 m
  unfolding sharing
  is_nothing room none = simp (le-ltb _ _ room, eq-eqb _ _ none) (record { answer = refl; memory = refl })

  pub is_large : length rs ≤ length m → 0 < d → most_energy < total rs → Is (sharing d rs m) 9 m
  unfolding sharing
  is_large room some large = simp (le-ltb _ _ room, ne_eqb d 0 (omega arith), lt-ltb _ _ large) (record { answer = refl; memory = refl })

  pub is_over : length rs ≤ length m → 0 < d → total rs ≤ most_energy → total rs < d → Is (sharing d rs m) 9 m
  unfolding sharing
  is_over room some small over = simp (le-ltb _ _ room, ne_eqb d 0 (omega arith), le-ltb _ _ small, lt-ltb _ _ over)
      (record { answer = refl; memory = refl })

  pub is_shared : length rs ≤ length m → 0 < d → total rs ≤ most_energy → d ≤ total rs → {m' : List ℕ} → m' ≡ parts d rs ++ drop (length rs) m
      → Is (sharing d rs m) 0 m'
  unfolding sharing
  is_shared room some small within e = simp (le-ltb _ _ room, ne_eqb d 0 (omega arith), le-ltb _ _ small, le-ltb _ _ within)
      (record { answer = refl; memory = e })

-- what an answer of 0 tells
pub record Accepted (d : ℕ) (rs m : List ℕ) : Type 0 where
  pub room : length rs ≤ length m
  pub some : 0 < d
  pub small : total rs ≤ most_energy
  pub within : d ≤ total rs

pub accepted : (d : ℕ) (rs m : List ℕ) → 0 ≡ (sharing d rs m).answer → Accepted d rs m
unfolding sharing
accepted d rs m e = go (ltb (length m) (length rs)) (eqb d 0) (ltb most_energy (total rs)) (ltb (total rs) d) refl refl refl refl e
  where
    go : (p q s t : Bool) → ltb (length m) (length rs) ≡ p → eqb d 0 ≡ q → ltb most_energy (total rs) ≡ s → ltb (total rs) d ≡ t → 0
        ≡ (cond p (refused 7 m) (cond q (refused 9 m) (cond s (refused 9 m)
        (cond t (refused 9 m) (record { answer = 0; memory = parts d rs ++ drop (length rs) m }))))).answer → Accepted d rs m
    go true q s t hp hq hs ht e = absurd (omega arith)
    go false true s t hp hq hs ht e = absurd (omega arith)
    go false false true t hp hq hs ht e = absurd (omega arith)
    go false false false true hp hq hs ht e = absurd (omega arith)
    go false false false false hp hq hs ht e =
        let n = eqb-false d 0 hq in
        record { room = ltb-false _ _ hp; some = omega arith; small = ltb-false _ _ hs; within = ltb-false _ _ ht }

-- the parts that an accepted sharing leaves sum to d
pub shared-sum : (d : ℕ) (rs m m' : List ℕ) → Is (sharing d rs m) 0 m' → total (take (length rs) m') ≡ d
shared-sum d rs m m' i =
    let a = accepted d rs m i.answer in
    let s = is_shared d rs m a.room a.some a.small a.within refl in
    rw (i.memory, ← s.memory, take_at (parts d rs) (drop (length rs) m) (length rs) (parts-length d rs)) (parts-sum d rs (omega arith))
