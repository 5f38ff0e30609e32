-- What a turn of each loop of the sharing keeps, and the parts that its steps make together.
use mathlib.Core.Bool.{Bool, true, false}
use Prim.Native.Nat.{ℕ, zero-le, ◌+◌, ◌-◌, ◌*◌, ◌/◌, ◌%◌, ◌≤◌, ◌<◌}
use mathlib.Core.Path.{◌≡◌, refl, sym, ap, ◌∙◌}
use mathlib.Core.List.{List, ◌++◌}
use native.Mathlib.Nat.{mul-le-mul_left, mul_comm, div-le_of_le-mul, mod-lt}
use native.Mathlib.Omega.{arith}
use native.Mathlib.Decide.{ℕ_discrete, dec_lt}
use lib.ListN.{length, get_or, drop, take, set, length-set, length-append, length-drop, get_or-append}
use lib.Dec.{leb, ltb, eqb}
use mir.Val.{bool_byte}
use lib.Seq.{ext_get_or, get_or-set_same, get_or-set_other, get_or-drop, get_or-append-add}
use borrow.Rule.Slice.PartMut.{put_mid}
use Rattle.std.proofs.Common.{rules}
use Rattle.std.proofs.lemmas.List.{places}
use Rattle.measures.specs.Ranges.{most_energy}
use Rattle.measures.specs.Lists.{sum, one, count}
use Rattle.measures.specs.Sharing.{total, rounded, fraction, before, ahead, part, parts}
use Rattle.measures.specs.Inner.Cuts.{Shareable, half, packed, rest, reach, ties, Edged, Written, Divided, settled}
use Rattle.measures.proofs.ListLaws.{sum_none, sum_more, sum_ext, sum_prefix, amount_le}
use Rattle.measures.proofs.LargestLaws.{reach_past, chosen_early, chosen_late}
use Rattle.measures.proofs.SharingLaws.{rounded-sum, fraction-less, left_over-length, parts-length, part_at}

-- a loop that writes f place by place: nothing is written yet, one place more, and a list in its places
pub written_none : (i : ℕ) (f : ℕ → ℕ) (m : List ℕ) → Written i i f m m
written_none i f m = record { before = λ j h. refl; each = λ j h l. absurd (omega arith); past = λ j h. refl }

pub written-more : (i e : ℕ) (f : ℕ → ℕ) (m m' : List ℕ) (v : ℕ) → i ≤ e → e < length m' → Written i e f m m' → v ≡ f e
    → Written i (e + 1) f m (set m' e v)
written-more i e f m m' v o l w q = record {
  before = λ j h. get_or-set_other m' e j v 0 (omega arith) ∙ w.before j h;
  each = λ j h k. at j h k (ℕ_discrete j e);
  past = λ j h. get_or-set_other m' e j v 0 (omega arith) ∙ w.past j (omega arith);
}
  where
    at : (j : ℕ) → i ≤ j → j < e + 1 → Dec (j ≡ e) → get_or (set m' e v) j 0 ≡ f j
    at j h k (yes r) = rw r (get_or-set_same m' e v 0 l ∙ q)
    at j h k (no r) = get_or-set_other m' e j v 0 r ∙ w.each j h (omega arith)

pub written_is : (l m m' : List ℕ) → length l ≤ length m → length m' ≡ length m → Written 0 (length l) (λ j. get_or l j 0) m m'
    → m' ≡ l ++ drop (length l) m
written_is l m m' room same w = ext_get_or 0 m' (l ++ drop (length l) m) long (λ j h. at j (dec_lt j (length l)))
  where
    long : length m' ≡ length (l ++ drop (length l) m)
    long = simp (length-append, length-drop) (omega arith)

    at : (j : ℕ) → Dec (j < length l) → get_or m' j 0 ≡ get_or (l ++ drop (length l) m) j 0
    at j (yes h) = w.each j zero-le h ∙ sym (get_or-append l (drop (length l) m) 0 j h)
    at j (no h) =
        let e : j ≡ length l + (j - length l) = omega arith in
        w.past j (omega arith)
        ∙ sym (ap (λ (k : ℕ). get_or (l ++ drop (length l) m) k 0) e ∙ get_or-append-add l (drop (length l) m) (j - length l) 0
        ∙ get_or-drop (length l) m (j - length l) 0 ∙ ap (λ (k : ℕ). get_or m k 0) (sym e))

-- a rounded part is at most d
rounded_le : (d : ℕ) (rs : List ℕ) (i : ℕ) → i < length rs → rounded d rs i ≤ d
rounded_le d rs i h =
    let l : d * get_or rs i 0 ≤ total rs * d = rw (mul_comm (total rs) d) (mul-le-mul_left d (amount_le rs i)) in
    div-le_of_le-mul (total rs) l

-- `divide`
pub record Dividing (d : ℕ) (rs m₀ m : List ℕ) (left i : ℕ) : Type 0 where
  pub at : i ≤ length rs
  pub long : length m ≡ length m₀
  pub written : Written 0 i (packed d rs) m₀ m
  pub still : left ≡ d - sum i (rounded d rs)

pub dividing_start : (d : ℕ) (rs m : List ℕ) → Dividing d rs m m d 0
dividing_start d rs m = record {
  at = zero-le;
  long = refl;
  written = written_none 0 (packed d rs) m;
  still = rw (sum_none (rounded d rs)) (omega arith);
}

module _ (d R : ℕ) (rs m₀ m : List ℕ) (left i : ℕ) (s : Shareable d R rs m₀) (v : Dividing d rs m₀ m left i) (h : i < length rs) where
  pub quotient_small : d * get_or rs i 0 / R ≤ most_energy
  quotient_small = rw s.sum (omega (arith, s.few, rounded_le d rs i h))

  pub fraction-small : d * get_or rs i 0 % R < most_energy
  fraction-small = omega (arith, s.small, mod-lt (d * get_or rs i 0) s.some)

  pub quotient_left : d * get_or rs i 0 / R ≤ left
  quotient_left =
      let pos : 0 < total rs = omega (arith, s.sum, s.some) in
      rw s.sum
      (omega (arith, v.still, sum_more i (rounded d rs), sum_prefix (length rs) (i + 1) (rounded d rs) (omega arith), rounded-sum d rs pos))

  pub dividing_again : Dividing d rs m₀ (set m i (d * get_or rs i 0 / R * half + d * get_or rs i 0 % R)) (left - d * get_or rs i 0 / R) (i + 1)
  dividing_again = record {
    at = omega arith;
    long = simp length-set v.long;
    written =
        written-more 0 i (packed d rs) m₀ m (d * get_or rs i 0 / R * half + d * get_or rs i 0 % R) zero-le (omega (arith, v.long, s.room)) v.written
        (rw s.sum refl);
    still = rw s.sum (omega (arith, v.still, sum_more i (rounded d rs)));
  }

pub dividing_end : (d : ℕ) (rs m₀ m : List ℕ) (left i : ℕ) → Dividing d rs m₀ m left i → length rs ≤ i → Divided d rs m₀ m left
dividing_end d rs m₀ m left i v h =
    let e : i ≡ length rs = omega (arith, v.at) in
    record { written = rw e at v.written; left = rw e at v.still }

-- whether, as a number
pub byte_one : (b : Bool) → bool_byte b ≡ one b
byte_one true = refl
byte_one false = refl

-- `settle`: one place more
pub settled-more : (i e x : ℕ) (m m' : List ℕ) (v : ℕ) → i ≤ e → e < length m' → Written i e (settled x m) m m' → v ≡ settled x m' e
    → Written i (e + 1) (settled x m) m (set m' e v)
settled-more i e x m m' v o l w q =
    written-more i e (settled x m) m m' v o l w (q ∙ ap (λ (a : ℕ). a / half + one (leb x (a % half))) (w.past e (omega arith)))

-- a run written in its place
pub placed : (a k e : ℕ) (f : ℕ → ℕ) (m p : List ℕ) → e ≡ a + k → e ≤ length m → length p ≡ k → ((j : ℕ) → j < k → get_or p j 0 ≡ f (a + j))
    → Written a e f m (put_mid a k m p)
placed a k e f m p o r l h = record {
  before = λ j i. search (rules, places);
  each = λ j i u.
      let q : j ≡ a + (j - a) = omega arith in
      let z : get_or (put_mid a k m p) (a + (j - a)) 0 ≡ get_or p (j - a) 0 = search (rules, places) in
      ap (λ (i : ℕ). get_or (put_mid a k m p) i 0) q ∙ z ∙ h (j - a) (omega arith) ∙ ap f (sym q);
  past = λ j i. search (rules, places);
}

-- the first n numbers of a list as a list of their own
module _ (m : List ℕ) (n : ℕ) (h : n ≤ length m) where
  pub front-length : length (take n m) ≡ n
  front-length = search (rules, places)

  front_rest : (i : ℕ) → i < n → rest (take n m) i ≡ rest m i
  front_rest i l =
      let z : get_or (take n m) i 0 ≡ get_or m i 0 = search (rules, places) in
      ap (λ (x : ℕ). x % half) z

  pub front_reach : (x : ℕ) → reach (rest (take n m)) (length (take n m)) x ≡ reach (rest m) n x
  unfolding reach
  front_reach x =
      rw front-length (sum_ext n (λ i. one (leb x (rest (take n m) i))) (λ i. one (leb x (rest m i))) (λ i l. ap (λ (y : ℕ). one (leb x y)) (front_rest i l)))

  pub front_ties : (e x : ℕ) → e ≤ n → ties (rest (take n m)) e x ≡ ties (rest m) e x
  unfolding ties
  front_ties e x l =
      sum_ext e (λ i. one (eqb (rest (take n m) i) x)) (λ i. one (eqb (rest m i) x))
      (λ i k. ap (λ (y : ℕ). one (eqb y x)) (front_rest i (omega arith)))

  pub front_edged : (k t above : ℕ) → Edged (rest (take n m)) (length (take n m)) k t above → Edged (rest m) n k t above
  front_edged k t above u = record {
    cut = record {
      above = rw (front_reach (t + 1)) at u.cut.above;
      from = rw (front_reach t) at u.cut.from;
    };
    count = rw (front_reach (t + 1)) at u.count;
  }

-- `write_parts`
module _ (d R k : ℕ) (rs m₀ m : List ℕ) (s : Shareable d R rs m₀) (v : Divided d rs m₀ m k) where
  some : 0 < total rs
  some = omega (arith, s.sum, s.some)

  packed-small : (j : ℕ) → fraction d rs j < half
  packed-small j = omega (arith, s.sum, s.small, fraction-less d rs some j)

  divided_rest : (j : ℕ) → j < length rs → rest m j ≡ fraction d rs j
  divided_rest j h = ap (λ (x : ℕ). x % half) (v.written.each j zero-le h) ∙ omega (arith, packed-small j)

  divided_rounded : (j : ℕ) → j < length rs → get_or m j 0 / half ≡ rounded d rs j
  divided_rounded j h = ap (λ (x : ℕ). x / half) (v.written.each j zero-le h) ∙ omega (arith, packed-small j)

  pub divided_past : reach (rest m) (length rs) R ≡ 0
  divided_past = reach_past (rest m) (length rs) R (λ i h. rw (divided_rest i h, s.sum) (fraction-less d rs some i))

  pub divided_few : k ≤ length rs
  divided_few = omega (arith, v.left, left_over-length d rs some)

  pub divided_small : k ≤ most_energy
  divided_small = omega (arith, v.left, s.few)

  -- a part is the rounded one and what the order of the fractions gives
  part_is : (j x : ℕ) → j < length rs → one (ltb (count (length rs) (λ i. before (rest m) i j)) k) ≡ x → get_or m j 0 / half + x ≡ part d rs j
  unfolding part ahead
  part_is j x h e =
      rw (
        ← e,
        divided_rounded j h,
        v.left,
        sum_ext (length rs) (λ i. one (before (rest m) i j)) (λ i. one (before (fraction d rs) i j))
            (λ i l. rw (divided_rest i l, divided_rest j h) refl),
      ) refl

  -- the two steps at the place behind the ties that are chosen
  module _ (t above e : ℕ) (m₁ m₂ : List ℕ) (u : Edged (rest m) (length rs) k t above) (inside : e ≤ length rs)
      (chosen : ties (rest m) e t ≡ k - above) (x : Written 0 e (settled t m) m m₁) (y : Written e (length rs) (settled (t + 1) m₁) m₁ m₂) where
    count-chosen : ties (rest m) e t ≡ k - reach (rest m) (length rs) (t + 1)
    count-chosen = omega (arith, chosen, u.count)

    settled-part : (j : ℕ) → j < length rs → Dec (j < e) → get_or m₂ j 0 ≡ part d rs j
    settled-part j h (yes l) =
        y.before j l ∙ x.each j zero-le l
        ∙ part_is j (one (leb t (rest m j))) h (chosen_early (rest m) (length rs) k t e u.cut count-chosen j h l)
    settled-part j h (no l) =
        y.each j (omega arith) h ∙ ap (λ (a : ℕ). a / half + one (leb (t + 1) (a % half))) (x.past j (omega arith))
        ∙ part_is j (one (leb (t + 1) (rest m j))) h (chosen_late (rest m) (length rs) k t e u.cut count-chosen j h (omega arith))

    pub settled-parts : length m₂ ≡ length m₀ → m₂ ≡ parts d rs ++ drop (length rs) m₀
    settled-parts same =
        let w : Written 0 (length rs) (λ j. get_or (parts d rs) j 0) m₀ m₂ = record {
          before = λ j h. absurd (omega arith);
          each = λ j o h. settled-part j h (dec_lt j e) ∙ sym (part_at d rs j h);
          past = λ j h. y.past j h ∙ x.past j (omega arith) ∙ v.written.past j h;
        } in
        let q = parts-length d rs in
        let z : Written 0 (length (parts d rs)) (λ j. get_or (parts d rs) j 0) m₀ m₂ = rw q w in
        written_is (parts d rs) m₀ m₂ (omega (arith, s.room)) same z ∙ ap (λ (n : ℕ). parts d rs ++ drop n m₀) q

  module _ (same : length m ≡ length m₀) where
    -- the same from the two runs that the steps leave, each in its place
    pub settled_in_place : (t above e : ℕ) (p q : List ℕ) → Edged (rest (take (length rs) m)) (length (take (length rs) m)) k t above
        → e ≤ length (take (length rs) m) → ties (rest (take (length rs) m)) e t ≡ k - above
        → length p ≡ length (take e m) → Written 0 (length (take e m)) (settled t (take e m)) (take e m) p
        → length q ≡ length (take (length rs - e) (drop e (p ++ drop e m)))
        → Written 0 (length (take (length rs - e) (drop e (p ++ drop e m)))) (settled (t + 1) (take (length rs - e) (drop e (p ++ drop e m))))
        (take (length rs - e) (drop e (p ++ drop e m))) q
        → put_mid e (length rs - e) (p ++ drop e m) q ≡ parts d rs ++ drop (length rs) m₀
    settled_in_place t above e p q u o f lp x lq y =
        let room : length rs ≤ length m = omega (arith, same, s.room) in
        let inside : e ≤ length rs = omega (arith, front-length m (length rs) room) in
        let lp' : length p ≡ e = lp ∙ front-length m e (omega arith) in
        let m₁ = p ++ drop e m in
        let l₁ : length m₁ ≡ length m = search (rules, places) in
        let lq' : length q ≡ length rs - e = lq ∙ front-length (drop e m₁) (length rs - e) (omega (arith, length-drop e m₁)) in
        let chosen = sym (front_ties m (length rs) room e t inside) ∙ f in
        let x' : Written 0 e (settled t m) m m₁ =
        placed 0 e e (settled t m) m p (omega arith) (omega arith) lp'
        (λ j h.
        let z : get_or (take e m) j 0 ≡ get_or m (0 + j) 0 = search (rules, places) in
        x.each j zero-le (omega arith) ∙ ap (λ (a : ℕ). a / half + one (leb t (a % half))) z) in
        let y' : Written e (length rs) (settled (t + 1) m₁) m₁ (put_mid e (length rs - e) m₁ q) =
        placed e (length rs - e) (length rs) (settled (t + 1) m₁) m₁ q (omega arith) (omega arith) lq'
        (λ j h.
        let z : get_or (take (length rs - e) (drop e m₁)) j 0 ≡ get_or m₁ (e + j) 0 = search (rules, places) in
        y.each j zero-le (omega arith) ∙ ap (λ (a : ℕ). a / half + one (leb (t + 1) (a % half))) z) in
        settled-parts t above e m₁ (put_mid e (length rs - e) m₁ q) (front_edged m (length rs) room k t above u) inside chosen x' y'
        (search (rules, places))
