-- Laws of the fills of one side: the places that are picked, and the shares at the margin.
use Prim.Native.Nat.{ℕ, suc, ◌+◌, ◌-◌, ◌<◌, ◌≤◌}
use mathlib.Core.Path.{◌≡◌, refl, sym, ap, ap₂, ◌∙◌}
use mathlib.Core.Bool.{Bool, true, false, cond}
use mathlib.Core.List.{List, [], ◌∷◌, ◌++◌, map, append_assoc, append-nil}
use native.Mathlib.Omega.{arith}
use native.Mathlib.Numerals.{add-one}
use lib.Dec.{ltb}
use borrow.Author.Tests.{ne_eqb, ltb-true}
use borrow.Rule.Slice.PartMut.{post_of, put_mid}
use lib.ListN.{length, get_or, take, drop, set, length-append, length-set, length-drop, drop_of_length-le}
use lib.Seq.{drop-cons, take-suc-set, length-take-le, take_at, drop_at, take-add}
use Rattle.std.specs.Prelude.{sum}
use Rattle.std.specs.List.{fold}
use Rattle.measures.specs.Lists.{every, keep}
use Rattle.measures.specs.Ranges.{most_energy}
use Rattle.measures.specs.Sharing.{total, parts, sharing, Is}
use Rattle.measures.proofs.ListLaws.{cond-true, cond-false, and_left, and_right, and_true, both_ways}
use Rattle.measures.proofs.SharingLaws.{parts-length, parts-sum, is_shared}
use Rattle.matching.specs.Orders.{Order, quantities}
use Rattle.matching.specs.Memory.{order_at}
use Rattle.matching.specs.Clearing.{Fill, filled, fills_of}
use Rattle.matching.specs.declared.orders.Direction.{Direction}
use Rattle.matching.specs.declared.orders.Direction.TheVariants.{Sell, Buy}
use Rattle.matching.specs.declared.fills.Which.{Which}
use Rattle.matching.specs.declared.fills.Which.TheVariants.{Better, Margin}
use Rattle.matching.specs.Inner.Places.{orders_at, chosen, picked, open_at, Picked, AtMargin, Stand, fills_at, Filling}
use Rattle.matching.proofs.Laws.Laying.LayingLaws.{map_join, length_mapped}
use Rattle.matching.proofs.Laws.Lists.RemainLaws.{every_append}

-- picking: those picked, and those still to be picked
pub record Picking (m : List ℕ) (which : Which) (margin : ℕ) (ps : List ℕ) (to₀ am₀ : List ℕ) (first : ℕ) (to am : List ℕ) (r i : ℕ) : Type 0 where
  pub long_to : length to ≡ length to₀
  pub long_am : length am ≡ length am₀
  pub room : r + length (picked m which margin (drop i ps)) ≡ first + length (picked m which margin ps)
  pub places : take r to ++ picked m which margin (drop i ps) ≡ take first to₀ ++ picked m which margin ps
  pub amounts : take r am ++ open_at m (picked m which margin (drop i ps)) ≡ take first am₀ ++ open_at m (picked m which margin ps)

module _ (m : List ℕ) (which : Which) (margin : ℕ) (ps : List ℕ) (to₀ am₀ : List ℕ) (first : ℕ) (to am : List ℕ) (r i : ℕ)
    (h : i < length ps) (o : Order) (eo : o ≡ order_at m (get_or ps i 0)) (g : Picking m which margin ps to₀ am₀ first to am r i) where
  abbrev later : List ℕ
  later = picked m which margin (drop (i + 1) ps)

  next : picked m which margin (drop i ps) ≡ cond (chosen which margin o) (get_or ps i 0 ∷ later) later
  unfolding picked
  next =
      rw (add-one i)
      (ap (keep (λ p. chosen which margin (order_at m p))) (drop-cons ps i 0 h)
      ∙ ap (λ (x : Order). cond (chosen which margin x) (get_or ps i 0 ∷ keep (λ q. chosen which margin (order_at m q)) (drop (suc i) ps))
      (keep (λ q. chosen which margin (order_at m q)) (drop (suc i) ps))) (sym eo))

  pub picking_skip : chosen which margin o ≡ false → Picking m which margin ps to₀ am₀ first to am r (i + 1)
  picking_skip e =
      let n : picked m which margin (drop i ps) ≡ later = next ∙ cond-false _ _ _ e refl in
      record {
        long_to = g.long_to;
        long_am = g.long_am;
        room = rw n at g.room;
        places = rw n at g.places;
        amounts = rw n at g.amounts;
      }

  module _ (e : chosen which margin o ≡ true) where
    taken : picked m which margin (drop i ps) ≡ get_or ps i 0 ∷ later
    taken = next ∙ cond-true _ _ _ e refl

    pub picking_room : r < first + length (picked m which margin ps)
    picking_room = let s = ap length taken in let t = g.room in omega arith

    pub picking_put : (p q : ℕ) → p ≡ get_or ps i 0 → q ≡ o.quantity → r < length to → r < length am
        → Picking m which margin ps to₀ am₀ first (set to r p) (set am r q) (r + 1) (i + 1)
    picking_put p q ep eq lt la =
        let s = ap length taken in
        let t = g.room in
        let x : p ∷ later ≡ picked m which margin (drop i ps) = ap (λ (y : ℕ). y ∷ later) ep ∙ sym taken in
        let y : q ∷ open_at m later ≡ open_at m (picked m which margin (drop i ps)) =
        ap (λ (z : ℕ). z ∷ open_at m later) (eq ∙ ap (λ (z : Order). z.quantity) eo) ∙ ap (open_at m) (sym taken) in
        record {
          long_to = length-set to r p ∙ g.long_to;
          long_am = length-set am r q ∙ g.long_am;
          room = omega arith;
          places = rw (add-one r, take-suc-set to r p lt) (append_assoc (take r to) (p ∷ []) later ∙ ap (λ (l : List ℕ). take r to ++ l) x ∙ g.places);
          amounts = rw (add-one r, take-suc-set am r q la) (append_assoc (take r am) (q ∷ []) (open_at m later) ∙ ap (λ (l : List ℕ). take r am ++ l) y
              ∙ g.amounts);
        }

pub picking_end : (m : List ℕ) (which : Which) (margin : ℕ) (ps : List ℕ) (to₀ am₀ : List ℕ) (first : ℕ) (to am : List ℕ) (r i : ℕ) → length ps ≤ i
    → Picking m which margin ps to₀ am₀ first to am r i
    → Picked m (picked m which margin ps) to₀ am₀ first r to am
unfolding picked
picking_end m which margin ps to₀ am₀ first to am r i h g =
    let d : drop i ps ≡ [] = drop_of_length-le ps {i = i} h in
    let room : r + 0 ≡ first + length (picked m which margin ps) = rw d at g.room in
    record {
      count = omega arith;
      places = sym (append-nil (take r to)) ∙ rw d at g.places;
      amounts = sym (append-nil (take r am)) ∙ rw d at g.amounts;
    }

-- the library's sum is the total
fold_total : (a : ℕ) (xs : List ℕ) → fold ◌+◌ a xs ≡ a + total xs
fold_total a [] = omega arith
fold_total a (x ∷ xs) = let h = fold_total (a + x) xs in omega arith

pub sum_total : (xs : List ℕ) → sum xs ≡ total xs
sum_total xs = let h = fold_total 0 xs in omega arith

-- what is kept is no more, and two tests that exclude each other keep no more together
module _ {A : Type 0} where
  keep_few : (f : A → Bool) (l : List A) → length (keep f l) ≤ length l
  keep_few f [] = omega arith
  keep_few f (x ∷ l) = go (f x) (keep_few f l)
    where
      go : (b : Bool) → length (keep f l) ≤ length l → length (cond b (x ∷ keep f l) (keep f l)) ≤ suc (length l)
      go true h = omega arith
      go false h = omega arith

  pub keep_apart : (f g : A → Bool) (l : List A) → ((x : A) → f x ≡ true → g x ≡ false) → length (keep f l) + length (keep g l) ≤ length l
  keep_apart f g [] n = omega arith
  keep_apart f g (x ∷ l) n = go (f x) (g x) (n x) (keep_apart f g l n)
    where
      go : (a b : Bool) → (a ≡ true → b ≡ false) → length (keep f l) + length (keep g l) ≤ length l
          → length (cond a (x ∷ keep f l) (keep f l)) + length (cond b (x ∷ keep g l) (keep g l)) ≤ suc (length l)
      go true true h ih = both_ways (h refl)
      go true false h ih = omega arith
      go false true h ih = omega arith
      go false false h ih = omega arith

  keep-every : (p f : A → Bool) (l : List A) → every p l ≡ true → every p (keep f l) ≡ true
  keep-every p f [] e = refl
  keep-every p f (x ∷ l) e = go (f x) (keep-every p f l (and_right (p x) (every p l) e))
    where
      go : (b : Bool) → every p (keep f l) ≡ true → every p (cond b (x ∷ keep f l) (keep f l)) ≡ true
      go true h = and_true (p x) (every p (keep f l)) (and_left (p x) (every p l) e) h
      go false h = h

-- the orders picked, and what they have open
picked_orders : (m : List ℕ) (which : Which) (margin : ℕ) (ps : List ℕ) → orders_at m (picked m which margin ps) ≡ keep (chosen which margin) (orders_at m ps)
unfolding picked
picked_orders m which margin [] = refl
picked_orders m which margin (p ∷ ps) = go (chosen which margin (order_at m p)) (picked_orders m which margin ps)
  where
    go : (b : Bool) → orders_at m (keep (λ q. chosen which margin (order_at m q)) ps) ≡ keep (chosen which margin) (orders_at m ps)
        → orders_at m (cond b (p ∷ keep (λ q. chosen which margin (order_at m q)) ps) (keep (λ q. chosen which margin (order_at m q)) ps))
        ≡ cond b (order_at m p ∷ keep (chosen which margin) (orders_at m ps)) (keep (chosen which margin) (orders_at m ps))
    go true h = ap (λ (l : List Order). order_at m p ∷ l) h
    go false h = h

open_orders_lem : (m ps : List ℕ) → open_at m ps ≡ map (λ o. o.quantity) (orders_at m ps)
open_orders_lem m [] = refl
open_orders_lem m (p ∷ ps) = ap (λ (l : List ℕ). (order_at m p).quantity ∷ l) (open_orders_lem m ps)

open_total : (m ps : List ℕ) → total (open_at m ps) ≡ quantities (orders_at m ps)
open_total m [] = refl
open_total m (p ∷ ps) = ap (λ (x : ℕ). (order_at m p).quantity + x) (open_total m ps)

total_join : (xs ys : List ℕ) → total (xs ++ ys) ≡ total xs + total ys
total_join [] ys = omega arith
total_join (x ∷ xs) ys = let h = total_join xs ys in omega arith

filled_join : (os ps : List Order) (xs ys : List ℕ) → length os ≡ length xs → filled (os ++ ps) (xs ++ ys) ≡ filled os xs ++ filled ps ys
unfolding filled
filled_join [] ps [] ys e = refl
filled_join [] ps (x ∷ xs) ys e = absurd (omega arith)
filled_join (o ∷ os) ps [] ys e = absurd (omega arith)
filled_join (o ∷ os) ps (x ∷ xs) ys e = ap (λ (l : List Fill). record { order = o; amount = x } ∷ l) (filled_join os ps xs ys (omega arith))

apart : (d : Direction) (margin : ℕ) (o : Order) → chosen (Better d) margin o ≡ true → chosen Margin margin o ≡ false
apart Buy margin o e = ne_eqb o.price margin (omega (arith, ltb-true margin o.price e))
apart Sell margin o e = ne_eqb o.price margin (omega (arith, ltb-true o.price margin e))

mid_of : (l a r : List ℕ) (i e : ℕ) → i ≤ e → i ≤ length l → take e l ≡ a ++ r → length a ≡ i → take (e - i) (drop i l) ≡ r
mid_of l a r i e h k w ea =
    let j : i + (e - i) ≡ e = omega arith in
    sym (drop_at (take i l) (take (e - i) (drop i l)) i (length-take-le i l k))
    ∙ ap (drop i) (sym (take-add i (e - i) l) ∙ ap (λ (x : ℕ). take x l) j ∙ w) ∙ drop_at a r i ea

-- one side's fills
module _ (m ps : List ℕ) (n : ℕ) (d : Direction) (margin v : ℕ) (s : Stand m ps n (orders_at m ps))
    (a : AtMargin v (keep (chosen (Better d) margin) (orders_at m ps)) (keep (chosen Margin margin) (orders_at m ps))) where
  abbrev K : List ℕ
  K = picked m (Better d) margin ps

  abbrev M : List ℕ
  M = picked m Margin margin ps

  both_within : length K + length M ≤ length ps
  unfolding picked
  both_within =
      let k = keep_apart (λ p. chosen (Better d) margin (order_at m p)) (λ p. chosen Margin margin (order_at m p)) ps (λ p e. apart d margin (order_at m p) e) in
      omega arith

  pub both_few : length K + length M ≤ n
  both_few = let f = s.few in omega (arith, both_within)

  better_is : total (open_at m K) ≡ quantities (keep (chosen (Better d) margin) (orders_at m ps))
  better_is = open_total m K ∙ ap quantities (picked_orders m (Better d) margin ps)

  margin_is : total (open_at m M) ≡ quantities (keep (chosen Margin margin) (orders_at m ps))
  margin_is = open_total m M ∙ ap quantities (picked_orders m Margin margin ps)

  below : every (λ p. ltb p n) (K ++ M) ≡ true
  unfolding picked
  below =
      every_append (λ p. ltb p n) K M (keep-every (λ p. ltb p n) (λ p. chosen (Better d) margin (order_at m p)) ps s.below)
      (keep-every (λ p. ltb p n) (λ p. chosen Margin margin (order_at m p)) ps s.below)

  module _ (to am to₁ am₁ : List ℕ) (better : ℕ) (p : Picked m K to am 0 better to₁ am₁) where
    better_count : better ≡ length K
    better_count = let e = p.count in omega arith

    pub better_sum : total (take better am₁) ≡ quantities (keep (chosen (Better d) margin) (orders_at m ps))
    better_sum = ap total p.amounts ∙ better_is

    module _ (op₀ to₂ op : List ℕ) (all : ℕ) (q : Picked m M to₁ op₀ better all to₂ op) where
      pub all-count : all ≡ better + length M
      all-count = q.count

      all_within : all ≤ length ps
      all_within = omega (arith, both_within, better_count, all-count)

      pub all_few : all ≤ n
      all_few = omega (arith, both_few, better_count, all-count)

      module _ (room_to : n ≤ length to₂) (room_am : n ≤ length am₁) (room_op₀ : n ≤ length op₀) (room_op : n ≤ length op) (first due : ℕ) (ef : first
          ≡ total (take better am₁)) (ed : due ≡ v - first) (x : ℕ) (ys : List ℕ)
          (i : Is (sharing due (take (all - better) (drop better op)) (take (all - better) (drop better am₁))) x ys) where
        abbrev R : List ℕ
        R = open_at m M

        l_r : length R ≡ length M
        l_r = length_mapped (λ p. (order_at m p).quantity) M

        l_k : length (open_at m K) ≡ length K
        l_k = length_mapped (λ p. (order_at m p).quantity) K

        open_margin : take (all - better) (drop better op) ≡ R
        open_margin = mid_of op (take better op₀) R better all (omega (arith, all-count)) (omega (arith, all_few, all-count)) q.amounts
            (length-take-le better op₀ (omega (arith, all_few, all-count)))

        abbrev D : ℕ
        D = v - total (take better am₁)

        B : ℕ
        B = quantities (keep (chosen (Better d) margin) (orders_at m ps))

        least : 0 < D
        least = let o = a.over in omega (arith, better_sum)

        most : D ≤ total R
        most = let o = a.within in omega (arith, better_sum, margin_is)

        fits : total R ≤ most_energy
        fits = let o = a.small in omega (arith, margin_is)

        l_p : length (take (all - better) (drop better am₁)) ≡ all - better
        l_p = length-take-le (all - better) (drop better am₁) (simp length-drop (omega (arith, all_few)))

        shares : ys ≡ parts D R
        shares =
            let j : Is (sharing D R (take (all - better) (drop better am₁))) x ys = rw (ed, ef, open_margin) at i in
            let k = is_shared D R (take (all - better) (drop better am₁)) (omega (arith, l_p, l_r, all-count)) least fits most refl in
            let e : drop (length R) (take (all - better) (drop better am₁))
            ≡ [] = drop_of_length-le (take (all - better) (drop better am₁)) {i = length R} (omega (arith, l_p, l_r, all-count)) in
            j.memory ∙ sym k.memory ∙ ap (λ (l : List ℕ). parts D R ++ l) e ∙ append-nil (parts D R)

        ly : length ys ≡ all - better
        ly = ap length shares ∙ parts-length D R ∙ l_r ∙ omega (arith, all-count)

        whole_to : take all to₂ ≡ K ++ M
        whole_to = q.places ∙ ap (λ (l : List ℕ). l ++ M) p.places

        whole_am : take all (put_mid better (all - better) am₁ ys) ≡ open_at m K ++ parts D R
        whole_am =
            let l : length (take better am₁ ++ ys) ≡ all = length-append (take better am₁) ys
            ∙ omega (arith, ly, all-count, all_few, length-take-le better am₁ (omega (arith, all_few, all-count))) in
            ap (take all) (sym (append_assoc (take better am₁) ys (post_of better (all - better) am₁)))
            ∙ take_at (take better am₁ ++ ys) (post_of better (all - better) am₁) all l
            ∙ ap₂ (λ (f g : List ℕ). f ++ g) p.amounts shares

        lt : length (take all to₂) ≡ all
        lt = length-take-le all to₂ (omega (arith, room_to, all_few))

        filling : Filling (take all to₂) (take all (put_mid better (all - better) am₁ ys)) n
        filling =
            let t : total (open_at m K ++ parts D R) ≡ v = total_join (open_at m K) (parts D R)
            ∙ (let o = a.over in omega (arith, better_sum, better_is, parts-sum D R (omega (arith, least, most)))) in
            record {
              few = omega (arith, lt, all_few);
              along = ap length whole_am ∙ length-append (open_at m K) (parts D R)
                  ∙ omega (arith, lt, l_k, l_r, all-count, better_count, parts-length D R);
              below = rw whole_to below;
              small = rw (whole_am, t) (let o = a.within in let k = a.small in omega arith);
            }

        fills_are : fills_at m (take all to₂) (take all (put_mid better (all - better) am₁ ys))
            ≡ fills_of v (keep (chosen (Better d) margin) (orders_at m ps)) (keep (chosen Margin margin) (orders_at m ps))
        unfolding fills_at fills_of
        fills_are =
            let e_d : D ≡ v - quantities (keep (chosen (Better d) margin) (orders_at m ps)) = ap (λ (y : ℕ). v - y) better_sum in
            rw (whole_to, whole_am, map_join (order_at m) K M)
            (filled_join (orders_at m K) (orders_at m M) (open_at m K) (parts D R) (length_mapped (order_at m) K ∙ sym l_k)
            ∙ rw (open_orders_lem m K, open_orders_lem m M, picked_orders m (Better d) margin ps, picked_orders m Margin margin ps, e_d) refl)

        pub side-filled : (all ≤ length ps) × (all ≤ n) × Filling (take all to₂) (take all (put_mid better (all - better) am₁ ys)) n
            × (fills_at m (take all to₂) (take all (put_mid better (all - better) am₁ ys))
            ≡ fills_of v (keep (chosen (Better d) margin) (orders_at m ps)) (keep (chosen Margin margin) (orders_at m ps)))
        side-filled = (all_within, all_few, filling, fills_are)
