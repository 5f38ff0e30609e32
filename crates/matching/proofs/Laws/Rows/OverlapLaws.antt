-- Laws of fills laid end to end: their overlaps come out of one walk along both sides.
use Prim.Native.Nat.{ℕ, zero, suc, ◌+◌, ◌*◌, ◌-◌, ◌<◌, ◌≤◌, min, max}
use mathlib.Core.Path.{◌≡◌, refl, sym, ap, ap₂, ◌∙◌}
use mathlib.Core.Bool.{Bool, true, false, cond}
use mathlib.Core.List.{List, [], ◌∷◌, ◌++◌, append_assoc, append-nil}
use native.Mathlib.Omega.{arith}
use lib.Dec.{eqb, ltb}
use borrow.Author.Tests.{eq-eqb, ltb-true}
use native.Mathlib.Nat.{not-suc-le-zero}
use native.Mathlib.Numerals.{add-one}
use lib.ListN.{length, get_or, drop, drop_of_length-le}
use lib.Seq.{drop-cons}
use Rattle.measures.specs.Lists.{sum_of}
use Rattle.measures.specs.Ranges.{most_energy}
use Rattle.measures.specs.Sharing.{total}
use Rattle.measures.proofs.ListLaws.{cond-true, every_at}
use Rattle.matching.specs.Orders.{Row}
use Rattle.matching.specs.Clearing.{Fill, filled, Span, end_to_end, overlap, rows_of_bid, overlap_rows}
use Rattle.matching.specs.Memory.{order_at, no_order, written}
use Rattle.matching.specs.Inner.Places.{orders_at, overlap_row, fills_at, Filling}
use Rattle.matching.proofs.Laws.Orders.RowLaws.{written_none}

-- the row of two spans
abbrev pub row_of_spans : ℕ → ℕ → Span → Span → List Row
row_of_spans period price x y = overlap_row period price y.unit x.unit x.from x.upto y.from y.upto

module _ (period price : ℕ) where
  none_row : (x y : Span) → min x.upto y.upto - max x.from y.from ≡ 0 → row_of_spans period price x y ≡ []
  unfolding overlap_row
  none_row x y h = cond-true _ _ _ (eq-eqb _ _ h) refl

  -- the rows of a bid, one ask first
  pub bid_cons : (x y : Span) (ys : List Span) → rows_of_bid period price x (y ∷ ys) ≡ row_of_spans period price x y ++ rows_of_bid period price x ys
  unfolding rows_of_bid overlap_row
  bid_cons x y ys = go (eqb (overlap x y) 0) refl
    where
      row : Row
      row = record { way = 3; period = period; seller = y.unit; buyer = x.unit; quantity = overlap x y; price = price }

      go : (b : Bool) → eqb (overlap x y) 0 ≡ b → cond (eqb (overlap x y) 0) (rows_of_bid period price x ys) (row ∷ rows_of_bid period price x ys)
          ≡ cond (eqb (overlap x y) 0) [] (row ∷ []) ++ rows_of_bid period price x ys
      go true e = rw e
      go false e = rw e

  -- a bid that ends before the asks begin shares nothing with them
  pub bid_past : (x : Span) (s : ℕ) (fs : List Fill) → x.upto ≤ s → rows_of_bid period price x (end_to_end s fs) ≡ []
  unfolding rows_of_bid end_to_end
  bid_past x s [] h = refl
  bid_past x s (f ∷ fs) h =
      bid_cons x (record { unit = f.order.unit; from = s; upto = s + f.amount }) (end_to_end (s + f.amount) fs)
      ∙ ap₂ (λ (a b : List Row). a ++ b) (none_row x (record { unit = f.order.unit; from = s; upto = s + f.amount }) (omega arith))
      (bid_past x (s + f.amount) fs (omega arith))

  -- an ask that ends before the bids begin shares nothing with them
  pub ask_past : (y : Span) (ys : List Span) (s : ℕ) (fs : List Fill) → y.upto ≤ s → overlap_rows period price (end_to_end s fs) (y ∷ ys)
      ≡ overlap_rows period price (end_to_end s fs) ys
  unfolding overlap_rows end_to_end
  ask_past y ys s [] h = refl
  ask_past y ys s (f ∷ fs) h =
      let x : Span = record { unit = f.order.unit; from = s; upto = s + f.amount } in
      ap₂ (λ (a b : List Row). a ++ b) (bid_cons x y ys ∙ ap (λ (a : List Row). a ++ rows_of_bid period price x ys) (none_row x y (omega arith)))
      (ask_past y ys (s + f.amount) fs (omega arith))

  pub overlap_none : (xs : List Span) → overlap_rows period price xs [] ≡ []
  unfolding overlap_rows rows_of_bid
  overlap_none [] = refl
  overlap_none (x ∷ xs) = overlap_none xs

  pub overlap_end : (ys : List Span) → overlap_rows period price [] ys ≡ []
  unfolding overlap_rows
  overlap_end ys = refl

  -- one step along the bids, and one along the asks
  module _ (a : ℕ) (f : Fill) (fs : List Fill) (e : ℕ) (g : Fill) (gs : List Fill) where
    pub bid_step : a + f.amount ≤ e + g.amount
        → overlap_rows period price (end_to_end a (f ∷ fs)) (end_to_end e (g ∷ gs))
        ≡ overlap_row period price g.order.unit f.order.unit a (a + f.amount) e (e + g.amount)
        ++ overlap_rows period price (end_to_end (a + f.amount) fs) (end_to_end e (g ∷ gs))
    unfolding overlap_rows end_to_end
    bid_step h =
        let x : Span = record { unit = f.order.unit; from = a; upto = a + f.amount } in
        let y : Span = record { unit = g.order.unit; from = e; upto = e + g.amount } in
        ap (λ (r : List Row). r ++ overlap_rows period price (end_to_end (a + f.amount) fs) (end_to_end e (g ∷ gs)))
        (bid_cons x y (end_to_end (e + g.amount) gs)
        ∙ ap (λ (r : List Row). row_of_spans period price x y ++ r) (bid_past x (e + g.amount) gs h)
        ∙ append-nil (row_of_spans period price x y))

    pub ask_step : e + g.amount ≤ a + f.amount
        → overlap_rows period price (end_to_end a (f ∷ fs)) (end_to_end e (g ∷ gs))
        ≡ overlap_row period price g.order.unit f.order.unit a (a + f.amount) e (e + g.amount)
        ++ overlap_rows period price (end_to_end a (f ∷ fs)) (end_to_end (e + g.amount) gs)
    unfolding overlap_rows end_to_end
    ask_step h =
        let x : Span = record { unit = f.order.unit; from = a; upto = a + f.amount } in
        let y : Span = record { unit = g.order.unit; from = e; upto = e + g.amount } in
        ap₂ (λ (r s : List Row). r ++ s) (bid_cons x y (end_to_end (e + g.amount) gs)) (ask_past y (end_to_end (e + g.amount) gs) (a + f.amount) fs h)
        ∙ append_assoc (row_of_spans period price x y) (rows_of_bid period price x (end_to_end (e + g.amount) gs))
        (overlap_rows period price (end_to_end (a + f.amount) fs) (end_to_end (e + g.amount) gs))

abbrev pub no_fill : Fill
no_fill = record { order = no_order; amount = 0 }

-- what fills come to
abbrev pub amounts : List Fill → ℕ
amounts fs = sum_of (λ f. f.amount) fs

-- fills by place, one by one
filled-length : (m ps xs : List ℕ) → length ps ≡ length xs → length (filled (orders_at m ps) xs) ≡ length ps
unfolding filled
filled-length m [] xs e = refl
filled-length m (p ∷ ps) [] e = absurd (omega arith)
filled-length m (p ∷ ps) (x ∷ xs) e = ap suc (filled-length m ps xs (omega arith))

filled_at : (m ps xs : List ℕ) (i : ℕ) → i < length ps → i < length xs → get_or (filled (orders_at m ps) xs) i no_fill
    ≡ record { order = order_at m (get_or ps i 0); amount = get_or xs i 0 }
unfolding filled
filled_at m [] xs i h l = absurd (not-suc-le-zero h)
filled_at m (p ∷ ps) [] i h l = absurd (not-suc-le-zero l)
filled_at m (p ∷ ps) (x ∷ xs) zero h l = refl
filled_at m (p ∷ ps) (x ∷ xs) (suc i) h l = filled_at m ps xs i (omega arith) (omega arith)

filled-amounts : (m ps xs : List ℕ) → length ps ≡ length xs → amounts (filled (orders_at m ps) xs) ≡ total xs
unfolding filled
filled-amounts m [] [] e = refl
filled-amounts m [] (x ∷ xs) e = absurd (omega arith)
filled-amounts m (p ∷ ps) [] e = absurd (omega arith)
filled-amounts m (p ∷ ps) (x ∷ xs) e = let ih = filled-amounts m ps xs (omega arith) in omega arith

-- a place of a fill is below n
pub filling_below : (ps xs : List ℕ) (n i : ℕ) → Filling ps xs n → i < length ps → get_or ps i 0 < n
filling_below ps xs n i f h = ltb-true (get_or ps i 0) n (every_at (λ (p : ℕ). ltb p n) ps i 0 f.below h)

module _ (m ps xs : List ℕ) (n : ℕ) (f : Filling ps xs n) where
  pub fills_length : length (fills_at m ps xs) ≡ length ps
  unfolding fills_at
  fills_length = filled-length m ps xs (sym f.along)

  pub fills_at_lem : (i : ℕ) → i < length ps → get_or (fills_at m ps xs) i no_fill ≡ record { order = order_at m (get_or ps i 0); amount = get_or xs i 0 }
  unfolding fills_at
  fills_at_lem i h = filled_at m ps xs i h (omega (arith, f.along))

  pub fills_amounts : amounts (fills_at m ps xs) ≤ most_energy
  unfolding fills_at
  fills_amounts = omega (arith, filled-amounts m ps xs (sym f.along), f.small)

-- the walk: the rows so far, and those of the fills to come
pub record Rowing (period price : ℕ) (fb fa : List Fill) (r₀ r : List ℕ) (i j a e count : ℕ) : Type 0 where
  pub done : List Row
  pub counted : length done ≡ count
  pub kept : r ≡ written r₀ done
  pub room : length r ≡ length r₀
  pub few : count ≤ i + j
  pub bids : i ≤ length fb
  pub asks : j ≤ length fa
  pub low_bids : a + amounts (drop i fb) ≤ most_energy
  pub low_asks : e + amounts (drop j fa) ≤ most_energy
  pub rest : done ++ overlap_rows period price (end_to_end a (drop i fb)) (end_to_end e (drop j fa)) ≡ overlap_rows period price (end_to_end 0 fb) (end_to_end 0 fa)

pub rowing_start : (period price : ℕ) (fb fa : List Fill) (r : List ℕ) → amounts fb ≤ most_energy → amounts fa ≤ most_energy
    → Rowing period price fb fa r r 0 0 0 0 0
rowing_start period price fb fa r hb ha =
    record {
      done = [];
      counted = refl;
      kept = written_none r;
      room = refl;
      few = omega arith;
      bids = omega arith;
      asks = omega arith;
      low_bids = omega arith;
      low_asks = omega arith;
      rest = refl;
    }

-- what writing a row with a quantity does, and one with none
abbrev pub Wrote : ℕ → ℕ → ℕ → ℕ → ℕ → List ℕ → ℕ → List ℕ → ℕ → Type 0
Wrote period price seller buyer q r count r' count' =
    (m : List ℕ) (rs : List Row) → length rs ≡ count → r ≡ written m rs
    → (r' ≡ written m (rs ++ cond (eqb q 0) [] (record { way = 3; period = period; seller = seller; buyer = buyer; quantity = q; price = price } ∷ [])))
    × (length (rs ++ cond (eqb q 0) [] (record { way = 3; period = period; seller = seller; buyer = buyer; quantity = q; price = price } ∷ [])) ≡ count')
    × (count' ≤ count + 1)

module _ (period price : ℕ) (fb fa : List Fill) (r₀ r : List ℕ) (i j a e count : ℕ) (g : Rowing period price fb fa r₀ r i j a e count) where
  pub rowing_bids_end : length fb ≤ i → (r ≡ written r₀ (overlap_rows period price (end_to_end 0 fb) (end_to_end 0 fa)))
      × (count ≡ length (overlap_rows period price (end_to_end 0 fb) (end_to_end 0 fa)))
  unfolding end_to_end overlap_rows
  rowing_bids_end h =
      let d : drop i fb ≡ [] = drop_of_length-le fb {i = i} h in
      let all : g.done ≡ overlap_rows period price (end_to_end 0 fb) (end_to_end 0 fa) = sym (append-nil g.done) ∙ rw d at g.rest in
      (g.kept ∙ ap (written r₀) all, sym g.counted ∙ ap length all)

  pub rowing_asks_end : length fa ≤ j → (r ≡ written r₀ (overlap_rows period price (end_to_end 0 fb) (end_to_end 0 fa)))
      × (count ≡ length (overlap_rows period price (end_to_end 0 fb) (end_to_end 0 fa)))
  unfolding end_to_end
  rowing_asks_end h =
      let d : drop j fa ≡ [] = drop_of_length-le fa {i = j} h in
      let none : overlap_rows period price (end_to_end a (drop i fb)) (end_to_end e (drop j fa))
      ≡ [] = ap (λ (l : List Fill). overlap_rows period price (end_to_end a (drop i fb)) (end_to_end e l)) d
      ∙ overlap_none period price (end_to_end a (drop i fb)) in
      let all : g.done ≡ overlap_rows period price (end_to_end 0 fb) (end_to_end 0 fa) = sym (append-nil g.done)
      ∙ ap (λ (l : List Row). g.done ++ l) (sym none) ∙ g.rest in
      (g.kept ∙ ap (written r₀) all, sym g.counted ∙ ap length all)

  -- a turn: bid i and ask j, and what they share
  module _ (f h : Fill) (hi : i < length fb) (hj : j < length fa) (ef : get_or fb i no_fill ≡ f) (eh : get_or fa j no_fill ≡ h) where
    df : drop i fb ≡ f ∷ drop (i + 1) fb
    df = rw (add-one i) (drop-cons fb i no_fill hi ∙ ap (λ (y : Fill). y ∷ drop (suc i) fb) ef)

    dh : drop j fa ≡ h ∷ drop (j + 1) fa
    dh = rw (add-one j) (drop-cons fa j no_fill hj ∙ ap (λ (y : Fill). y ∷ drop (suc j) fa) eh)

    pub bid_fits : a + f.amount ≤ most_energy
    bid_fits = let l = g.low_bids in let s = ap amounts df in omega arith

    pub ask_fits : e + h.amount ≤ most_energy
    ask_fits = let l = g.low_asks in let s = ap amounts dh in omega arith

    abbrev one : List Row
    one = overlap_row period price h.order.unit f.order.unit a (a + f.amount) e (e + h.amount)

    module _ (seller buyer q : ℕ) (r' : List ℕ) (count' : ℕ) (es : seller ≡ h.order.unit) (eb : buyer ≡ f.order.unit) (eq : q
        ≡ min (a + f.amount) (e + h.amount) - max a e) (lr : length r' ≡ length r) (w : Wrote period price seller buyer q r count r' count') where
      wrote : (r' ≡ written r₀ (g.done ++ one)) × (length (g.done ++ one) ≡ count') × (count' ≤ count + 1)
      unfolding overlap_row
      wrote = rw (← es, ← eb, ← eq) (w r₀ g.done g.counted g.kept)

      pub rowing_bid : a + f.amount ≤ e + h.amount → Rowing period price fb fa r₀ r' (i + 1) j (a + f.amount) e count'
      rowing_bid le =
          let s = ap amounts df in
          let l = g.low_bids in
          let k = g.few in
          let c = wrote.2 in
          record {
            done = g.done ++ one;
            counted = wrote.1;
            kept = wrote.0;
            room = lr ∙ g.room;
            few = omega arith;
            bids = omega arith;
            asks = g.asks;
            low_bids = omega arith;
            low_asks = g.low_asks;
            rest =
                append_assoc g.done one (overlap_rows period price (end_to_end (a + f.amount) (drop (i + 1) fb)) (end_to_end e (drop j fa)))
                ∙ ap (λ (l : List Row). g.done ++ l) (ap (λ (l : List Fill). one
                ++ overlap_rows period price (end_to_end (a + f.amount) (drop (i + 1) fb)) (end_to_end e l)) dh
                ∙ sym (bid_step period price a f (drop (i + 1) fb) e h (drop (j + 1) fa) le)
                ∙ ap₂ (λ (l k : List Fill). overlap_rows period price (end_to_end a l) (end_to_end e k)) (sym df) (sym dh))
                ∙ g.rest;
          }

      pub rowing_ask : e + h.amount ≤ a + f.amount → Rowing period price fb fa r₀ r' i (j + 1) a (e + h.amount) count'
      rowing_ask le =
          let s = ap amounts dh in
          let l = g.low_asks in
          let k = g.few in
          let c = wrote.2 in
          record {
            done = g.done ++ one;
            counted = wrote.1;
            kept = wrote.0;
            room = lr ∙ g.room;
            few = omega arith;
            bids = g.bids;
            asks = omega arith;
            low_bids = g.low_bids;
            low_asks = omega arith;
            rest =
                append_assoc g.done one (overlap_rows period price (end_to_end a (drop i fb)) (end_to_end (e + h.amount) (drop (j + 1) fa)))
                ∙ ap (λ (l : List Row). g.done ++ l) (ap (λ (l : List Fill). one
                ++ overlap_rows period price (end_to_end a l) (end_to_end (e + h.amount) (drop (j + 1) fa))) df
                ∙ sym (ask_step period price a f (drop (i + 1) fb) e h (drop (j + 1) fa) le)
                ∙ ap₂ (λ (l k : List Fill). overlap_rows period price (end_to_end a l) (end_to_end e k)) (sym df) (sym dh))
                ∙ g.rest;
          }

-- the same by places and amounts in memory
module _ (period price : ℕ) (m bids bought asks sold : List ℕ) (n : ℕ) (fb : Filling bids bought n) (fa : Filling asks sold n) (r₀ r : List ℕ)
    (i j a e count : ℕ)
    (g : Rowing period price (fills_at m bids bought) (fills_at m asks sold) r₀ r i j a e count) where
  pub bids_within : i ≤ length bids
  bids_within = omega (arith, g.bids, fills_length m bids bought n fb)

  pub asks_within : j ≤ length asks
  asks_within = omega (arith, g.asks, fills_length m asks sold n fa)

  pub bids_done : length bids ≤ i → (r ≡ written r₀ (overlap_rows period price (end_to_end 0 (fills_at m bids bought)) (end_to_end 0 (fills_at m asks sold))))
      × (count ≡ length (overlap_rows period price (end_to_end 0 (fills_at m bids bought)) (end_to_end 0 (fills_at m asks sold))))
  bids_done h = rowing_bids_end period price (fills_at m bids bought) (fills_at m asks sold) r₀ r i j a e count g
      (omega (arith, fills_length m bids bought n fb))

  pub asks_done : length asks ≤ j → (r ≡ written r₀ (overlap_rows period price (end_to_end 0 (fills_at m bids bought)) (end_to_end 0 (fills_at m asks sold))))
      × (count ≡ length (overlap_rows period price (end_to_end 0 (fills_at m bids bought)) (end_to_end 0 (fills_at m asks sold))))
  asks_done h = rowing_asks_end period price (fills_at m bids bought) (fills_at m asks sold) r₀ r i j a e count g
      (omega (arith, fills_length m asks sold n fa))

  module _ (hi : i < length bids) (hj : j < length asks) where
    abbrev F : Fill
    F = record { order = order_at m (get_or bids i 0); amount = get_or bought i 0 }

    abbrev H : Fill
    H = record { order = order_at m (get_or asks j 0); amount = get_or sold j 0 }

    li : i < length (fills_at m bids bought)
    li = omega (arith, fills_length m bids bought n fb)

    lj : j < length (fills_at m asks sold)
    lj = omega (arith, fills_length m asks sold n fa)

    pub bid_in_range : a + get_or bought i 0 ≤ most_energy
    bid_in_range = bid_fits period price (fills_at m bids bought) (fills_at m asks sold) r₀ r i j a e count g F H li lj
        (fills_at_lem m bids bought n fb i hi) (fills_at_lem m asks sold n fa j hj)

    pub ask_in_range : e + get_or sold j 0 ≤ most_energy
    ask_in_range = ask_fits period price (fills_at m bids bought) (fills_at m asks sold) r₀ r i j a e count g F H li lj
        (fills_at_lem m bids bought n fb i hi) (fills_at_lem m asks sold n fa j hj)

    module _ (seller buyer x y q : ℕ) (r' : List ℕ) (count' : ℕ) (es : seller ≡ get_or m (6 * get_or asks j 0 + 1) 0)
        (eb : buyer ≡ get_or m (6 * get_or bids i 0 + 1) 0) (ex : x ≡ a + get_or bought i 0) (ey : y ≡ e + get_or sold j 0) (eq : q ≡ min x y - max a e)
        (lr : length r' ≡ length r) (w : Wrote period price seller buyer q r count r' count') where
      pub bid_row : x ≤ y → Rowing period price (fills_at m bids bought) (fills_at m asks sold) r₀ r' (i + 1) j x e count'
      bid_row h =
          rw ex
          (rowing_bid period price (fills_at m bids bought) (fills_at m asks sold) r₀ r i j a e count g F H li lj (fills_at_lem m bids bought n fb i hi)
          (fills_at_lem m asks sold n fa j hj)
          seller buyer q r' count' es eb (omega arith) lr w (omega arith))

      pub ask_row : y ≤ x → Rowing period price (fills_at m bids bought) (fills_at m asks sold) r₀ r' i (j + 1) a y count'
      ask_row h =
          rw ey
          (rowing_ask period price (fills_at m bids bought) (fills_at m asks sold) r₀ r i j a e count g F H li lj (fills_at_lem m bids bought n fb i hi)
          (fills_at_lem m asks sold n fa j hj)
          seller buyer q r' count' es eb (omega arith) lr w (omega arith))
