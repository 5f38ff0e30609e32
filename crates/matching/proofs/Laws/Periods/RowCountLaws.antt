-- A period has at most as many rows as orders.
use Prim.Native.Nat.{ℕ, zero, suc, ◌+◌, ◌-◌, ◌≤◌, min, max}
use mathlib.Core.Path.{◌≡◌, refl, sym, ap, ◌∙◌}
use mathlib.Core.Bool.{Bool, true, false, cond}
use mathlib.Core.List.{List, [], ◌∷◌, ◌++◌, map}
use native.Mathlib.Omega.{arith}
use native.Mathlib.Decide.{dec_le}
use borrow.Author.Tests.{eqb-true, ltb-true, le-leb, lt-leb, leb-true}
use lib.ListN.{length, length-append}
use lib.Dec.{eqb, leb, ltb}
use Rattle.measures.specs.Lists.{keep}
use Rattle.measures.specs.Sharing.{parts}
use Rattle.measures.proofs.ListLaws.{and_right, both_ways, false_by}
use Rattle.matching.specs.Orders.{Order, Row, buys, sells, bids, asks, bid_ahead, ask_ahead, rising, numbers, quantities}
use Rattle.matching.specs.Clearing.{Fill, filled, fills_of, bid_fills, ask_fills, end_to_end, overlap_rows, clear_period}
use Rattle.matching.specs.Inner.Places.{overlap_row}
use Rattle.matching.proofs.Laws.Orders.LaidLaws.{laid-length}
use Rattle.matching.proofs.Laws.Rows.OverlapLaws.{overlap_none, overlap_end, bid_step, ask_step}
use Rattle.matching.proofs.Laws.Clearing.PeriodLaws.{is_bid, is_ask, volume, bid_margin, ask_margin, price_of, bid_fills_of, ask_fills_of, cleared-rows, not_both}
use Rattle.matching.proofs.Laws.Clearing.RestLaws.{others_stay}

-- the orders of the periods from p on
unfoldable pub due_from : ℕ → List Order → ℕ
due_from p os = length (keep (λ (o : Order). leb p o.period) os)

module _ {A : Type 0} where
  keep-count : (f : A → Bool) (x : A) (xs : List A) → length (keep f (x ∷ xs)) ≡ cond (f x) 1 0 + length (keep f xs)
  keep-count f x xs = go (f x)
    where
      go : (b : Bool) → length (cond b (x ∷ keep f xs) (keep f xs)) ≡ cond b 1 0 + length (keep f xs)
      go true = omega arith
      go false = omega arith

  -- tests of which at most one holds, and then another
  keep-parts : (f g h k : A → Bool) → ((x : A) → cond (f x) 1 0 + cond (g x) 1 0 + cond (h x) 1 0 ≤ cond (k x) 1 0) → (l : List A)
      → length (keep f l) + length (keep g l) + length (keep h l) ≤ length (keep k l)
  keep-parts f g h k e [] = omega arith
  keep-parts f g h k e (x ∷ xs) =
      let t = keep-parts f g h k e xs in
      let a = e x in
      rw (keep-count f x xs, keep-count g x xs, keep-count h x xs, keep-count k x xs) (omega arith)

  keep_two : (f g : A → Bool) → ((x : A) → f x ≡ true → g x ≡ false) → (l : List A) → length (keep f l) + length (keep g l) ≤ length l
  keep_two f g e [] = omega arith
  keep_two f g e (x ∷ xs) = rw (keep-count f x xs, keep-count g x xs) (go (f x) (g x) (e x) (keep_two f g e xs))
    where
      go : (a b : Bool) → (a ≡ true → b ≡ false) → length (keep f xs) + length (keep g xs) ≤ length xs
          → cond a 1 0 + length (keep f xs) + (cond b 1 0 + length (keep g xs)) ≤ suc (length xs)
      go true true i t = both_ways (i refl)
      go true false i t = omega arith
      go false true i t = omega arith
      go false false i t = omega arith

-- rows of overlaps
module _ (period price : ℕ) where
  row_few : (seller buyer a x e y : ℕ) → length (overlap_row period price seller buyer a x e y) ≤ 1
  unfolding overlap_row
  row_few seller buyer a x e y = go (eqb (min x y - max a e) 0)
      (record { way = 3; period = period; seller = seller; buyer = buyer; quantity = min x y - max a e; price = price })
    where
      go : (b : Bool) (r : Row) → length (cond b [] (r ∷ [])) ≤ 1
      go true r = omega arith
      go false r = omega arith

  end_none : (a : ℕ) → end_to_end a [] ≡ []
  unfolding end_to_end
  end_none a = refl

  overlaps_few : (n a : ℕ) (fs : List Fill) (e : ℕ) (gs : List Fill) → length fs + length gs ≤ n
      → length (overlap_rows period price (end_to_end a fs) (end_to_end e gs)) ≤ length fs + length gs
  overlaps_few n a [] e gs h = rw (end_none a, overlap_end period price (end_to_end e gs)) (omega arith)
  overlaps_few n a (f ∷ fs) e [] h = rw (end_none e, overlap_none period price (end_to_end a (f ∷ fs))) (omega arith)
  overlaps_few zero a (f ∷ fs) e (g ∷ gs) h = absurd (omega arith)
  overlaps_few (suc n) a (f ∷ fs) e (g ∷ gs) h =
      go (dec_le (a + f.amount) (e + g.amount)) (overlaps_few n (a + f.amount) fs e (g ∷ gs) (omega arith)) (overlaps_few n a (f
      ∷ fs) (e + g.amount) gs (omega arith))
    where
      row : List Row
      row = overlap_row period price g.order.unit f.order.unit a (a + f.amount) e (e + g.amount)

      few : length row ≤ 1
      few = row_few g.order.unit f.order.unit a (a + f.amount) e (e + g.amount)

      go : Dec (a + f.amount ≤ e + g.amount)
          → length (overlap_rows period price (end_to_end (a + f.amount) fs) (end_to_end e (g ∷ gs))) ≤ length fs + length (g ∷ gs)
          → length (overlap_rows period price (end_to_end a (f ∷ fs)) (end_to_end (e + g.amount) gs)) ≤ length (f ∷ fs) + length gs
          → length (overlap_rows period price (end_to_end a (f ∷ fs)) (end_to_end e (g ∷ gs))) ≤ length (f ∷ fs) + length (g ∷ gs)
      go (yes l) s t =
          let rest = overlap_rows period price (end_to_end (a + f.amount) fs) (end_to_end e (g ∷ gs)) in
          let q : length (overlap_rows period price (end_to_end a (f ∷ fs)) (end_to_end e (g ∷ gs)))
          ≡ length row + length rest = ap length (bid_step period price a f fs e g gs l) ∙ length-append row rest in
          omega (arith, few)
      go (no l) s t =
          let rest = overlap_rows period price (end_to_end a (f ∷ fs)) (end_to_end (e + g.amount) gs) in
          let q : length (overlap_rows period price (end_to_end a (f ∷ fs)) (end_to_end e (g ∷ gs)))
          ≡ length row + length rest = ap length (ask_step period price a f fs e g gs (omega arith)) ∙ length-append row rest in
          omega (arith, few)

-- fills of a side
filled_few : (os : List Order) (ps : List ℕ) → length (filled os ps) ≤ length os
unfolding filled
filled_few [] ps = omega arith
filled_few (o ∷ os) [] = omega arith
filled_few (o ∷ os) (p ∷ ps) = let t = filled_few os ps in omega arith

fills_few : (v : ℕ) (better margin : List Order) → length (fills_of v better margin) ≤ length better + length margin
unfolding fills_of
fills_few v better margin =
    let a = filled better (map (λ (o : Order). o.quantity) better) in
    let b = filled margin (parts (v - quantities better) (map (λ (o : Order). o.quantity) margin)) in
    let l : length (a ++ b) ≡ length a + length b = length-append a b in
    omega (
      arith,
      l,
      filled_few better (map (λ (o : Order). o.quantity) better),
      filled_few margin
          (parts (v - quantities better) (map (λ (o : Order). o.quantity) margin)),
    )

module _ (period : ℕ) (os : List Order) where
  bids_few : length (bid_fills_of period os) ≤ length (keep (is_bid period) os)
  unfolding bid_fills_of
  bids_few = go (eqb (volume period os) 0)
    where
      v : ℕ
      v = volume period os

      b : ℕ
      b = bid_margin period os

      some : length (bid_fills v b (bids period os)) ≤ length (keep (is_bid period) os)
      some =
          let s = fills_few v (keep (λ (o : Order). ltb b o.price) (bids period os)) (keep (λ (o : Order). eqb o.price b) (bids period os)) in
          let t = keep_two (λ (o : Order). ltb b o.price) (λ (o : Order). eqb o.price b)
          (λ o l. false_by _ (λ q. absurd (omega (arith, ltb-true b o.price l, eqb-true o.price b q)))) (bids period os) in
          omega (arith, laid-length bid_ahead (keep (is_bid period) os))

      go : (z : Bool) → length (cond z [] (bid_fills v b (bids period os))) ≤ length (keep (is_bid period) os)
      go true = omega arith
      go false = some

  asks_few : length (ask_fills_of period os) ≤ length (keep (is_ask period) os)
  unfolding ask_fills_of
  asks_few = go (eqb (volume period os) 0)
    where
      v : ℕ
      v = volume period os

      s : ℕ
      s = ask_margin period os

      some : length (ask_fills v s (asks period os)) ≤ length (keep (is_ask period) os)
      some =
          let a = fills_few v (keep (λ (o : Order). ltb o.price s) (asks period os)) (keep (λ (o : Order). eqb o.price s) (asks period os)) in
          let t = keep_two (λ (o : Order). ltb o.price s) (λ (o : Order). eqb o.price s)
          (λ o l. false_by _ (λ q. absurd (omega (arith, ltb-true o.price s l, eqb-true o.price s q)))) (asks period os) in
          omega (arith, laid-length ask_ahead (keep (is_ask period) os))

      go : (z : Bool) → length (cond z [] (ask_fills v s (asks period os))) ≤ length (keep (is_ask period) os)
      go true = omega arith
      go false = some

  rows_few : length (clear_period period os).rows ≤ length (keep (is_bid period) os) + length (keep (is_ask period) os)
  rows_few =
      let n = length (bid_fills_of period os) + length (ask_fills_of period os) in
      let t = overlaps_few period (price_of period os) n 0 (bid_fills_of period os) 0 (ask_fills_of period os) (omega arith) in
      rw (cleared-rows period os) (omega (arith, bids_few, asks_few))

  one_each : (o : Order) → cond (is_bid period o) 1 0 + cond (is_ask period o) 1 0 + cond (leb (suc period) o.period) 1 0
      ≤ cond (leb period o.period) 1 0
  one_each o =
      go (is_bid period o) (is_ask period o) (leb (suc period) o.period) (leb period o.period)
      (λ x. false_by _ (λ y. not_both period os o x y))
      (λ x. lt-leb (suc period) o.period (omega (arith, bid x)))
      (λ x. le-leb period o.period (omega (arith, bid x)))
      (λ x. lt-leb (suc period) o.period (omega (arith, ask x)))
      (λ x. le-leb period o.period (omega (arith, ask x)))
      (λ x. le-leb period o.period (omega (arith, leb-true (suc period) o.period x)))
    where
      bid : is_bid period o ≡ true → o.period ≡ period
      bid x = eqb-true _ _ (and_right (buys o.direction) (eqb o.period period) x)

      ask : is_ask period o ≡ true → o.period ≡ period
      ask x = eqb-true _ _ (and_right (sells o.direction) (eqb o.period period) x)

      go : (x y h k : Bool) → (x ≡ true → y ≡ false) → (x ≡ true → h ≡ false) → (x ≡ true → k ≡ true) → (y ≡ true → h ≡ false) → (y ≡ true → k ≡ true)
          → (h ≡ true → k ≡ true)
          → cond x 1 0 + cond y 1 0 + cond h 1 0 ≤ cond k 1 0
      go true true h k xy xh xk yh yk hk = both_ways (xy refl)
      go true false true k xy xh xk yh yk hk = both_ways (xh refl)
      go true false false true xy xh xk yh yk hk = omega arith
      go true false false false xy xh xk yh yk hk = both_ways (sym (xk refl))
      go false true true k xy xh xk yh yk hk = both_ways (yh refl)
      go false true false true xy xh xk yh yk hk = omega arith
      go false true false false xy xh xk yh yk hk = both_ways (sym (yk refl))
      go false false true true xy xh xk yh yk hk = omega arith
      go false false true false xy xh xk yh yk hk = both_ways (sym (hk refl))
      go false false false k xy xh xk yh yk hk = omega arith

  -- the rows of a period, and the orders of later periods that then wait
  pub rows_and_due : rising (numbers os) ≡ true → length (clear_period period os).rows + due_from (suc period) (clear_period period os).orders
      ≤ due_from period os
  unfolding due_from
  rows_and_due e =
      let s : length (keep (λ (o : Order). leb (suc period) o.period) (clear_period period os).orders)
      ≡ length (keep (λ (o : Order). leb (suc period) o.period) os) = ap length stay in
      omega (
        arith,
        rows_few,
        keep-parts (is_bid period) (is_ask period) (λ (o : Order). leb (suc period) o.period)
            (λ (o : Order). leb period o.period) one_each os,
      )
    where
      stay : keep (λ (o : Order). leb (suc period) o.period) (clear_period period os).orders
          ≡ keep (λ (o : Order). leb (suc period) o.period) os
      stay =
          others_stay period os (λ (o : Order). leb (suc period) o.period) (λ o q. refl)
          (λ o x. lt-leb (suc period) o.period (omega (arith, eqb-true o.period period (and_right (buys o.direction) (eqb o.period period) x))))
          (λ o x. lt-leb (suc period) o.period (omega (
            arith,
            eqb-true o.period period
                (and_right (sells o.direction) (eqb o.period period) x),
          )))
          e

pub due_all : (p : ℕ) (os : List Order) → due_from p os ≤ length os
unfolding due_from
due_all p [] = omega arith
due_all p (o ∷ os) = rw (keep-count (λ (x : Order). leb p x.period) o os) (go (leb p o.period) (due_all p os))
  where
    go : (a : Bool) → due_from p os ≤ length os → cond a 1 0 + due_from p os ≤ suc (length os)
    go true t = omega arith
    go false t = omega arith
