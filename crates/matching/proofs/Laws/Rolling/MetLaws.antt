-- What an incoming order trades comes off the waiting orders and off itself, unit by unit.
use Prim.Native.Nat.{ℕ, ◌+◌, ◌-◌, ◌<◌, ◌≤◌, min}
use mathlib.Core.Path.{◌≡◌, refl, sym, ap, ap₂, ◌∙◌}
use mathlib.Core.Bool.{Bool, true, false, cond, ◌&&◌}
use mathlib.Core.List.{List, [], ◌∷◌, ◌++◌, map}
use native.Mathlib.Omega.{arith}
use lib.Dec.{eqb, leb}
use native.Mathlib.Decide.{ℕ_discrete}
use borrow.Author.Tests.{eq-eqb, ne_eqb, eqb-true}
use Rattle.measures.specs.Lists.{Each, Has, sum_of, keep}
use Rattle.measures.proofs.ListLaws.{cond_case, and_left, and_right, sum_of_append}
use Rattle.matching.specs.Orders.{Order, Row, sells, buys, numbers, rising, leaving}
use Rattle.matching.specs.Rolling.{Match, candidate, ahead_for, counterparts, matches, match_row, after_matches, meet}
use Rattle.matching.specs.Clearing.{Fill, after_fills}
use Rattle.matching.proofs.Laws.Lists.EachLaws.{Pairs, each_map, each_keep, kept, has_self, pairs_map, pairs_keep, keep-sum}
use Rattle.matching.proofs.Laws.Lists.SumLaws.{sum_of_ext, sum_of-zero, sum_of_when}
use Rattle.matching.proofs.Laws.Orders.LaidLaws.{laid_each, laid_pairs}
use Rattle.matching.proofs.Laws.Clearing.FillLaws.{Fits}
use Rattle.matching.proofs.Laws.Orders.LessenLaws.{Numbered, rising-numbered}
use Rattle.matching.proofs.Laws.Orders.AfterLaws.{Due, after_open}
use Rattle.matching.proofs.Laws.Clearing.SideLaws.{Apart}
use Rattle.matching.proofs.Laws.Rolling.RollingLaws.{traded_and_left}
use Rattle.matching.proofs.Laws.Orders.ExchangeLaws.{is_of, open_of, traded_of, seller, buyer, Exchanged}

-- a match as a fill
abbrev pub fill_of : Match → Fill
fill_of d = record { order = d.order; amount = d.quantity }

abbrev pub fills_of : List Match → List Fill
fills_of ms = map fill_of ms

pub matches_fill : (ms : List Match) (os : List Order) → after_matches ms os ≡ after_fills (fills_of ms) os
unfolding after_matches after_fills
matches_fill [] os = refl
matches_fill (d ∷ ms) os = matches_fill ms _

-- what holds of each order that is met, and of each two
matched_each : (P : Order → Type 0) (q : ℕ) (cs : List Order) → Each P cs → Each (λ f. P f.order) (fills_of (matches q cs))
unfolding matches
matched_each P q [] e = tt
matched_each P q (o ∷ cs) e =
    let ih = matched_each P (q - min q o.quantity) cs e.1 in
    cond_case (λ (l : List Match). Each (λ f. P f.order) (fills_of l)) (eqb q 0) [] _ (λ _. tt) (λ _. (e.0, ih))

matched_fit : (q : ℕ) (cs : List Order) → Each Fits (fills_of (matches q cs))
unfolding matches
matched_fit q [] = tt
matched_fit q (o ∷ cs) =
    let ih = matched_fit (q - min q o.quantity) cs in
    cond_case (λ (l : List Match). Each Fits (fills_of l)) (eqb q 0) [] _ (λ _. tt) (λ _. (omega arith, ih))

matched_pairs : (R : Order → Order → Type 0) (q : ℕ) (cs : List Order) → Pairs R cs → Pairs (λ f h. R f.order h.order) (fills_of (matches q cs))
unfolding matches
matched_pairs R q [] p = tt
matched_pairs R q (o ∷ cs) p =
    let ih = matched_pairs R (q - min q o.quantity) cs p.1 in
    let x = matched_each (R o) (q - min q o.quantity) cs p.0 in
    cond_case (λ (l : List Match). Pairs (λ f h. R f.order h.order) (fills_of l)) (eqb q 0) [] _ (λ _. tt) (λ _. (x, ih))

module _ (i : Order) (os : List Order) where
  abbrev met : List Match
  met = matches i.quantity (counterparts i os)

  met_each : (P : Order → Type 0) → ((o : Order) → candidate i o ≡ true → P o) → Each (λ f. P f.order) (fills_of met)
  unfolding counterparts
  met_each P h =
      matched_each P i.quantity (counterparts i os)
      (laid_each (ahead_for i) P (keep (candidate i) os) (each_map (λ o. candidate i o ≡ true) P (keep (candidate i) os) h (kept (candidate i) os)))

  pub met_due : Numbered os → Due (fills_of met) os
  unfolding counterparts
  met_due n =
      record {
        stand = matched_each (λ o. Has o os) i.quantity (counterparts i os)
            (laid_each (ahead_for i) (λ o. Has o os) (keep (candidate i) os) (each_keep (λ o. Has o os) (candidate i) os (has_self os)));
        fit = matched_fit i.quantity (counterparts i os);
        apart =
            matched_pairs Apart i.quantity (counterparts i os)
            (laid_pairs (ahead_for i) Apart (λ a b h e. h (sym e)) (keep (candidate i) os)
            (pairs_keep Apart (candidate i) os (pairs_map (λ a b. a.number < b.number) Apart os (λ a b l e. omega arith) n)));
      }

  -- what is open under a test that does not look at quantities falls by what is taken
  met_open : Numbered os → (g : Order → Bool) → ((o : Order) (q : ℕ) → g (leaving o q) ≡ g o)
      → sum_of (λ (o : Order). cond (g o) o.quantity 0) (meet i os).orders + sum_of (λ (f : Fill). cond (g f.order) f.amount 0) (fills_of met)
      ≡ sum_of (λ (o : Order). cond (g o) o.quantity 0) os
  unfolding meet
  met_open n g still =
      let a = after_open g still (fills_of met) os n (met_due n) in
      let b = keep-sum (λ o. o.quantity) g (after_fills (fills_of met) os) in
      let c = keep-sum (λ f. f.amount) (λ f. g f.order) (fills_of met) in
      let d = keep-sum (λ o. o.quantity) g os in
      rw (matches_fill met os) (omega arith)

-- a sum over rows is one over matches
rows_fills : (i : Order) (P : Order → Type 0) (w : Row → ℕ) (k : Fill → ℕ) → ((d : Match) → P d.order → w (match_row i d) ≡ k (fill_of d))
    → (ms : List Match) → Each (λ f. P f.order) (fills_of ms) → sum_of w (map (match_row i) ms) ≡ sum_of k (fills_of ms)
rows_fills i P w k h [] e = refl
rows_fills i P w k h (d ∷ ms) e = ap₂ (λ (a b : ℕ). a + b) (h d e.0) (rows_fills i P w k h ms e.1)

-- what a row takes from a match: its quantity, the period, and one party
pub record Books (i : Order) (party : Row → ℕ) (unit : ℕ) (d : Match) : Type 0 where
  pub names : party (match_row i d) ≡ unit
  pub period : (match_row i d).period ≡ i.period
  pub quantity : (match_row i d).quantity ≡ d.quantity

candidate_period : (i o : Order) → candidate i o ≡ true → o.period ≡ i.period
unfolding candidate
candidate_period i o e = eqb-true _ _ (and_left (eqb o.period i.period) _ e)

candidate_sale : (i o : Order) → buys i.direction ≡ true → candidate i o ≡ true → o.direction ≡ 0
unfolding candidate
candidate_sale i o b e =
    let h = rw b at (and_right (eqb o.period i.period) _ e) in
    eqb-true _ _ (and_left (sells o.direction) (leb o.price i.price) h)

candidate_buy : (i o : Order) → buys i.direction ≡ false → candidate i o ≡ true → o.direction ≡ 1
unfolding candidate
candidate_buy i o b e =
    let h = rw b at (and_right (eqb o.period i.period) _ e) in
    let k = and_right (sells i.direction) (buys o.direction && leb i.price o.price) h in
    eqb-true _ _ (and_left (buys o.direction) (leb i.price o.price) k)

module _ (i : Order) (d : Match) where
  buy_books : buys i.direction ≡ true → Books i seller d.order.unit d × Books i buyer i.unit d
  unfolding match_row
  buy_books b = (record { names = rw b; period = rw b; quantity = rw b }, record { names = rw b; period = rw b; quantity = rw b })

  sale_books : buys i.direction ≡ false → Books i buyer d.order.unit d × Books i seller i.unit d
  unfolding match_row
  sale_books b = (record { names = rw b; period = rw b; quantity = rw b }, record { names = rw b; period = rw b; quantity = rw b })

own-rows : (i : Order) (party : Row → ℕ) (u p : ℕ) → ((d : Match) → Books i party i.unit d) → (ms : List Match)
    → Each (λ (r : Row). cond (eqb (party r) u && eqb r.period p) r.quantity 0
    ≡ cond (eqb i.unit u && eqb i.period p) r.quantity 0) (map (match_row i) ms)
own-rows i party u p h [] = tt
own-rows i party u p h (d ∷ ms) = (rw ((h d).names, (h d).period), own-rows i party u p h ms)

-- one side of the orders and of the rows, with the incoming order as it came and as it is left
module _ (i : Order) (os : List Order) (n : Numbered os) (f : ℕ → Bool) (party : Row → ℕ) (u p : ℕ) where
  abbrev Side : Type 0
  Side = open_of f u p (meet i os).orders + cond (is_of f u p i) (meet i os).left 0 + traded_of party u p (meet i os).rows
      ≡ open_of f u p os + cond (is_of f u p i) i.quantity 0

  never : (a b c : Bool) → c ≡ false → (a && b && c) ≡ false
  never true true c e = e
  never true false c e = refl
  never false b c e = refl

  always : (a b c : Bool) → c ≡ true → (a && b) ≡ (a && b && c)
  always true true c e = sym e
  always true false c e = refl
  always false b c e = refl

  -- the side of the waiting orders
  waiting-side : f i.direction ≡ false → ((d : Match) → Books i party d.order.unit d)
      → ((o : Order) → candidate i o ≡ true → f o.direction ≡ true) → Side
  unfolding meet
  waiting-side out h k =
      let a = met_open i os n (is_of f u p) (λ o q. refl) in
      let t : traded_of party u p (map (match_row i) (met i os)) ≡ sum_of (λ (x : Fill). cond (is_of f u p x.order) x.amount 0) (fills_of (met i os)) =
      rows_fills i (λ o. candidate i o ≡ true) (λ (r : Row). cond (eqb (party r) u && eqb r.period p) r.quantity 0)
      (λ (x : Fill). cond (is_of f u p x.order) x.amount 0) same
      (met i os) (met_each i os (λ o. candidate i o ≡ true) (λ o c. c)) in
      rw (never (eqb i.unit u) (eqb i.period p) (f i.direction) out, t) (omega arith)
    where
      same : (d : Match) → candidate i d.order ≡ true → cond (eqb (party (match_row i d)) u && eqb (match_row i d).period p) (match_row i d).quantity 0
          ≡ cond (is_of f u p d.order) d.quantity 0
      same d c =
          let b = h d in
          rw (b.names, b.period, b.quantity, ← candidate_period i d.order c)
          (ap (λ (t : Bool). cond t d.quantity 0) (always (eqb d.order.unit u) (eqb d.order.period p) (f d.order.direction)
          (k d.order c)))

  -- the incoming order's own side
  incoming-side : f i.direction ≡ true → ((d : Match) → Books i party i.unit d) → ((o : Order) → candidate i o ≡ true → f o.direction ≡ false)
      → Side
  unfolding meet
  incoming-side own h k =
      let a = met_open i os n (is_of f u p) (λ o q. refl) in
      let z : sum_of (λ (x : Fill). cond (is_of f u p x.order) x.amount 0) (fills_of (met i os)) ≡ 0 =
      sum_of-zero (λ (x : Fill). cond (is_of f u p x.order) x.amount 0) (fills_of (met i os))
      (each_map (λ x. is_of f u p x.order ≡ false) (λ (x : Fill). cond (is_of f u p x.order) x.amount 0 ≡ 0) (fills_of (met i os)) (λ x e. rw e)
      (met_each i os (λ o. is_of f u p o ≡ false) (λ o c. never (eqb o.unit u) (eqb o.period p) (f o.direction) (k o c)))) in
      rw (← always (eqb i.unit u) (eqb i.period p) (f i.direction) own, all-rows (met i os))
      (join (eqb i.unit u && eqb i.period p) (sum_of (λ r. r.quantity) (map (match_row i) (met i os))) (meet i os).left i.quantity _ _
      (omega arith) (traded_and_left i os))
    where
      all-rows : (ms : List Match) → traded_of party u p (map (match_row i) ms)
          ≡ cond (eqb i.unit u && eqb i.period p) (sum_of (λ r. r.quantity) (map (match_row i) ms)) 0
      all-rows ms =
          let rs = map (match_row i) ms in
          sum_of_ext (λ (r : Row). cond (eqb (party r) u && eqb r.period p) r.quantity 0) (λ (r : Row). cond (eqb i.unit u
          && eqb i.period p) r.quantity 0) rs (own-rows i party u p h ms)
          ∙ sum_of_when (eqb i.unit u && eqb i.period p) (λ (r : Row). r.quantity) rs

      join : (c : Bool) (s l q x y : ℕ) → x ≡ y → s + l ≡ q → x + cond c l 0 + cond c s 0 ≡ y + cond c q 0
      join true s l q x y e z = omega arith
      join false s l q x y e z = omega arith

-- w is what waits of the incoming order: with it, all orders lose what the rows trade
pub met_exchanged : (i : Order) (os w : List Order) → rising (numbers os) ≡ true → i.direction ≤ 1
    → ((f : ℕ → Bool) (u p : ℕ) → open_of f u p w ≡ cond (is_of f u p i) (meet i os).left 0)
    → Exchanged (os ++ (i ∷ [])) ((meet i os).orders ++ w) (meet i os).rows
met_exchanged i os w rises le left = go (ℕ_discrete i.direction 1)
  where
    n : Numbered os
    n = rising-numbered os rises

    whole : (f : ℕ → Bool) (party : Row → ℕ) (u p : ℕ) → Side i os n f party u p
        → open_of f u p ((meet i os).orders ++ w) + traded_of party u p (meet i os).rows ≡ open_of f u p (os ++ (i ∷ []))
    whole f party u p s =
        let a = sum_of_append (λ (o : Order). cond (is_of f u p o) o.quantity 0) (meet i os).orders w in
        let b = sum_of_append (λ (o : Order). cond (is_of f u p o) o.quantity 0) os (i ∷ []) in
        let l = left f u p in
        omega arith

    go : Dec (i.direction ≡ 1) → Exchanged (os ++ (i ∷ [])) ((meet i os).orders ++ w) (meet i os).rows
    go (yes e) =
        let t : buys i.direction ≡ true = eq-eqb _ _ e in
        let z : sells i.direction ≡ false = ne_eqb i.direction 0 (omega arith) in
        record {
          sold = λ u p. whole sells seller u p (waiting-side i os n sells seller u p z (λ d. (buy_books i d t).0)
              (λ o c. eq-eqb _ _ (candidate_sale i o t c)));
          bought = λ u p. whole buys buyer u p (incoming-side i os n buys buyer u p t (λ d. (buy_books i d t).1)
              (λ o c. let s = candidate_sale i o t c in ne_eqb o.direction 1 (omega arith)));
        }
    go (no e) =
        let t : buys i.direction ≡ false = ne_eqb _ _ e in
        let z : sells i.direction ≡ true = eq-eqb i.direction 0 (omega arith) in
        record {
          sold = λ u p. whole sells seller u p (incoming-side i os n sells seller u p z (λ d. (sale_books i d t).1)
              (λ o c. let s = candidate_buy i o t c in ne_eqb o.direction 0 (omega arith)));
          bought = λ u p. whole buys buyer u p (waiting-side i os n buys buyer u p t (λ d. (sale_books i d t).0)
              (λ o c. eq-eqb _ _ (candidate_buy i o t c)));
        }
