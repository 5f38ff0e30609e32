-- Rolling matching in the trade's words: what an incoming order can rely on, and those who wait.
use Prim.Native.Nat.{ℕ, zero, suc, ◌+◌, ◌-◌, ◌<◌, ◌≤◌, min}
use mathlib.Core.Path.{◌≡◌, refl, sym, ap, ◌∙◌}
use mathlib.Core.Logic.{◌⊎◌, inl, inr}
use mathlib.Core.Bool.{Bool, true, false, cond, ◌&&◌}
use mathlib.Core.List.{List, [], ◌∷◌, map}
use native.Mathlib.Omega.{arith}
use borrow.Author.Tests.{eqb-true, eqb-false, leb-true, ltb-false, eq-eqb, ne_eqb}
use lib.ListN.{length, get_or}
use lib.Dec.{eqb, leb, ltb}
use Rattle.measures.specs.Lists.{Each, Has, sum_of, keep}
use Rattle.measures.proofs.ListLaws.{cond_case, and_left, and_right, or_neither}
use Rattle.matching.specs.Orders.{Order, Row, buys, sells, lessen, rising, numbers, quantities, bid_ahead, ask_ahead, laid}
use Rattle.matching.specs.Memory.{no_order}
use Rattle.matching.specs.Rolling.{Match, candidate, ahead_for, counterparts, matches, match_row, after_matches, meet}
use Rattle.matching.proofs.Laws.Lists.EachLaws.{Pairs, each_both, each_keep, kept, has_self}
use Rattle.matching.proofs.Laws.Orders.LaidLaws.{laid-length, laid_each, laid_sorted}
use Rattle.matching.proofs.Laws.Orders.AheadLaws.{ask_one, bid_one, ask_far, bid_far}
use Rattle.matching.proofs.Laws.Rolling.CounterpartLaws.{Picked, none, some, best, picked}
use Rattle.matching.proofs.Laws.Orders.TakeOffLaws.{lessen_rises}
use Rattle.matching.proofs.Laws.Rolling.MeetingLaws.{match, matches_none, matched, matched_after, matched_length}

-- one match and the rest, or none
matches_case : (P : List Match → Type 0) (q : ℕ) (o : Order) (cs : List Order)
    → (q ≡ 0 → P []) → ((q ≡ 0 → ⊥) → P (match o (min q o.quantity) ∷ matches (q - min q o.quantity) cs)) → P (matches q (o ∷ cs))
unfolding matches
matches_case P q o cs h k = cond_case P (eqb q 0) [] _ (λ e. h (eqb-true q 0 e)) (λ e. k (eqb-false q 0 e))

-- no match takes more than the order has
pub matches_within : (q : ℕ) (cs : List Order) → Each (λ d. d.quantity ≤ d.order.quantity) (matches q cs)
unfolding matches
matches_within q [] = tt
matches_within q (o ∷ cs) =
    matches_case (Each (λ d. d.quantity ≤ d.order.quantity)) q o cs (λ e. tt)
    (λ ne. (omega arith, matches_within (q - min q o.quantity) cs))

-- all together take what there is, and no more than the incoming order has
pub matches-total : (q : ℕ) (cs : List Order) → sum_of (λ d. d.quantity) (matches q cs) ≡ min q (quantities cs)
unfolding matches
matches-total q [] = omega arith
matches-total q (o ∷ cs) =
    matches_case (λ (ms : List Match). sum_of (λ d. d.quantity) ms ≡ min q (o.quantity + quantities cs)) q o cs (λ e. omega arith)
    (λ ne. let t = matches-total (q - min q o.quantity) cs in omega arith)

row_quantity : (i : Order) (d : Match) → (match_row i d).quantity ≡ d.quantity
unfolding match_row
row_quantity i d = cond_case (λ (r : Row). r.quantity ≡ d.quantity) (buys i.direction) _ _ (λ e. refl) (λ e. refl)

rows-sum : (i : Order) (ms : List Match) → sum_of (λ r. r.quantity) (map (match_row i) ms) ≡ sum_of (λ d. d.quantity) ms
rows-sum i [] = refl
rows-sum i (d ∷ ms) = let t = rows-sum i ms in omega (arith, row_quantity i d)

-- what is traded and what is left make the incoming quantity
pub traded_and_left : (i : Order) (os : List Order) → sum_of (λ r. r.quantity) (meet i os).rows + (meet i os).left ≡ i.quantity
unfolding meet
traded_and_left i os =
    let ms = matches i.quantity (counterparts i os) in
    omega (arith, rows-sum i ms, matches-total i.quantity (counterparts i os))

-- what holds of each order that is met holds of each match
matches_each : (P : Order → Type 0) (q : ℕ) (cs : List Order) → Each P cs → Each (λ d. P d.order) (matches q cs)
unfolding matches
matches_each P q [] e = tt
matches_each P q (o ∷ cs) e =
    matches_case (Each (λ d. P d.order)) q o cs (λ z. tt)
    (λ ne. (e.0, matches_each P (q - min q o.quantity) cs e.1))

rows_each : (i : Order) (P : Match → Type 0) (Q : Row → Type 0) (ms : List Match) → ((d : Match) → P d → Q (match_row i d)) → Each P ms
    → Each Q (map (match_row i) ms)
rows_each i P Q [] h e = tt
rows_each i P Q (d ∷ ms) h e = (h d e.0, rows_each i P Q ms h e.1)

-- an order that is met stands among the waiting ones, and is a candidate
abbrev Counterpart : Order → List Order → Order → Type 0
Counterpart i os o = (candidate i o ≡ true) × Has o os

counterparts-met : (i : Order) (os : List Order) → Each (Counterpart i os) (counterparts i os)
unfolding counterparts
counterparts-met i os =
    laid_each (ahead_for i) (Counterpart i os) (keep (candidate i) os)
    (each_both (λ o. candidate i o ≡ true) (λ o. Has o os) (Counterpart i os) (keep (candidate i) os) (λ o c h. (c, h))
    (kept (candidate i) os) (each_keep (λ o. Has o os) (candidate i) os (has_self os)))

-- where each waiting order has something open, each row trades something
positive : (q : ℕ) (cs : List Order) → Each (λ o. 0 < o.quantity) cs → Each (λ d. 0 < d.quantity) (matches q cs)
unfolding matches
positive q [] e = tt
positive q (o ∷ cs) e =
    let h = e.0 in
    matches_case (Each (λ d. 0 < d.quantity)) q o cs (λ z. tt)
    (λ ne. (omega arith, positive (q - min q o.quantity) cs e.1))

pub rows_positive : (i : Order) (os : List Order) → Each (λ o. 0 < o.quantity) os → Each (λ r. 0 < r.quantity) (meet i os).rows
unfolding meet counterparts
rows_positive i os e =
    let cs = keep (candidate i) os in
    rows_each i (λ d. 0 < d.quantity) (λ r. 0 < r.quantity) (matches i.quantity (laid (ahead_for i) cs)) (λ d h. omega (arith, row_quantity i d))
    (positive i.quantity (laid (ahead_for i) cs) (laid_each (ahead_for i) (λ o. 0 < o.quantity) cs (each_keep (λ o. 0 < o.quantity) (candidate i) os e)))

-- a waiting order and the incoming one: opposite, of one period, and the buyer pays at least what the seller asks
pub record Opposite (sale buy : Order) : Type 0 where
  pub sells : sale.direction ≡ 0
  pub buys : buy.direction ≡ 1
  pub period : sale.period ≡ buy.period
  pub cross : sale.price ≤ buy.price

buy_meets : (i o : Order) → buys i.direction ≡ true → candidate i o ≡ true → Opposite o i
unfolding candidate
buy_meets i o b e =
    let h = rw b at (and_right (eqb o.period i.period) _ e) in
    record {
      sells = eqb-true o.direction 0 (and_left (sells o.direction) (leb o.price i.price) h);
      buys = eqb-true i.direction 1 b;
      period = eqb-true o.period i.period (and_left (eqb o.period i.period) _ e);
      cross = leb-true o.price i.price (and_right (sells o.direction) (leb o.price i.price) h);
    }

sale_meets : (i o : Order) → buys i.direction ≡ false → candidate i o ≡ true → Opposite i o
unfolding candidate
sale_meets i o b e =
    let h = rw b at (and_right (eqb o.period i.period) _ e) in
    let k = and_right (sells i.direction) (buys o.direction && leb i.price o.price) h in
    record {
      sells = eqb-true i.direction 0 (and_left (sells i.direction) (buys o.direction && leb i.price o.price) h);
      buys = eqb-true o.direction 1 (and_left (buys o.direction) (leb i.price o.price) k);
      period = sym (eqb-true o.period i.period (and_left (eqb o.period i.period) _ e));
      cross = leb-true i.price o.price (and_right (buys o.direction) (leb i.price o.price) k);
    }

-- a row's seller comes from the selling side and its buyer from the buying side; one of them is the incoming order, the
-- other waited, and the price is the waiting one's
pub record Sides (i : Order) (os : List Order) (r : Row) : Type 0 where
  pub waiting : Order
  pub waits : Has waiting os
  pub sale : Order
  pub buy : Order
  pub opposite : Opposite sale buy
  pub incoming : ((sale ≡ waiting) × (buy ≡ i)) ⊎ ((sale ≡ i) × (buy ≡ waiting))
  pub seller : r.seller ≡ sale.unit
  pub buyer : r.buyer ≡ buy.unit
  pub period : r.period ≡ i.period
  pub price : r.price ≡ waiting.price

sides : (i : Order) (os : List Order) (d : Match) → Counterpart i os d.order → Sides i os (match_row i d)
unfolding match_row
sides i os d m =
    cond_case (Sides i os) (buys i.direction) _ _
    (λ b. record {
      waiting = d.order;
      waits = m.1;
      sale = d.order;
      buy = i;
      opposite = buy_meets i d.order b m.0;
      incoming = inl
          (refl, refl);
      seller = refl;
      buyer = refl;
      period = refl;
      price = refl;
    })
    (λ b. record {
      waiting = d.order;
      waits = m.1;
      sale = i;
      buy = d.order;
      opposite = sale_meets i d.order b m.0;
      incoming = inr
          (refl, refl);
      seller = refl;
      buyer = refl;
      period = refl;
      price = refl;
    })

pub row_sides : (i : Order) (os : List Order) → Each (Sides i os) (meet i os).rows
unfolding meet
row_sides i os =
    rows_each i (λ d. Counterpart i os d.order) (Sides i os) (matches i.quantity (counterparts i os)) (sides i os)
    (matches_each (Counterpart i os) i.quantity (counterparts i os) (counterparts-met i os))

-- the price lies between what is asked and what is bid
pub price-between : (i : Order) (os : List Order) (r : Row) (s : Sides i os r) → (s.sale.price ≤ r.price) × (r.price ≤ s.buy.price)
price-between i os r s = go s.incoming
  where
    go : ((s.sale ≡ s.waiting) × (s.buy ≡ i)) ⊎ ((s.sale ≡ i) × (s.buy ≡ s.waiting)) → (s.sale.price ≤ r.price) × (r.price ≤ s.buy.price)
    go (inl h) =
        let e : s.sale.price ≡ r.price = ap (λ (o : Order). o.price) h.0 ∙ sym s.price in
        omega (arith, s.opposite.cross)
    go (inr h) =
        let e : s.buy.price ≡ r.price = ap (λ (o : Order). o.price) h.1 ∙ sym s.price in
        omega (arith, s.opposite.cross)

-- where nothing is laid, there is no candidate
none_kept : (f : Order → Bool) (os : List Order) → length (keep f os) ≡ 0 → Each (λ o. f o ≡ false) os
none_kept f [] e = tt
none_kept f (o ∷ os) e = go (f o) refl (λ h. none_kept f os h) e
  where
    go : (b : Bool) → f o ≡ b → (length (keep f os) ≡ 0 → Each (λ o. f o ≡ false) os) → length (cond b (o ∷ keep f os) (keep f os)) ≡ 0 → (f o ≡ false)
        × Each (λ o. f o ≡ false) os
    go true h ih z = absurd (omega arith)
    go false h ih z = (h, ih z)

no_counterpart : (i : Order) (os : List Order) → counterparts i os ≡ [] → Each (λ o. candidate i o ≡ false) os
unfolding counterparts
no_counterpart i os e = none_kept (candidate i) os (sym (laid-length (ahead_for i) (keep (candidate i) os)) ∙ ap length e)

-- if some of the incoming order is left, no order left over is a candidate for it
crosses_none : (f : ℕ) (i : Order) (os : List Order) (q : ℕ) → q + length os ≤ f → rising (numbers os) ≡ true
    → sum_of (λ d. d.quantity) (matches q (counterparts i os)) < q → Each (λ o. candidate i o ≡ false) (after_matches (matches q (counterparts i os)) os)
unfolding after_matches
crosses_none zero i os q b rises l = absurd (omega arith)
crosses_none (suc f) i os q b rises l = go (λ os'' q'' c r k. crosses_none f i os'' q'' c r k) (picked i os)
  where
    Left : List Order → ℕ → Type 0
    Left y p = Each (λ o. candidate i o ≡ false) (after_matches (matches p (counterparts i y)) y)

    x : ℕ
    x = min q (get_or os (best i os) no_order).quantity

    os' : List Order
    os' = lessen (get_or os (best i os) no_order).number x os

    go : ((y : List Order) (p : ℕ) → p + length y ≤ f → rising (numbers y) ≡ true → sum_of (λ d. d.quantity) (matches p (counterparts i y)) < p → Left y p)
        → Picked i os (best i os) → Left os q
    go ih (none e h) = rw (h, matches_none q) (no_counterpart i os h)
    go ih (some u h) =
        let ne : (q ≡ 0 → ⊥) = omega arith in
        let t = matched_length i os os' q (best i os) x ne rises u refl refl refl in
        let s : sum_of (λ d. d.quantity) (matches q (counterparts i os)) ≡ x + sum_of (λ d. d.quantity) (matches (q - x) (counterparts i os')) =
        ap (λ (ms : List Match). sum_of (λ d. d.quantity) ms) (matched i os os' q (best i os) x ne rises u refl refl refl) in
        rw (matched_after i os os' q (best i os) x ne rises u refl refl refl)
        (ih os' (q - x) (omega arith) (lessen_rises (get_or os (best i os) no_order).number x os rises) (omega arith))

pub nothing_crosses_after : (i : Order) (os : List Order) → rising (numbers os) ≡ true → 0 < (meet i os).left
    → Each (λ o. candidate i o ≡ false) (meet i os).orders
unfolding meet
nothing_crosses_after i os rises l = crosses_none (i.quantity + length os) i os i.quantity (omega arith) rises (omega arith)

-- "best price first, then lowest number": no later counterpart stands ahead of an earlier one
pub best-first : (i : Order) (os : List Order) → Pairs (λ a b. ahead_for i b a ≡ false) (counterparts i os)
unfolding counterparts
best-first i os = laid_sorted (ahead_for i) (λ a b. ahead_for i b a ≡ false) one (λ a b e. e) far (keep (candidate i) os)
  where
    one : (a b : Order) → ahead_for i a b ≡ true → ahead_for i b a ≡ false
    one a b = cond_case (λ (g : Order → Order → Bool). g a b ≡ true → g b a
        ≡ false) (buys i.direction) ask_ahead bid_ahead (λ e. ask_one a b) (λ e. bid_one a b)

    far : (a b c : Order) → ahead_for i b a ≡ false → ahead_for i c b ≡ false → ahead_for i c a ≡ false
    far a b c =
        cond_case (λ (g : Order → Order → Bool). g b a ≡ false → g c b ≡ false → g c a ≡ false) (buys i.direction) ask_ahead bid_ahead
        (λ e. ask_far a b c) (λ e. bid_far a b c)

-- an order that does not stand ahead has no better price
ask_dearer : (a b : Order) → ask_ahead b a ≡ false → a.price ≤ b.price
unfolding ask_ahead
ask_dearer a b e = ltb-false b.price a.price (or_neither (ltb b.price a.price) _ e).0

bid_cheaper : (a b : Order) → bid_ahead b a ≡ false → b.price ≤ a.price
unfolding bid_ahead
bid_cheaper a b e = ltb-false a.price b.price (or_neither (ltb a.price b.price) _ e).0

-- so the rows' prices get no better for the incoming order: a buy's never fall, a sale's never rise
matches_pairs : (R : Order → Order → Type 0) (q : ℕ) (cs : List Order) → Pairs R cs → Pairs (λ d e. R d.order e.order) (matches q cs)
unfolding matches
matches_pairs R q [] p = tt
matches_pairs R q (o ∷ cs) p =
    matches_case (Pairs (λ d e. R d.order e.order)) q o cs (λ z. tt)
    (λ ne. (matches_each (R o) (q - min q o.quantity) cs p.0, matches_pairs R (q - min q o.quantity) cs p.1))

rows_pairs : (i : Order) (P : Match → Match → Type 0) (Q : Row → Row → Type 0) (ms : List Match) → ((d e : Match) → P d e → Q (match_row i d) (match_row i e))
    → Pairs P ms → Pairs Q (map (match_row i) ms)
rows_pairs i P Q [] h p = tt
rows_pairs i P Q (d ∷ ms) h p = (rows_each i (P d) (Q (match_row i d)) ms (h d) p.0, rows_pairs i P Q ms h p.1)

row_price : (i : Order) (d : Match) → (match_row i d).price ≡ d.order.price
unfolding match_row
row_price i d = cond_case (λ (r : Row). r.price ≡ d.order.price) (buys i.direction) _ _ (λ e. refl) (λ e. refl)

pub buy_prices_rise : (i : Order) (os : List Order) → i.direction ≡ 1 → Pairs (λ r s. r.price ≤ s.price) (meet i os).rows
unfolding meet
buy_prices_rise i os b =
    rows_pairs i (λ d e. ahead_for i e.order d.order ≡ false) (λ r s. r.price ≤ s.price) (matches i.quantity (counterparts i os)) at
    (matches_pairs (λ x y. ahead_for i y x ≡ false) i.quantity (counterparts i os) (best-first i os))
  where
    at : (d e : Match) → ahead_for i e.order d.order ≡ false → (match_row i d).price ≤ (match_row i e).price
    at d e h =
        let k = ask_dearer d.order e.order (rw (eq-eqb i.direction 1 b) at h) in
        omega (arith, row_price i d, row_price i e)

pub sale_prices_fall : (i : Order) (os : List Order) → (i.direction ≡ 1 → ⊥) → Pairs (λ r s. s.price ≤ r.price) (meet i os).rows
unfolding meet
sale_prices_fall i os b =
    rows_pairs i (λ d e. ahead_for i e.order d.order ≡ false) (λ r s. s.price ≤ r.price) (matches i.quantity (counterparts i os)) at
    (matches_pairs (λ x y. ahead_for i y x ≡ false) i.quantity (counterparts i os) (best-first i os))
  where
    at : (d e : Match) → ahead_for i e.order d.order ≡ false → (match_row i e).price ≤ (match_row i d).price
    at d e h =
        let k = bid_cheaper d.order e.order (rw (ne_eqb i.direction 1 b) at h) in
        omega (arith, row_price i d, row_price i e)
