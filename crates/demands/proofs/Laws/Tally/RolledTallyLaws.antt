-- The tally takes off open orders what rolling matching takes off them.
use Prim.Native.Nat.{ℕ, zero, suc, ◌-◌, ◌≤◌, ◌<◌, min}
use mathlib.Core.Path.{◌≡◌, refl, sym, ap, ◌∙◌}
use mathlib.Core.Bool.{Bool, true, false, cond, ◌&&◌}
use mathlib.Core.List.{List, [], ◌∷◌, map}
use native.Mathlib.Omega.{arith}
use native.Mathlib.Decide.{ℕ_discrete, dec_lt}
use borrow.Author.Tests.{eqb-true, eq-eqb}
use lib.ListN.{length, get_or}
use lib.Dec.{eqb, leb}
use Rattle.measures.proofs.ListLaws.{both_ways, and_left}
use Rattle.matching.specs.Orders.{Order as OpenOrder, sells, buys, lessen, rising, numbers}
use Rattle.matching.specs.Memory.{no_order}
use Rattle.matching.specs.Rolling.{candidate, counterparts, Match, matches, match_row, after_matches}
use Rattle.measures.specs.Lists.{Each, Has}
use Rattle.matching.proofs.Laws.Lists.EachLaws.{each_map, each_both, has_each, has_self}
use Rattle.matching.proofs.Laws.Rolling.CounterpartLaws.{without, best, Picked, none, some, picked}
use Rattle.matching.proofs.Laws.Orders.LessenLaws.{rising-numbered}
use Rattle.matching.proofs.Laws.Orders.TakeOffLaws.{lessen_gone, lessen_rises}
use Rattle.matching.proofs.Laws.Rolling.MeetingLaws.{match, matches_none, matches_spent, matches-more}
use Rattle.book.specs.Sound.{one_direction}
use Rattle.demands.specs.Tally.{order_lessened, other_unit, order_tallied}
use Rattle.demands.proofs.Laws.Tally.StandingLaws.{OneDirections}
use Rattle.demands.proofs.Laws.Tally.MatchTallyLaws.{alike, first_lessened, counterparts_each, counterparts_are, laid_lowest}

-- orders as a sound book has them
pub record Lined (os : List OpenOrder) : Type 0 where
  pub rises : rising (numbers os) ≡ true
  pub some : Each (λ (o : OpenOrder). 0 < o.quantity) os
  pub one_directions : OneDirections os

without_each : (P : OpenOrder → Type 0) (b : ℕ) (os : List OpenOrder) → Each P os → Each P (without b os)
unfolding without
without_each P b [] e = tt
without_each P zero (o ∷ os) e = e.1
without_each P (suc b) (o ∷ os) e = (e.0, without_each P b os e.1)

-- all go one way with a
abbrev Goes : OpenOrder → List OpenOrder → Type 0
Goes a os = Each (λ (o : OpenOrder). one_direction a o ≡ true) os

lined_without : (os : List OpenOrder) (b : ℕ) → b < length os → Lined os → Lined (without b os)
lined_without os b l h =
    record {
      rises = rw (← lessen_gone os b (get_or os b no_order).quantity h.rises l (omega arith))
          (lessen_rises (get_or os b no_order).number (get_or os b no_order).quantity os h.rises);
      some = without_each (λ (o : OpenOrder). 0 < o.quantity) b os h.some;
      one_directions =
          without_each (λ (a : OpenOrder). Goes a (without b os)) b os
          (each_map (λ (a : OpenOrder). Goes a os) (λ (a : OpenOrder). Goes a (without b os)) os (λ a e. without_each (λ (o : OpenOrder). one_direction a o
          ≡ true) b os e) h.one_directions);
    }

-- what a match's row says
pub record RowOf (i : OpenOrder) (m : Match) : Type 0 where
  pub other : other_unit i.direction (match_row i m) ≡ m.order.unit
  pub period : (match_row i m).period ≡ i.period
  pub price : (match_row i m).price ≡ m.order.price
  pub quantity : (match_row i m).quantity ≡ m.quantity

pub row_of : (i : OpenOrder) (m : Match) → RowOf i m
unfolding match_row
row_of i m = go (buys i.direction) refl
  where
    go : (b : Bool) → buys i.direction ≡ b → RowOf i m
    go true e = record { other = rw e; period = rw e; price = rw e; quantity = rw e }
    go false e = record { other = rw e; period = rw e; price = rw e; quantity = rw e }

-- orders of one unit and period go one way, so those alike are candidates alike
alike-parts : (c o : OpenOrder) → alike c o ≡ true → (o.unit ≡ c.unit) × (o.period ≡ c.period) × (o.price ≡ c.price)
alike-parts c o e = go (eqb o.unit c.unit) (eqb o.period c.period) (eqb o.price c.price) refl refl refl e
  where
    go : (x y z : Bool) → eqb o.unit c.unit ≡ x → eqb o.period c.period ≡ y → eqb o.price c.price ≡ z → (x && y && z) ≡ true
        → (o.unit ≡ c.unit) × (o.period ≡ c.period) × (o.price ≡ c.price)
    go true true true f g h k = (eqb-true _ _ f, eqb-true _ _ g, eqb-true _ _ h)
    go true true false f g h k = both_ways (sym k)
    go true false z f g h k = both_ways (sym k)
    go false y z f g h k = both_ways (sym k)

same_direction : (c o : OpenOrder) → one_direction c o ≡ true → c.unit ≡ o.unit → c.period ≡ o.period → c.direction ≡ o.direction
same_direction c o e u p = eqb-true c.direction o.direction (rw (eq-eqb c.unit o.unit u, eq-eqb c.period o.period p) at e)

candidate_same : (i c o : OpenOrder) → o.period ≡ c.period → o.direction ≡ c.direction → o.price ≡ c.price → candidate i c ≡ true → candidate i o
    ≡ true
unfolding candidate
candidate_same i c o p d q e = rw (p, d, q) e

candidate_period : (i c : OpenOrder) → candidate i c ≡ true → c.period ≡ i.period
unfolding candidate
candidate_period i c e =
    eqb-true c.period i.period
    (and_left (eqb c.period i.period) (cond (buys i.direction) (sells c.direction && leb c.price i.price) (sells i.direction
    && (buys c.direction && leb i.price c.price))) e)

module _ (i c : OpenOrder) (cs os : List OpenOrder) (h : Lined os) (e : counterparts i os ≡ c ∷ cs) where
  first_has : Has c os
  first_has = let t = rw e at (counterparts_each i (λ (o : OpenOrder). Has o os) os (has_self os)) in t.0

  first_is : candidate i c ≡ true
  first_is = let t = rw e at (counterparts_are i os) in t.0

  first-low : Each (λ (o : OpenOrder). alike c o ≡ true → c.number ≤ o.number) os
  first-low =
      each_both (λ (o : OpenOrder). one_direction c o ≡ true) (λ (o : OpenOrder). candidate i o ≡ true → o.price ≡ c.price → c.number
      ≤ o.number) (λ (o : OpenOrder). alike c o ≡ true → c.number ≤ o.number) os
      (λ o w l k.
      let p = alike-parts c o k in
      l (candidate_same i c o p.1 (sym (same_direction c o w (sym p.0) (sym p.1))) p.2 first_is) p.2)
      (has_each (λ (a : OpenOrder). Goes a os) os c h.one_directions first_has)
      (laid_lowest i c cs os e)

  first_off : (x : ℕ) → x ≤ c.quantity → order_lessened (other_unit i.direction (match_row i (match c x))) (match_row i (match c x)).period
      (match_row i (match c x)).price (match_row i (match c x)).quantity os ≡ lessen c.number x os
  first_off x l =
      let r = row_of i (match c x) in
      rw (r.other, r.period, r.price, r.quantity, ← candidate_period i c first_is)
      (first_lessened c x os l (rising-numbered os h.rises) h.some first_has first-low)

-- the tally takes off the orders what matching takes off them
abbrev pub Same : OpenOrder → List OpenOrder → ℕ → List OpenOrder → Type 0
Same i cs q os = order_tallied i.direction (map (match_row i) (matches q cs)) os ≡ after_matches (matches q cs) os

pub rolled : (i : OpenOrder) (cs os : List OpenOrder) (q : ℕ) → counterparts i os ≡ cs → Lined os → Same i cs q os
unfolding order_tallied after_matches
rolled i [] os q e h = rw (matches_none q)
rolled i (c ∷ cs) os q e h = go (λ os' q' f k. rolled i cs os' q' f k) (ℕ_discrete q 0)
  where
    x : ℕ
    x = min q c.quantity

    after : List OpenOrder
    after = lessen c.number x os

    Rest : Type 0
    Rest = (os' : List OpenOrder) (q' : ℕ) → counterparts i os' ≡ cs → Lined os' → Same i cs q' os'

    gone : Rest → (c.quantity ≤ x) → (b : ℕ) → Picked i os b → Same i cs (q - x) after
    gone ih l b (none k f) = let z : ◌≡◌ {A = ℕ} 0 1 = cc in absurd (omega arith)
    gone ih l b (some k f) =
        let s : c ∷ cs ≡ get_or os b no_order ∷ counterparts i (without b os) = sym e ∙ f in
        let p : c ≡ get_or os b no_order = cc in
        let r : counterparts i (without b os) ≡ cs = cc in
        let v : c.quantity ≡ (get_or os b no_order).quantity = ap (λ (y : OpenOrder). y.quantity) p in
        let u : (get_or os b no_order).quantity ≤ x = omega arith in
        let w : after ≡ without b os = ap (λ (y : OpenOrder). lessen y.number x os) p ∙ lessen_gone os b x h.rises k u in
        rw w (ih (without b os) (q - x) r (lined_without os b k h))

    rest : Rest → Dec (x < c.quantity) → Same i cs (q - x) after
    rest ih (yes l) = rw (matches_spent (q - x) cs (omega arith))
    rest ih (no l) = gone ih (omega arith) (best i os) (picked i os)

    go : Rest → Dec (q ≡ 0) → Same i (c ∷ cs) q os
    go ih (yes z) = rw (matches_spent q (c ∷ cs) z)
    go ih (no n) =
        rw (matches-more q c cs n)
        (ap (order_tallied i.direction (map (match_row i) (matches (q - x) cs))) (first_off i c cs os h e x (omega arith))
        ∙ rest ih (dec_lt x c.quantity))
