-- Matching in turn: the matches so far, and those still to come from the runs.
use Prim.Native.Nat.{ℕ, suc, ◌+◌, ◌*◌, ◌-◌, ◌<◌, ◌≤◌, min}
use mathlib.Core.Path.{◌≡◌, refl, sym, ap, ap₂, ◌∙◌}
use mathlib.Core.Bool.{Bool, true, false, cond, ◌&&◌}
use mathlib.Core.List.{List, [], ◌∷◌, ◌++◌, map, append_assoc, append-nil}
use native.Mathlib.Omega.{arith}
use native.Mathlib.Nat.{add-zero}
use native.Mathlib.Numerals.{add-one}
use native.Mathlib.Decide.{ℕ_discrete, dec_lt}
use borrow.Author.Tests.{eq-eqb, ne_eqb, le-leb, lt-leb}
use lib.ListN.{length, get_or, take, drop, set, length-append}
use lib.Seq.{length-take-le, take-suc-set}
use lib.Dec.{eqb, leb, ltb}
use Rattle.std.specs.Prelude.{Option, Some}
use Rattle.measures.specs.Lists.{every, keep, sum_of}
use Rattle.measures.specs.Sharing.{total}
use Rattle.measures.proofs.ListLaws.{both_ways, cond_case, sum_of_append}
use Rattle.matching.specs.Orders.{Order, Row, bid_ahead, ask_ahead, laid, quantities}
use Rattle.matching.specs.Memory.{most_word, order_at, orders_in, written}
use Rattle.matching.specs.Rolling.{Match, candidate, ahead_for, counterparts, matches, match_row, after_matches, meet}
use Rattle.matching.specs.Clearing.{Fill, filled, after_fills}
use Rattle.matching.specs.Inner.Places.{orders_at, ahead_on, fills_at, Filling}
use Rattle.matching.specs.Inner.Runs.{key_of, wanted, merged, run_at, Runs, FirstOf, RunsMet, InTurn}
use Rattle.matching.specs.Answers.{fit, Matches}
use Rattle.matching.proofs.Laws.Orders.OrderLaws.{orders_length}
use Rattle.matching.proofs.Laws.Orders.RowLaws.{written_none}
use Rattle.matching.proofs.Laws.Orders.FitLaws.{fit_gives}
use Rattle.matching.proofs.Laws.Lists.EachLaws.{keep_ext, keep-nothing, each_all}
use Rattle.matching.proofs.Laws.Orders.LaidLaws.{laid-quantities, laid-length}
use Rattle.matching.proofs.Laws.Laying.LayingLaws.{map_join}
use Rattle.matching.proofs.Laws.Laying.RunLaws.{runs_popped}
use Rattle.matching.proofs.Laws.Laying.DrawLaws.{each_order, keep_few, nothing_left, first_below, places_more, below_more}
use Rattle.matching.proofs.Laws.Rolling.MeetingLaws.{match, matches_none, matches_spent, matches-more, after_none}
use Rattle.matching.proofs.Laws.Rolling.MetLaws.{fills_of, matches_fill}
use Rattle.matching.proofs.Laws.Clearing.VolumeLaws.{keep_some}

-- the side that an incoming order meets holds its candidates
turned : (a b c : Bool) → ((a && b) && c) ≡ (b && (a && c))
turned true true c = refl
turned true false c = refl
turned false true c = refl
turned false false c = refl

leb_turned : (m a b : ℕ) → a ≤ m → b ≤ m → leb (m - a) (m - b) ≡ leb b a
leb_turned m a b ha hb = go (dec_lt a b)
  where
    go : Dec (a < b) → leb (m - a) (m - b) ≡ leb b a
    go (yes h) = lt-leb (m - a) (m - b) (omega arith) ∙ sym (lt-leb b a h)
    go (no h) = le-leb (m - a) (m - b) (omega arith) ∙ sym (le-leb b a (omega arith))

module _ (i o : Order) where
  wanted_sale : i.direction ≡ 1 → wanted 0 i.period (Some (key_of 0 i.price)) o ≡ candidate i o
  unfolding wanted candidate key_of
  wanted_sale e = rw (eq-eqb i.direction 1 e) (turned (eqb o.direction 0) (eqb o.period i.period) (leb o.price i.price))

  wanted_buy : i.direction ≡ 0 → o.price ≤ most_word → i.price ≤ most_word → wanted 1 i.period (Some (key_of 1 i.price)) o ≡ candidate i o
  unfolding wanted candidate key_of
  wanted_buy e ho hi =
      rw (ne_eqb i.direction 1 (omega arith), eq-eqb i.direction 0 e, leb_turned most_word o.price i.price ho hi)
      (turned (eqb o.direction 1) (eqb o.period i.period) (leb i.price o.price))

  pub no-side : 1 < i.direction → candidate i o ≡ false
  unfolding candidate
  no-side h = go (eqb o.period i.period) (ne_eqb i.direction 1 (omega arith)) (ne_eqb i.direction 0 (omega arith))
    where
      go : (b : Bool) → eqb i.direction 1 ≡ false → eqb i.direction 0 ≡ false
          → (b && cond (eqb i.direction 1) (eqb o.direction 0 && leb o.price i.price) (eqb i.direction 0
          && (eqb o.direction 1 && leb i.price o.price))) ≡ false
      go true e f = rw (e, f)
      go false e f = refl

pub side_is : (i : Order) (m : List ℕ) (n d period : ℕ) (limit : Option ℕ) → ((k : ℕ) → get_or m k 0 ≤ most_word) → i.price ≤ most_word → i.direction < 2
    → d ≡ 1 - i.direction → period ≡ i.period → limit ≡ Some (key_of (1 - i.direction) i.price)
    → laid (ahead_on d) (keep (wanted d period limit) (orders_in m n)) ≡ counterparts i (orders_in m n)
unfolding counterparts ahead_on
side_is i m n d period limit words hi small ed ep el = go (ℕ_discrete i.direction 1)
  where
    go : Dec (i.direction ≡ 1) → laid (ahead_on d) (keep (wanted d period limit) (orders_in m n)) ≡ laid (ahead_for i) (keep (candidate i) (orders_in m n))
    go (yes e) =
        let z : 1 - i.direction ≡ 0 = omega arith in
        let a : ahead_for i ≡ ask_ahead = rw (eq-eqb i.direction 1 e) in
        rw (ed, ep, el, z, a)
        (ap (laid ask_ahead) (keep_ext (wanted 0 i.period (Some (key_of 0 i.price))) (candidate i) (orders_in m n)
        (each_order (λ o. wanted 0 i.period (Some (key_of 0 i.price)) o ≡ candidate i o) m n (λ k. wanted_sale i (order_at m k) e))))
    go (no ne) =
        let z : 1 - i.direction ≡ 1 = omega arith in
        let s : i.direction ≡ 0 = omega arith in
        let a : ahead_for i ≡ bid_ahead = rw (ne_eqb i.direction 1 ne) in
        rw (ed, ep, el, z, a)
        (ap (laid bid_ahead) (keep_ext (wanted 1 i.period (Some (key_of 1 i.price))) (candidate i) (orders_in m n)
        (each_order (λ o. wanted 1 i.period (Some (key_of 1 i.price)) o ≡ candidate i o) m n (λ k. wanted_buy i (order_at m k) s (words (6 * k + 4)) hi))))

counterparts_few : (i : Order) (m : List ℕ) (n : ℕ) → length (counterparts i (orders_in m n)) ≤ n
unfolding counterparts
counterparts_few i m n = omega (
  arith,
  laid-length (ahead_for i) (keep (candidate i) (orders_in m n)),
  keep_few (candidate i) (orders_in m n),
  orders_length m
      n,
)

-- where matching stands, with q left of the incoming order
pub record MetSoFar (m ks ps es : List ℕ) (d n r : ℕ) (i : Order) (rows₀ hs met taken rows : List ℕ) (q c : ℕ) : Type 0 where
  pub runs : Runs m ks ps hs es d n r
  pub few : c + length (merged (ahead_on d) (run_at m ps hs es) r) ≤ n
  pub below : every (λ p. ltb p n) (take c met) ≡ true
  pub done : List Match
  pub counted : length (map (match_row i) done) ≡ c
  pub orders : orders_at m (take c met) ≡ map (λ d. d.order) done
  pub amounts : take c taken ≡ map (λ d. d.quantity) done
  pub handed : rows ≡ written rows₀ (map (match_row i) done)
  pub given : q + sum_of (λ d. d.quantity) done ≡ i.quantity
  pub rest : done ++ matches q (merged (ahead_on d) (run_at m ps hs es) r) ≡ matches i.quantity (counterparts i (orders_in m n))

pub meeting_start : (m ks ps hs es : List ℕ) (n r : ℕ) (i : Order) (met taken rows : List ℕ) → RunsMet m ks ps hs es n r i
    → MetSoFar m ks ps es (1 - i.direction) n r i rows hs met taken rows i.quantity 0
meeting_start m ks ps hs es n r i met taken rows g =
    record {
      runs = g.runs;
      few = rw g.held (omega (arith, counterparts_few i m n));
      below = refl;
      done = [];
      counted = refl;
      orders = refl;
      amounts = refl;
      handed = written_none rows;
      given = add-zero i.quantity;
      rest = ap (matches i.quantity) g.held;
    }

-- the runs of the side that is met hold the counterparts
pub runs_met : (m ks ps hs es : List ℕ) (d n r : ℕ) (i : Order) (period : ℕ) (limit : Option ℕ) → ((k : ℕ) → get_or m k 0 ≤ most_word) → i.price ≤ most_word
    → i.direction < 2 → d ≡ 1 - i.direction → period ≡ i.period → limit ≡ Some (key_of (1 - i.direction) i.price) → Runs m ks ps hs es d n r
    → merged (ahead_on d) (run_at m ps hs es) r ≡ laid (ahead_on d) (keep (wanted d period limit) (orders_in m n))
    → RunsMet m ks ps hs es n r i
runs_met m ks ps hs es d n r i period limit words hi small ed ep el g e =
    record { runs = rw (← ed) g; held = rw (← ed) (e ∙ side_is i m n d period limit words hi small ed ep el) }

pub row_of : (i : Order) (row : Row) (o p : Order) (x : ℕ) → row ≡ match_row i (match o x) → o ≡ p → row ≡ match_row i (match p x)
row_of i row o p x e h = e ∙ ap (λ (z : Order). match_row i (match z x)) h

module _ (m ks ps es : List ℕ) (d n r : ℕ) (i : Order) (rows₀ hs met taken rows : List ℕ) (q c : ℕ)
    (g : MetSoFar m ks ps es d n r i rows₀ hs met taken rows q c) where
  abbrev left : List Order
  left = merged (ahead_on d) (run_at m ps hs es) r

  -- one match more, with the first order of run b
  module _ (b p x : ℕ) (f : FirstOf m ps hs es d r b) (lp : n ≤ length ps) (lh : r ≤ length hs) (lm : n ≤ length met) (lt : n
      ≤ length taken) where
    pub meeting_room : (b < r) × (get_or hs b 0 < get_or es b 0) × (get_or hs b 0 < n) × (get_or ps (get_or hs b 0) 0 < n) × (c < n)
    meeting_room =
        let u = first_below m ks ps hs es d n r b g.runs (f.inside, f.left) in
        let k = ap length f.first in
        let y = g.few in
        (f.inside, f.left, u.0, u.1, omega arith)

    pub meeting_more : (hs' rows' : List ℕ) → (q ≡ 0 → ⊥) → p ≡ get_or ps (get_or hs b 0) 0 → hs' ≡ set hs b (get_or hs b 0 + 1) → x
        ≡ min q (order_at m p).quantity
        → rows' ≡ written rows₀ (map (match_row i) g.done ++ (match_row i (match (order_at m p) x) ∷ []))
        → MetSoFar m ks ps es d n r i rows₀ hs' (set met c p) (set taken c x) rows' (q - x) (c + 1)
    meeting_more hs' rows' some ep eh ex er =
        let room : (b < r) × (get_or hs b 0 < get_or es b 0) × (get_or hs b 0 < n) × (get_or ps (get_or hs b 0) 0 < n) × (c < n) = meeting_room in
        let o = order_at m p in
        let y = match o x in
        let more = merged (ahead_on d) (run_at m ps hs' es) r in
        let first : left ≡ o ∷ more = f.first ∙ ap₂ (λ (k : ℕ) (l : List ℕ). order_at m k ∷ merged (ahead_on d) (run_at m ps l es) r) (sym ep) (sym eh) in
        let em : map (match_row i) (g.done ++ (y ∷ [])) ≡ map (match_row i) g.done ++ (match_row i y ∷ []) = map_join (match_row i) g.done (y ∷ []) in
        let k : length left ≡ suc (length more) = ap length first in
        let fw = g.few in
        record {
          runs = rw eh (runs_popped m ks ps hs es d n r b g.runs lp lh room.0);
          few = omega arith;
          below = below_more met n c p (omega arith) g.below (omega arith);
          done = g.done ++ (y ∷ []);
          counted = ap length em ∙ length-append (map (match_row i) g.done) (match_row i y ∷ []) ∙ ap (λ (z : ℕ). z + 1) g.counted;
          orders = places_more met n c p (omega arith) m ∙ ap (λ (l : List Order). l ++ (o ∷ [])) g.orders
              ∙ sym (map_join (λ (z : Match). z.order) g.done (y ∷ []));
          amounts = ap (λ (z : ℕ). take z (set taken c x)) (add-one c) ∙ take-suc-set taken c x (omega arith)
              ∙ ap (λ (l : List ℕ). l ++ (x ∷ [])) g.amounts ∙ sym (map_join (λ (z : Match). z.quantity) g.done (y ∷ []));
          handed = er ∙ ap (written rows₀) (sym em);
          given = omega (arith, sum_of_append (λ (z : Match). z.quantity) g.done (y ∷ []), g.given);
          rest =
              append_assoc g.done (y ∷ []) (matches (q - x) more)
              ∙ ap (λ (ms : List Match). g.done ++ ms)
              (sym (ap (matches q) first ∙ matches-more q o more some ∙ ap (λ (z : ℕ). match o z ∷ matches (q - z) more) (sym ex)))
              ∙ g.rest;
        }

  -- nothing more matches
  ends : matches q left ≡ [] → InTurn m n i (matches i.quantity (counterparts i (orders_in m n))) rows₀ q c met taken rows
  ends e =
      let ms = matches i.quantity (counterparts i (orders_in m n)) in
      let s : g.done ≡ ms = sym (append-nil g.done) ∙ ap (λ (l : List Match). g.done ++ l) (sym e) ∙ g.rest in
      let few = g.few in
      record {
        few = omega arith;
        below = g.below;
        count = sym g.counted ∙ ap (λ (l : List Match). length (map (match_row i) l)) s;
        left = rw s at g.given;
        orders = g.orders ∙ ap (λ (l : List Match). map (λ z. z.order) l) s;
        amounts = g.amounts ∙ ap (λ (l : List Match). map (λ z. z.quantity) l) s;
        handed = g.handed ∙ ap (λ (l : List Match). written rows₀ (map (match_row i) l)) s;
      }

  -- the three ways to end
  pub ends_spent : q ≡ 0 → InTurn m n i (matches i.quantity (counterparts i (orders_in m n))) rows₀ q c met taken rows
  ends_spent e = ends (matches_spent q left e)

  pub ends_alone : left ≡ [] → InTurn m n i (matches i.quantity (counterparts i (orders_in m n))) rows₀ q c met taken rows
  ends_alone e = ends (ap (matches q) e ∙ matches_none q)

  pub ends_full : n ≤ c → InTurn m n i (matches i.quantity (counterparts i (orders_in m n))) rows₀ q c met taken rows
  ends_full h = let few = g.few in ends_alone (nothing_left left (omega arith))

-- what is taken is no more than what is open
matches_under : (q : ℕ) (cs : List Order) → sum_of (λ d. d.quantity) (matches q cs) ≤ quantities cs
unfolding matches
matches_under q [] = omega arith
matches_under q (o ∷ cs) =
    cond_case (λ (l : List Match). sum_of (λ d. d.quantity) l ≤ o.quantity + quantities cs) (eqb q 0) [] (match o (min q o.quantity)
    ∷ matches (q - min q o.quantity) cs)
    (λ e. omega arith) (λ e. let t = matches_under (q - min q o.quantity) cs in omega arith)

met_under : (i : Order) (os : List Order) → sum_of (λ d. d.quantity) (matches i.quantity (counterparts i os)) ≤ quantities os
unfolding counterparts
met_under i os =
    omega (
      arith,
      matches_under i.quantity (laid (ahead_for i) (keep (candidate i) os)),
      laid-quantities (ahead_for i) (keep (candidate i) os),
      keep_some
          (candidate i) os,
    )

total-taken : (ms : List Match) → total (map (λ d. d.quantity) ms) ≡ sum_of (λ d. d.quantity) ms
total-taken [] = refl
total-taken (d ∷ ms) = ap (λ (z : ℕ). d.quantity + z) (total-taken ms)

filled_fills : (ms : List Match) → filled (map (λ d. d.order) ms) (map (λ d. d.quantity) ms) ≡ fills_of ms
unfolding filled
filled_fills [] = refl
filled_fills (d ∷ ms) = ap (λ (l : List Fill). record { order = d.order; amount = d.quantity } ∷ l) (filled_fills ms)

-- an incoming order met the n orders, which fit: q of it is left, there are c rows, and some orders stand
abbrev pub MeetsWith : List ℕ → List ℕ → ℕ → Order → ℕ → ℕ → ℕ → List ℕ → List ℕ → Type 0
MeetsWith m rows n i q c standing m' rows' =
    let met = meet i (orders_in m n) in
    Matches m rows n (fit m n rows) met.rows met.orders met.left (record { fits = true; left = q; count = c; standing = standing }) m' rows'

module _ (m : List ℕ) (n : ℕ) (i : Order) (rows₀ : List ℕ) (q c : ℕ) (met taken rows : List ℕ)
    (t : InTurn m n i (matches i.quantity (counterparts i (orders_in m n))) rows₀ q c met taken rows) (e : fit m n rows₀ ≡ true) where
  abbrev ms : List Match
  ms = matches i.quantity (counterparts i (orders_in m n))

  pub turn_fills : n ≤ length met → n ≤ length taken → Filling (take c met) (take c taken) n
  turn_fills lm lt =
      let f = fit_gives m rows₀ n e in
      let s = f.small in
      record {
        few = omega (arith, t.few, length-take-le c met (omega (arith, t.few)));
        along = length-take-le c taken (omega (arith, t.few)) ∙ sym (length-take-le c met (omega (arith, t.few)));
        below = t.below;
        small = rw (t.amounts, total-taken ms)
            (omega (arith, met_under i (orders_in m n)));
      }

  pub meets_turn : (m' : List ℕ) (standing : ℕ) → orders_in m' standing ≡ after_fills (fills_at m (take c met) (take c taken)) (orders_in m n)
      → drop (6 * n) m' ≡ drop (6 * n) m → MeetsWith m rows₀ n i q c standing m' rows
  unfolding meet fills_at
  meets_turn m' standing eo past =
      let l = t.left in
      record {
        fits = sym e;
        stay = λ f. both_ways (sym e ∙ f);
        left = λ f. omega arith;
        count = λ f. t.count;
        orders = λ f.
            eo
            ∙ ap (λ (fs : List Fill). after_fills fs (orders_in m n)) (ap₂ filled t.orders t.amounts ∙ filled_fills ms)
            ∙ sym (matches_fill ms (orders_in m n));
        handed = λ f. t.handed;
        past = past;
      }

-- an order of no direction meets none
counterparts_none : (i : Order) (os : List Order) → 1 < i.direction → counterparts i os ≡ []
unfolding counterparts laid
counterparts_none i os h =
    let k : keep (candidate i) os ≡ [] = keep-nothing (candidate i) os (each_all (λ o. candidate i o ≡ false) os (λ o. no-side i o h)) in
    rw k

-- and all of it is left
pub left_whole : (i : Order) (os : List Order) → 1 < i.direction → (meet i os).left ≡ i.quantity
unfolding meet
left_whole i os h =
    let z : matches i.quantity (counterparts i os) ≡ [] = ap (matches i.quantity) (counterparts_none i os h) ∙ matches_none i.quantity in
    omega (arith, ap (λ (l : List Match). sum_of (λ d. d.quantity) l) z)

-- where nothing matches, all stays
meets_alone : (m rows : List ℕ) (n : ℕ) (i : Order) → fit m n rows ≡ true → matches i.quantity (counterparts i (orders_in m n)) ≡ []
    → MeetsWith m rows n i i.quantity 0 n m rows
unfolding meet
meets_alone m rows n i e z =
    let s : sum_of (λ d. d.quantity) (matches i.quantity (counterparts i (orders_in m n))) ≡ 0 = ap (λ (l : List Match). sum_of (λ d. d.quantity) l) z in
    record {
      fits = sym e;
      stay = λ f. (refl, refl);
      left = λ f. omega arith;
      count = λ f. sym (ap (λ (l : List Match). length (map (match_row i) l)) z);
      orders = λ f. sym (ap (λ (l : List Match). after_matches l (orders_in m n)) z ∙ after_none (orders_in m n));
      handed = λ f. written_none rows ∙ sym (ap (λ (l : List Match). written rows (map (match_row i) l)) z);
      past = refl;
    }

pub meets_none : (m rows : List ℕ) (n : ℕ) (i : Order) → fit m n rows ≡ true → 1 < i.direction → MeetsWith m rows n i i.quantity 0 n m rows
meets_none m rows n i e h = meets_alone m rows n i e (ap (matches i.quantity) (counterparts_none i (orders_in m n) h) ∙ matches_none i.quantity)

-- and an order of which nothing is open
pub meets_spent : (m rows : List ℕ) (n : ℕ) (i : Order) → fit m n rows ≡ true → i.quantity ≡ 0 → MeetsWith m rows n i i.quantity 0 n m rows
meets_spent m rows n i e z = meets_alone m rows n i e (matches_spent i.quantity (counterparts i (orders_in m n)) z)
