-- An order in the rolling phase on a sound book in memory: the open orders fit for matching, and what matching leaves.
use Rattle.std.proofs.Common.{◌≡◌, ℕ, zero, suc, ◌-◌, ◌*◌, ◌≤◌, Bool, true, false, List, [], ◌∷◌, ◌++◌, length, set, refl}
use Rattle.std.proofs.Common.{sym, ap, ◌∙◌, subst, append-nil, arith, eq-eqb, ne_eqb, le-leb}
use borrow.Rule.Slice.PartMut.{put_mid, mid_len}
use Rattle.measures.specs.Ranges.{most_energy}
use Rattle.measures.proofs.ListLaws.{and_true, not_both}
use Rattle.limits.specs.Units.{most_capacity, generator}
use Rattle.limits.specs.Limits.{hour_of}
use Rattle.limits.proofs.LimitLaws.{hour_most}
use Rattle.std.specs.Prelude.{Option}
use Rattle.matching.specs.declared.orders.Matched.{Matched}
use Rattle.matching.specs.Orders.{Order as OpenOrder, leaving, rising, numbers, quantities}
use Rattle.matching.specs.Memory.{orders_in}
use Rattle.matching.specs.Answers.{Answer, answer_of, fit, Meets}
use Rattle.measures.specs.Lists.{Each, Has}
use Rattle.matching.proofs.Laws.Lists.EachLaws.{each_at, each_has, has_each}
use Rattle.book.specs.Book.{Book, no_unit, unit_of}
use Rattle.book.specs.Trades.{raises, lowers}
use Rattle.book.specs.Fit.{open_raising, open_lowering}
use Rattle.book.specs.Layout.{ORDERS, orders_start, orders_words, amounts_start, word, orders_part, decode}
use Rattle.book.specs.Contract.{sound_in}
use Rattle.book.specs.Order.{waiting}
use Rattle.book.specs.Inner.Ordering.{OrdersPut, Rolled}
use Rattle.book.proofs.Laws.Memory.RangeFacts.{orders_held}
use Rattle.book.proofs.Laws.Check.NumberLaws.{orders_from}
use Rattle.book.proofs.Laws.Answer.MadeLaws.{sound-book, sound_readable}
use Rattle.book.proofs.Laws.Sound.SoundLaws.{UnitRanges, OrderRanges, Sound, sound_facts}
use Rattle.book.proofs.Laws.Order.WaitLaws.{orders_put}
use Rattle.book.proofs.Laws.Sound.OpenLaws.{open_part}

-- an open order is within its unit's capacity
module _ (b : Book) (s : Sound b) (o : OpenOrder) (h : Has o b.orders) where
  ranges : OrderRanges b o
  ranges = has_each (OrderRanges b) b.orders o s.formed.orders h

  capacity : (unit_of b o.unit).capacity ≤ most_capacity
  capacity =
      let r = ranges.unit in
      (each_at (UnitRanges b.rules.days) b.units (o.unit - 1) no_unit s.formed.units (omega arith)).capacity.1

  raising_small : raises (unit_of b o.unit).kind o.direction ≡ true → o.quantity ≤ most_capacity
  unfolding open_raising
  raising_small e =
      let f = (s.fits o.unit ranges.unit).raising o.period ranges.period in
      let q = open_part (raises (unit_of b o.unit).kind) b.orders o h e in
      let c = hour_most (unit_of b o.unit).kind (unit_of b o.unit).capacity (hour_of o.period) in
      let k = capacity in
      omega arith

  lowering_small : lowers (unit_of b o.unit).kind o.direction ≡ true → o.quantity ≤ most_capacity
  unfolding open_lowering
  lowering_small e =
      let f = (s.fits o.unit ranges.unit).raising o.period ranges.period in
      let g = (s.fits o.unit ranges.unit).lowering o.period ranges.period in
      let q = open_part (lowers (unit_of b o.unit).kind) b.orders o h e in
      let c = hour_most (unit_of b o.unit).kind (unit_of b o.unit).capacity (hour_of o.period) in
      let k = capacity in
      omega arith

  order_small : o.quantity ≤ most_capacity
  order_small = go (generator (unit_of b o.unit).kind) o.direction refl refl ranges.direction
    where
      go : (g : Bool) (d : ℕ) → generator (unit_of b o.unit).kind ≡ g → o.direction ≡ d → d ≤ 1 → o.quantity ≤ most_capacity
      go true zero eg ed l = raising_small (rw (eg, ed) refl)
      go true (suc zero) eg ed l = lowering_small (rw (eg, ed) refl)
      go true (suc (suc d)) eg ed l = absurd (omega arith)
      go false zero eg ed l = lowering_small (rw (eg, ed) refl)
      go false (suc zero) eg ed l = raising_small (rw (eg, ed) refl)
      go false (suc (suc d)) eg ed l = absurd (omega arith)

sum-small : (os : List OpenOrder) → Each (λ (o : OpenOrder). o.quantity ≤ most_capacity) os → quantities os ≤ most_capacity * length os
sum-small [] h = omega arith
sum-small (o ∷ os) h = let t = sum-small os h.1 in let k = h.0 in omega arith

-- the open orders of a sound book fit for matching
pub orders_fit_lem : (m rows : List ℕ) → sound_in m ≡ true → 4464 ≤ length rows → fit (orders_part m) (word m ORDERS) rows ≡ true
unfolding fit
orders_fit_lem m rows e l =
    and_true _ _ (and_true _ _ (and_true _ _ (and_true _ _ (le-leb _ _ few) (le-leb _ _ inside)) (le-leb (6 * word m ORDERS) (length rows)
    (omega (arith, few))))
    rises) (le-leb _ _ amount)
  where
    few : word m ORDERS ≤ 256
    few = (sound_readable m e).orders_to

    inside : 6 * word m ORDERS ≤ length (orders_part m)
    inside = let r = sound_readable m e in omega (arith, few, mid_len orders_start amounts_start m (omega arith))

    facts : Sound (decode m)
    facts = sound_facts (decode m) (sound-book m e)

    rises : rising (numbers (orders_in (orders_part m) (word m ORDERS))) ≡ true
    rises = rw (orders_from m) at facts.formed.orders_rise

    amount : quantities (orders_in (orders_part m) (word m ORDERS)) ≤ most_energy
    amount =
        let t = sum-small (decode m).orders (each_has (λ (o : OpenOrder). o.quantity
        ≤ most_capacity) (decode m).orders (λ o h. order_small (decode m) facts o h)) in
        let w : quantities (decode m).orders ≤ most_energy = omega (arith, few, orders_held m) in
        rw (orders_from m) at w

module _ (m ys rows rows' : List ℕ) (o : OpenOrder) (a : Option Matched) (e : sound_in m ≡ true) (l : 4464
    ≤ length rows) (h : Meets (orders_part m) rows (word m ORDERS) o a ys rows') where
  pub met_unfit : (answer_of a).fits ≡ false → ⊥
  met_unfit z = not_both _ (h.fits ∙ orders_fit_lem m rows e l) z

  pub met_rolled : (left count standing : ℕ) → answer_of a ≡ record { fits = true; left = left; count = count; standing = standing } → length ys ≡ orders_words
      → Rolled m (set (put_mid orders_start orders_words m ys) ORDERS standing) rows rows' o left count
  met_rolled left count standing z same =
      let f = orders_fit_lem m rows e l in
      let r = sound_readable m e in
      record {
        orders = orders_put m ys standing _ (omega arith) same (ap (λ (x : Answer). orders_in ys x.standing) (sym z) ∙ h.orders f);
        handed = h.handed f;
        left = ap (λ (x : Answer). x.left) (sym z) ∙ h.left f;
        count = ap (λ (x : Answer). x.count) (sym z) ∙ h.count f;
      }

-- "the rest waits"
pub rest_none : (m : List ℕ) (o : OpenOrder) (left : ℕ) → left ≡ 0 → OrdersPut m m (orders_in (orders_part m) (word m ORDERS) ++ waiting (leaving o left))
unfolding waiting
rest_none m o left e =
    record { long = refl; low = λ i l n. refl; high = λ i l. refl; orders = rw (eq-eqb left 0 e) (sym (append-nil (orders_in (orders_part m) (word m ORDERS)))) }

-- what is said of an order holds of an equal one
pub put_same : (o o' : OpenOrder) → o ≡ o' → (m x : List ℕ) → OrdersPut m x (orders_in (orders_part m) (word m ORDERS) ++ (o ∷ []))
    → OrdersPut m x (orders_in (orders_part m) (word m ORDERS) ++ (o' ∷ []))
put_same o o' e m x h = subst (λ (z : OpenOrder). OrdersPut m x (orders_in (orders_part m) (word m ORDERS) ++ (z ∷ []))) e h

pub rest_some : (m x : List ℕ) (o : OpenOrder) (left : ℕ) → (left ≡ 0 → ⊥) → OrdersPut m x (orders_in (orders_part m) (word m ORDERS) ++ (leaving o left ∷ []))
    → OrdersPut m x (orders_in (orders_part m) (word m ORDERS) ++ waiting (leaving o left))
unfolding waiting
rest_some m x o left n h = rw (ne_eqb left 0 n) h
