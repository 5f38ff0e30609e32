-- What a sound book's orders and the rows of its clearing come to: no word grows too large.
use Rattle.std.proofs.Common.{◌≡◌, ℕ, zero, suc, ◌-◌, ◌*◌, ◌<◌, ◌≤◌, Bool, true, false, cond, ◌&&◌, eqb, List, [], ◌∷◌, length, sym, refl, arith, eq-eqb}
use Rattle.measures.specs.Ranges.{most_energy}
use Rattle.measures.specs.Lists.{sum_of, Each, Has}
use Rattle.measures.proofs.RangeLaws.{In}
use Rattle.measures.proofs.ListLaws.{cond-true, and_true}
use Rattle.limits.specs.Units.{periods, generator}
use Rattle.limits.specs.Limits.{hour_of}
use Rattle.limits.proofs.LimitLaws.{hour_most}
use Rattle.matching.specs.Orders.{Order as OpenOrder, Row, sells, buys, quantities}
use Rattle.matching.specs.Clearing.{clear_from}
use Rattle.matching.proofs.Laws.Lists.EachLaws.{each_all, each_has, has_each, each_at}
use Rattle.matching.proofs.Laws.Lists.SumLaws.{sum_of_le, sum_of_has}
use Rattle.matching.proofs.Laws.Orders.ExchangeLaws.{Exchanged, is_of, open_of}
use Rattle.book.specs.Book.{no_unit, Book, unit_of}
use Rattle.book.specs.Trades.{raises, lowers}
use Rattle.book.specs.Fit.{nothing, open_raising, open_lowering}
use Rattle.book.proofs.Laws.Sound.FitLaws.{Fits}
use Rattle.book.proofs.Laws.Sound.SoundLaws.{OrderRanges, UnitRanges, Sound}
use Rattle.book.proofs.Laws.Clear.ClearedLaws.{rows_by_orders, clear_exchanged, clear_units}
use Rattle.book.proofs.Laws.Sound.OpenLaws.{open_part}

module _ {A : Type 0} (f : A → ℕ) where
  sum-most : (l : List A) → Each (λ x. f x ≤ 5_000_000) l → sum_of f l ≤ 5_000_000 * length l
  sum-most [] h = omega arith
  sum-most (x ∷ xs) h = let t = sum-most xs h.1 in let u = h.0 in omega arith

-- either way an order raises or lowers
raises_or_lowers : (k d : ℕ) → d ≤ 1 → lowers k d ≡ false → raises k d ≡ true
raises_or_lowers k zero h = go (generator k)
  where
    go : (g : Bool) → cond g (buys 0) (sells 0) ≡ false → cond g (sells 0) (buys 0) ≡ true
    go true e = refl
    go false e = sym e
raises_or_lowers k (suc zero) h = go (generator k)
  where
    go : (g : Bool) → cond g (buys 1) (sells 1) ≡ false → cond g (sells 1) (buys 1) ≡ true
    go true e = sym e
    go false e = refl
raises_or_lowers k (suc (suc d)) h = absurd (omega arith)

module _ (b : Book) (s : Sound b) where
  capacity_most : (u : ℕ) → In 1 (length b.units) u → (unit_of b u).capacity ≤ 5_000_000
  capacity_most u i = (each_at (UnitRanges b.rules.days) b.units (u - 1) no_unit s.formed.units (omega arith)).capacity.1

  order_most : (o : OpenOrder) → Has o b.orders → OrderRanges b o → o.quantity ≤ 5_000_000
  unfolding open_raising open_lowering
  order_most o h r = go (lowers k o.direction) refl
    where
      k : ℕ
      k = (unit_of b o.unit).kind

      f : Fits b o.unit nothing
      f = s.fits o.unit r.unit

      go : (l : Bool) → lowers k o.direction ≡ l → o.quantity ≤ 5_000_000
      go true e =
          let t = open_part (lowers k) b.orders o h e in
          let x = f.raising o.period r.period in
          let y = f.lowering o.period r.period in
          let c = hour_most k (unit_of b o.unit).capacity (hour_of o.period) in
          let m = capacity_most o.unit r.unit in
          omega arith
      go false e =
          let t = open_part (raises k) b.orders o h (raises_or_lowers k o.direction r.direction e) in
          let x = f.raising o.period r.period in
          let c = hour_most k (unit_of b o.unit).capacity (hour_of o.period) in
          let m = capacity_most o.unit r.unit in
          omega arith

  pub orders_small : quantities b.orders ≤ most_energy
  orders_small =
      let t = sum-most (λ (o : OpenOrder). o.quantity) b.orders (each_has (λ (o : OpenOrder). o.quantity
      ≤ 5_000_000) b.orders (λ o h. order_most o h (has_each (OrderRanges b) b.orders o s.formed.orders h))) in
      let n = s.formed.head.orders in
      omega arith

-- a row trades no more than the orders had
row_most : (os os' : List OpenOrder) (rs : List Row) → Exchanged os os' rs → (r : Row) → Has r rs → r.quantity ≤ quantities os
row_most os os' rs x r h =
    let w : Row → ℕ = λ z. cond (eqb z.seller r.seller && eqb z.period r.period) z.quantity 0 in
    let t = sum_of_has w rs r h in
    let c : (eqb r.seller r.seller && eqb r.period r.period)
    ≡ true = and_true (eqb r.seller r.seller) (eqb r.period r.period) (eq-eqb r.seller r.seller refl)
    (eq-eqb r.period r.period refl) in
    let q : w r ≡ r.quantity = cond-true (eqb r.seller r.seller && eqb r.period r.period) r.quantity 0 c refl in
    let e = x.sold r.seller r.period in
    omega (arith, open_most r.seller r.period)
  where
    less : (z : Bool) (n : ℕ) → cond z n 0 ≤ n
    less true n = omega arith
    less false n = omega arith

    open_most : (u p : ℕ) → open_of sells u p os ≤ quantities os
    open_most u p =
        sum_of_le (λ (o : OpenOrder). cond (is_of sells u p o) o.quantity 0) (λ (o : OpenOrder). o.quantity) os
        (each_all (λ (o : OpenOrder). cond (is_of sells u p o) o.quantity 0 ≤ o.quantity) os (λ o. less (is_of sells u p o) o.quantity))

-- the rows of a sound book's clearing
pub record RowIn (n days : ℕ) (r : Row) : Type 0 where
  pub period : r.period < 24 * days
  pub seller : In 1 n r.seller
  pub buyer : In 1 n r.buyer
  pub quantity : r.quantity ≤ most_energy

pub cleared-rows_in : (b : Book) → Sound b → Each (RowIn (length b.units) b.rules.days) (clear_from 0 (periods b.rules.days) b.orders).rows
cleared-rows_in b s =
    let rs = (clear_from 0 (periods b.rules.days) b.orders).rows in
    let in-term = rows_by_orders b s.formed.orders_rise s.formed.orders (λ (r : Row). r.period < periods b.rules.days)
    (λ x r f a c. rw (← f.ask.there) a.period) in
    each_has (RowIn (length b.units) b.rules.days) rs
    (λ r h.
    let t = has_each (λ (z : Row). z.period < periods b.rules.days) rs r in-term h in
    let u = has_each _ rs r (clear_units b s) h in
    let q = row_most b.orders (clear_from 0 (periods b.rules.days) b.orders).orders rs (clear_exchanged b s) r h in
    let m = orders_small b s in
    record { period = omega arith; seller = u.0; buyer = u.1; quantity = omega arith })
