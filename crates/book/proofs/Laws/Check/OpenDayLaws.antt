-- What a unit has open: by period, what its orders have; on a day, the walk through its orders of the day, and its offers' amounts with it.
use Rattle.std.proofs.Common.{◌≡◌, ℕ, zero, suc, ◌+◌, ◌-◌, ◌*◌, ◌/◌, ◌%◌, ◌<◌, ◌≤◌, cond, ◌&&◌, eqb, List, length, get_or, set, Option}
use Rattle.std.proofs.Common.{Some, None, is_some, false, sym, refl, ap, ◌∙◌, arith, ne_eqb}
use Rattle.std.proofs.Math.Nat.{div-add-mod, mod-lt}
use native.Mathlib.Decide.{dec_lt, ℕ_discrete}
use Rattle.measures.specs.Ranges.{most_energy}
use Rattle.measures.specs.Lists.{sum}
use Rattle.measures.proofs.ListLaws.{and_left-false, and_right_false, sum_none, sum_more, sum-zero}
use Rattle.book.specs.Layout.{UNITS, OFFERS, ORDERS, order_place, UNIT, DIRECTION, PERIOD, QUANTITY, word}
use Rattle.book.specs.Inner.Readable.{Ranged}
use Rattle.book.specs.Inner.Fitting.{Added, order_share, offer_share}
use Rattle.book.specs.Inner.Whole.{by_day, link_of, Latest, raising_direction, open_up, open_down, BothBelow, BothAdded, share_in, Gathered}
use Rattle.book.specs.Inner.Whole.{OffersOther, DayIdle}
use Rattle.book.specs.declared.pass.Amounts.{Amounts}
use Rattle.book.proofs.Laws.Check.ShareLaws.{
  order_words_lem,
  added_none,
  placed,
  share_other,
  share_against,
  share_there,
  share_elsewhere,
  offer_other,
  shares_none,
  shares_more,
  order_period_in,
}
use Rattle.book.proofs.Laws.Check.LinkedLaws.{key_unit, key_day, key_by}

-- an order's share, by place of a table of n
module _ (m : List ℕ) (n direction i : ℕ) (r : Ranged m) (hi : i < word m ORDERS) (l : List ℕ) where
  share_against-in : (word m (order_place i + DIRECTION) ≡ direction → ⊥) → Added n l l (share_in n m direction i) most_energy
  unfolding share_in
  share_against-in w = added_none n l _ _ (λ h b. share_against m _ direction i w _)

  share_there_in : word m (order_place i + DIRECTION) ≡ direction → 0 < n → length l ≡ n
      → Added n l (set l (word m (order_place i + PERIOD) % n) (get_or l (word m (order_place i + PERIOD) % n) 0 + word m (order_place i + QUANTITY)))
      (share_in n m direction i) most_energy
  unfolding share_in
  share_there_in e z long =
      let q = (order_words_lem m i r hi).quantity.1 in
      let p = word m (order_place i + PERIOD) in
      let d = div-add-mod p n in
      let f = mod-lt p z in
      placed n l (p % n) (word m (order_place i + QUANTITY)) (λ h. order_share m (word m (order_place i + UNIT)) direction i (n * (p / n) + h))
      (omega arith) q
      (share_there m _ direction i refl e _ (sym d))
      (λ h w. share_elsewhere m _ direction i refl e _ (λ x. w (omega arith)))

module _ (m : List ℕ) (n direction i : ℕ) (r : Ranged m) (hi : i < word m ORDERS) (two : direction ≤ 1) (few : 0 < n) (x y : List ℕ) where
  pub order_raises : word m (order_place i + DIRECTION) ≡ direction → length x ≡ n
      → BothAdded n (record { raising = x; lowering = y })
      (record {
        raising = set x (word m (order_place i + PERIOD) % n) (get_or x (word m (order_place i + PERIOD) % n) 0 + word m (order_place i + QUANTITY));
        lowering = y;
      })
      (share_in n m direction i) (share_in n m (1 - direction) i) most_energy
  order_raises e long =
      record {
        raising = share_there_in m n direction i r hi x e few long;
        lowering = share_against-in m n (1 - direction) i r hi y (λ w. omega arith);
      }

  pub order_lowers : (word m (order_place i + DIRECTION) ≡ direction → ⊥) → length y ≡ n
      → BothAdded n (record { raising = x; lowering = y })
      (record {
        raising = x;
        lowering = set y (word m (order_place i + PERIOD) % n) (get_or y (word m (order_place i + PERIOD) % n) 0 + word m (order_place i + QUANTITY));
      })
      (share_in n m direction i) (share_in n m (1 - direction) i) most_energy
  order_lowers e long =
      let s = (order_words_lem m i r hi).direction in
      record {
        raising = share_against-in m n direction i r hi x e;
        lowering = share_there_in m n (1 - direction) i r hi y
            (other s (ℕ_discrete (word m (order_place i + DIRECTION)) direction)) few long;
      }
    where
      other : word m (order_place i + DIRECTION) ≤ 1 → Dec (word m (order_place i + DIRECTION) ≡ direction) → word m (order_place i + DIRECTION) ≡ 1 - direction
      other s (yes w) = absurd (e w)
      other s (no w) = omega arith

-- what the first k orders of a unit have open, by period
abbrev pub OrdersAdded : List ℕ → ℕ → ℕ → Amounts 744 → Amounts 744 → ℕ → Type 0
OrdersAdded m u direction a b k =
    BothAdded 744 a b (λ p. sum k (λ i. order_share m u direction i p)) (λ p. sum k (λ i. order_share m u (1 - direction) i p)) (most_energy * k)

module _ (m : List ℕ) (u direction : ℕ) (a : Amounts 744) where
  pub orders_none : OrdersAdded m u direction a a 0
  orders_none = record { raising = shares_none 744 a.raising _; lowering = shares_none 744 a.lowering _ }

  module _ (b : Amounts 744) (k : ℕ) (o : OrdersAdded m u direction a b k) where
    pub orders_other : (word m (order_place k + UNIT) ≡ u → ⊥) → OrdersAdded m u direction a b (k + 1)
    orders_other w =
        record {
          raising = shares_more 744 a.raising b.raising b.raising (order_share m u direction) k o.raising
              (added_none 744 b.raising _ _ (λ p h. share_other m u direction k w p));
          lowering = shares_more 744 a.lowering b.lowering b.lowering (order_share m u (1 - direction)) k o.lowering
              (added_none 744 b.lowering _ _ (λ p h. share_other m u (1 - direction) k w p));
        }

    module _ (r : Ranged m) (hk : k < word m ORDERS) (e : word m (order_place k + UNIT) ≡ u) where
      own_share : (d p : ℕ) → share_in 744 m d k p ≡ order_share m u d k p
      unfolding share_in
      own_share d p =
          let w = order_period_in m k r hk in
          let days = r.readable.days_to in
          let z : 744 * (word m (order_place k + PERIOD) / 744) + p ≡ p = omega arith in
          rw (e, z)

      own_added : (d : ℕ) (x y : List ℕ) → Added 744 x y (share_in 744 m d k) most_energy → Added 744 x y (order_share m u d k) most_energy
      own_added d x y w = record { long = w.long; each = λ p h. w.each p h ∙ ap (λ (t : ℕ). get_or x p 0 + t) (own_share d p); grown = w.grown }

      pub orders_own : (c : Amounts 744) → BothAdded 744 b c (share_in 744 m direction k) (share_in 744 m (1 - direction) k) most_energy
          → OrdersAdded m u direction a c (k + 1)
      orders_own c w =
          record {
            raising = shares_more 744 a.raising b.raising c.raising (order_share m u direction) k o.raising (own_added direction _ _ w.raising);
            lowering = shares_more 744 a.lowering b.lowering c.lowering (order_share m u (1 - direction)) k o.lowering
                (own_added (1 - direction) _ _ w.lowering);
          }

-- a sum whose last terms are nothing
sum-rest : (n t : ℕ) (f : ℕ → ℕ) → t ≤ n → ((i : ℕ) → t ≤ i → i < n → f i ≡ 0) → sum n f ≡ sum t f
unfolding sum
sum-rest zero t f h z =
    let e : t ≡ 0 = omega arith in
    rw e
sum-rest (suc n) t f h z = go (λ l. sum-rest n t f l (λ i a b. z i a (omega arith))) (dec_lt n t)
  where
    go : (t ≤ n → sum n f ≡ sum t f) → Dec (n < t) → sum n f + f n ≡ sum t f
    go ih (yes l) =
        let e : t ≡ suc n = omega arith in
        rw e
    go ih (no l) =
        let s = ih (omega arith) in
        let w = z n (omega arith) (omega arith) in
        omega arith

-- the shares f of the orders from a place on are added, those before it not yet
pub record Walked (f : ℕ → ℕ → ℕ) (n : ℕ) (l x : List ℕ) (at : ℕ) : Type 0 where
  pub long : length x ≡ length l
  pub each : (h : ℕ) → h < 24 → get_or x h 0 + sum at (λ i. f i h) ≡ get_or l h 0 + sum n (λ i. f i h)
  pub grown : (h : ℕ) → get_or x h 0 ≤ get_or l h 0 + most_energy * (256 - at)

walked_none : (f : ℕ → ℕ → ℕ) (n : ℕ) (l : List ℕ) (at : ℕ) → at ≤ n → ((i h : ℕ) → h < 24 → at ≤ i → i < n → f i h ≡ 0) → Walked f n l l at
walked_none f n l at q z =
    record {
      long = refl;
      each = λ h b. let s = sum-rest n at (λ i. f i h) q (λ i a c. z i h b a c) in omega arith;
      grown = λ h. omega arith;
    }

walked_more : (f : ℕ → ℕ → ℕ) (n : ℕ) (l x y : List ℕ) (j t : ℕ) → j < 256 → t ≤ j → ((i h : ℕ) → h < 24 → t ≤ i → i < j → f i h ≡ 0)
    → Walked f n l x (j + 1) → Added 24 x y (f j) most_energy → Walked f n l y t
walked_more f n l x y j t few q z w a =
    record {
      long = a.long ∙ w.long;
      each = λ h b. each h (a.each h b) (w.each h b) (sum_more j (λ i. f i h)) (sum-rest j t (λ i. f i h) q (λ i c d. z i h b c d));
      grown = λ h. grown h (a.grown h) (w.grown h);
    }
  where
    each : (h : ℕ) → get_or y h 0 ≡ get_or x h 0 + f j h → get_or x h 0 + sum (j + 1) (λ i. f i h) ≡ get_or l h 0 + sum n (λ i. f i h) → sum (j + 1) (λ i. f i h)
        ≡ sum j (λ i. f i h) + f j h
        → sum j (λ i. f i h) ≡ sum t (λ i. f i h) → get_or y h 0 + sum t (λ i. f i h) ≡ get_or l h 0 + sum n (λ i. f i h)
    each h u v s e = omega arith

    grown : (h : ℕ) → get_or y h 0 ≤ get_or x h 0 + most_energy → get_or x h 0 ≤ get_or l h 0 + most_energy * (256 - (j + 1)) → get_or y h 0
        ≤ get_or l h 0 + most_energy * (256 - t)
    grown h u v = omega arith

walked_ends : (f : ℕ → ℕ → ℕ) (n : ℕ) (l x : List ℕ) → Walked f n l x 0 → Added 24 l x (λ h. sum n (λ i. f i h)) 1_024_000_000_000
walked_ends f n l x w =
    record {
      long = w.long;
      each = λ h b. let s = sum_none (λ i. f i h) in let v = w.each h b in omega arith;
      grown = λ h. let v = w.grown h in omega arith;
    }

-- what the order at place i has open of the unit at place k, by hour of day d
abbrev pub day_share : List ℕ → ℕ → ℕ → ℕ → ℕ → ℕ → ℕ
day_share m k d direction i h = order_share m (k + 1) direction i (24 * d + h)

-- the walk through the orders of a unit and day, last first: at is one more than the place of the next, or 0
pub record Walking (m : List ℕ) (k d direction : ℕ) (a b : Amounts 24) (at : ℕ) : Type 0 where
  pub few : at ≤ word m ORDERS
  pub own : 0 < at → by_day m (at - 1) ≡ 64 * d + k
  pub raising : Walked (day_share m k d direction) (word m ORDERS) a.raising b.raising at
  pub lowering : Walked (day_share m k d (1 - direction)) (word m ORDERS) a.lowering b.lowering at

-- an order of another unit or day has no share of a day
module _ (m : List ℕ) (k d : ℕ) (r : Ranged m) (unit_in : k < word m UNITS) where
  share_away : (direction i h : ℕ) → h < 24 → i < word m ORDERS → (by_day m i ≡ 64 * d + k → ⊥) → order_share m (k + 1) direction i (24 * d + h) ≡ 0
  unfolding order_share
  share_away direction i h b hi n = go (ℕ_discrete (word m (order_place i + UNIT)) (k + 1)) (ℕ_discrete (word m (order_place i + PERIOD)) (24 * d + h))
    where
      go : Dec (word m (order_place i + UNIT) ≡ k + 1) → Dec (word m (order_place i + PERIOD) ≡ 24 * d + h)
          → cond (eqb (word m (order_place i + UNIT)) (k + 1) && eqb (word m (order_place i + PERIOD)) (24 * d + h)
          && eqb (word m (order_place i + DIRECTION)) direction) (word m (order_place i + QUANTITY)) 0 ≡ 0
      go (yes u) (yes p) = absurd (n (key_by m i r hi k d u (omega arith)))
      go (yes u) (no p) =
          rw (and_left-false (eqb (word m (order_place i + UNIT)) (k + 1) && eqb (word m (order_place i + PERIOD)) (24 * d + h))
          (eqb (word m (order_place i + DIRECTION)) direction)
          (and_right_false (eqb (word m (order_place i + UNIT)) (k + 1)) (eqb (word m (order_place i + PERIOD)) (24 * d + h)) (ne_eqb _ _ p)))
      go (no u) p = rw (ne_eqb _ _ u)

  -- and one of the unit and day has it by hour of its day
  share_of_day : (direction i h : ℕ) → i < word m ORDERS → by_day m i ≡ 64 * d + k → share_in 24 m direction i h ≡ order_share m (k + 1) direction i (24 * d + h)
  unfolding share_in
  share_of_day direction i h hi e =
      let n = r.readable.units_to in
      let few : k < 64 = omega arith in
      rw (key_unit m i r hi k d few e, key_day m i r hi k d few e)

  added_of_day : (direction i : ℕ) (x y : List ℕ) → i < word m ORDERS → by_day m i ≡ 64 * d + k → Added 24 x y (share_in 24 m direction i) most_energy
      → Added 24 x y (day_share m k d direction i) most_energy
  added_of_day direction i x y hi e a =
      record { long = a.long; each = λ h b. a.each h b ∙ ap (λ (t : ℕ). get_or x h 0 + t) (share_of_day direction i h hi e); grown = a.grown }

  module _ (direction : ℕ) (a : Amounts 24) where
    pub walking_starts : (at : ℕ) → Latest (by_day m) (64 * d + k) at (word m ORDERS) → Walking m k d direction a a at
    walking_starts at t =
        record {
          few = t.to;
          own = t.own;
          raising = walked_none _ _ a.raising at t.to (λ i h b c e. share_away direction i h b e (t.none i c e));
          lowering = walked_none _ _ a.lowering at t.to (λ i h b c e. share_away (1 - direction) i h b e (t.none i c e));
        }

    pub walking_more : (x y : Amounts 24) (i t : ℕ) → Walking m k d direction a x (i + 1)
        → Latest (by_day m) (by_day m i) t i
        → BothAdded 24 x y (share_in 24 m direction i) (share_in 24 m (1 - direction) i) most_energy
        → Walking m k d direction a y t
    walking_more x y i t g c b = go (rw own at c)
      where
        own : by_day m i ≡ 64 * d + k
        own = let e : i ≡ i + 1 - 1 = omega arith in ap (by_day m) e ∙ g.own (omega arith)

        inside : i < word m ORDERS
        inside = let f = g.few in omega arith

        small : i < 256
        small =
            let f = inside in
            let o = r.readable.orders_to in
            omega arith

        go : Latest (by_day m) (64 * d + k) t i → Walking m k d direction a y t
        go w =
            let h = inside in
            record {
              few = let q = w.to in omega arith;
              own = w.own;
              raising = walked_more _ _ a.raising x.raising y.raising i t small w.to (λ j h b c f. share_away direction j h b (omega arith) (w.none j c f)) g.raising
                  (added_of_day direction i x.raising y.raising h own b.raising);
              lowering = walked_more _ _ a.lowering x.lowering y.lowering i t small w.to (λ j h b c f. share_away (1 - direction) j h b (omega arith) (w.none j c f)) g.lowering
                  (added_of_day (1 - direction) i x.lowering y.lowering h own b.lowering);
            }

    pub walking_ends : (x : Amounts 24) → Walking m k d direction a x 0 → direction ≡ raising_direction m k
        → BothAdded 24 a x (λ h. sum (word m ORDERS) (λ i. order_share m (k + 1) (raising_direction m k) i (24 * d + h)))
        (λ h. sum (word m ORDERS) (λ i. order_share m (k + 1) (1 - raising_direction m k) i (24 * d + h))) 1_024_000_000_000
    walking_ends x g q =
        rw (← q) (record {
          raising = walked_ends (day_share m k d direction) (word m ORDERS) a.raising x.raising g.raising;
          lowering = walked_ends (day_share m k d (1 - direction)) (word m ORDERS) a.lowering x.lowering g.lowering;
        })

  -- nothing open: no offer of the unit, no order of the unit and day
  pub day_idle : (t : Option ℕ) → is_some t ≡ false → Latest (by_day m) (64 * d + k) (link_of t) (word m ORDERS) → OffersOther m (k + 1) (word m OFFERS) → DayIdle m k d
  unfolding open_up open_down
  day_idle (Some i) z l o = cc
  day_idle None z l o =
      record {
        up = λ h b.
            let a = sum-zero (word m OFFERS) (λ j. offer_share m (k + 1) j (24 * d + h)) (λ j q. offer_other m (k + 1) j (o.none j q) (24 * d + h)) in
            let c = sum-zero (word m ORDERS) (λ i. order_share m (k + 1) (raising_direction m k) i (24 * d + h))
            (λ i q. share_away (raising_direction m k) i h b q (l.none i (omega arith) q)) in
            omega arith;
        down = λ h b.
            sym (sum-zero (word m ORDERS) (λ i. order_share m (k + 1) (1 - raising_direction m k) i (24 * d + h))
            (λ i q. share_away (1 - raising_direction m k) i h b q (l.none i (omega arith) q)));
      }

-- the offers and the orders gathered
pub gathered : (m : List ℕ) (k d : ℕ) (a b : Amounts 24) (x : List ℕ) → length a.raising ≡ 24 → BothBelow 0 a
    → Added (length a.raising) a.raising x (λ h. sum (word m OFFERS) (λ j. offer_share m (k + 1) j (24 * d + h))) 32_000_000_000
    → BothAdded 24 (record { raising = x; lowering = a.lowering }) b (λ h. sum (word m ORDERS)
    (λ i. order_share m (k + 1) (raising_direction m k) i (24 * d + h)))
    (λ h. sum (word m ORDERS) (λ i. order_share m (k + 1) (1 - raising_direction m k) i (24 * d + h))) 1_024_000_000_000
    → Gathered m k d b
unfolding open_up open_down
gathered m k d a b x long z o w =
    record {
      up = λ h l. omega (arith, z.0 h, o.each h (omega arith), w.raising.each h l);
      down = λ h l. omega (arith, z.1 h, w.lowering.each h l);
      most = (λ h. omega (arith, z.0 h, o.grown h, w.raising.grown h), λ h. omega (arith, z.1 h, w.lowering.grown h));
    }
