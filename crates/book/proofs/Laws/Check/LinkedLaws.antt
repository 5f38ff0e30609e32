-- The orders linked by a key.
use Rattle.std.proofs.Common.{◌≡◌, ℕ, ◌+◌, ◌-◌, ◌*◌, ◌/◌, ◌<◌, ◌≤◌, List, length, get_or, set, sym, ap, ◌∙◌, arith, length-set}
use Rattle.std.proofs.Common.{get_or-set_other, get_or-set_same}
use native.Mathlib.Decide.{ℕ_discrete}
use Rattle.book.specs.Layout.{DAYS, ORDERS, order_place, UNIT, PERIOD, word}
use Rattle.book.specs.Inner.Readable.{Ranged}
use Rattle.book.specs.Inner.Whole.{by_period, by_day, Latest, Chained}
use Rattle.book.proofs.Laws.Check.ShareLaws.{order_words_lem}

-- the last order of a key, with one more of the key and with one more of another
module _ (key : ℕ → ℕ) where
  latest_here : (v k : ℕ) → key k ≡ v → Latest key v (k + 1) (k + 1)
  latest_here v k e =
      record {
        to = omega arith;
        own = λ h. let z : k + 1 - 1 ≡ k = omega arith in ap key z ∙ e;
        none = λ i h l q. omega arith;
      }

  latest_other : (v t k : ℕ) → (key k ≡ v → ⊥) → Latest key v t k → Latest key v t (k + 1)
  latest_other v t k n a = record { to = let z = a.to in omega arith; own = a.own; none = λ i h l q. go i h l q (ℕ_discrete i k) }
    where
      go : (i : ℕ) → t ≤ i → i < k + 1 → key i ≡ v → Dec (i ≡ k) → ⊥
      go i h l q (yes e) = n (sym (ap key e) ∙ q)
      go i h l q (no w) = a.none i h (omega arith) q

  -- the first k of n orders are linked
  pub record Linking (n : ℕ) (start₁ start₂ last before : List ℕ) (k : ℕ) : Type 0 where
    pub few : k ≤ n
    pub lasts : length last ≡ length start₁
    pub befores : length before ≡ length start₂
    pub of_value : (v : ℕ) → v < length last → Latest key v (get_or last v 0) k
    pub of_order : Chained key k before

  module _ (n : ℕ) (start₁ start₂ last before : List ℕ) (k : ℕ) (g : Linking n start₁ start₂ last before k) where
    pub linking_more : (v : ℕ) → v ≡ key k → k < n → v < length start₁ → k < length start₂
        → Linking n start₁ start₂ (set last v (k + 1)) (set before k (get_or last v 0)) (k + 1)
    linking_more v e h in_start in-places =
        record {
          few = omega arith;
          lasts = length-set last _ _ ∙ g.lasts;
          befores = length-set before _ _ ∙ g.befores;
          of_value = λ w l. value w (rw (length-set last v (k + 1)) at l) (ℕ_discrete w v);
          of_order = λ i l. order i l (ℕ_discrete i k);
        }
      where
        inside : v < length last
        inside = let s = g.lasts in omega arith

        room : k < length before
        room = let s = g.befores in omega arith

        value : (w : ℕ) → w < length last → Dec (w ≡ v) → Latest key w (get_or (set last v (k + 1)) w 0) (k + 1)
        value w l (yes q) = rw q (rw (get_or-set_same last v (k + 1) 0 inside) (latest_here v k (sym e)))
        value w l (no q) = rw (get_or-set_other last v w (k + 1) 0 q) (latest_other w _ k (λ z. q (sym z ∙ sym e)) (g.of_value w l))

        order : (i : ℕ) → i < k + 1 → Dec (i ≡ k) → Latest key (key i) (get_or (set before k (get_or last v 0)) i 0) i
        order i l (yes q) = rw q (rw (get_or-set_same before k (get_or last v 0) 0 room, ← e) (g.of_value v inside))
        order i l (no q) = rw (get_or-set_other before k i (get_or last v 0) 0 q) (g.of_order i (omega arith))

-- the keys of orders in range
module _ (m : List ℕ) (i : ℕ) (r : Ranged m) (h : i < word m ORDERS) where
  pub period_key : by_period m i < 24 * word m DAYS
  unfolding by_period
  period_key = (order_words_lem m i r h).period

  pub day_key : by_day m i < 64 * word m DAYS
  unfolding by_day
  day_key =
      let w = order_words_lem m i r h in
      let p = w.period in
      let u = w.unit in
      let n = r.readable.units_to in
      omega arith

  -- the unit and the day of a key
  module _ (k d : ℕ) (few : k < 64) (e : by_day m i ≡ 64 * d + k) where
    pub key_unit : word m (order_place i + UNIT) ≡ k + 1
    unfolding by_day
    key_unit = let u = (order_words_lem m i r h).unit in let n = r.readable.units_to in omega arith

    pub key_day : word m (order_place i + PERIOD) / 24 ≡ d
    unfolding by_day
    key_day = let u = (order_words_lem m i r h).unit in let n = r.readable.units_to in omega arith

  pub key_by : (k d : ℕ) → word m (order_place i + UNIT) ≡ k + 1 → word m (order_place i + PERIOD) / 24 ≡ d → by_day m i ≡ 64 * d + k
  unfolding by_day
  key_by k d e f = omega arith
