-- Amounts added by period: none, one more, and what an order and an offer in memory add.
use Rattle.std.proofs.Common.{◌≡◌, ℕ, zero, suc, ◌+◌, ◌-◌, ◌*◌, ◌<◌, ◌≤◌, ◌&&◌, eqb, List, [], ◌∷◌, length, get_or, set, take, drop, refl}
use Rattle.std.proofs.Common.{sym, ap, ◌∙◌, add-zero, arith, length-drop, length-set, length-take-le, get_or-drop, get_or-take}
use Rattle.std.proofs.Common.{get_or-set_other, get_or-set_same}
use Rattle.std.proofs.Common.{eq-eqb, ne_eqb}
use Rattle.std.proofs.Common.{◌++◌}
use Rattle.std.proofs.Math.ListN.{get_or-append}
use Rattle.std.proofs.Math.Seq.{length_front}
use Rattle.std.proofs.lemmas.List.{get_or-append_right}
use native.Mathlib.Decide.{ℕ_discrete, dec_lt}
use Rattle.measures.specs.Ranges.{most_energy}
use Rattle.measures.specs.Lists.{sum}
use Rattle.measures.proofs.ListLaws.{and_right_false, all_at, sum_none, sum_more, sum_at, total-table}
use Rattle.limits.specs.Units.{periods}
use Rattle.book.specs.Layout.{DAYS, UNITS, OFFERS, ORDERS, offer_place, order_place, UNIT, DIRECTION, PERIOD, QUANTITY, amount_place, word, amount_at}
use Rattle.book.specs.Inner.Readable.{Ranged}
use Rattle.book.specs.Inner.Fitting.{Below, Added, order_share, offer_share}
use Rattle.book.proofs.Laws.Memory.RangeFacts.{OrderWords, order_facts, orders_every, OfferWords, offer_facts, offers_every}

-- nothing stands past the end of a list
pub get_d_past : (l : List ℕ) (i : ℕ) → length l ≤ i → get_or l i 0 ≡ 0
get_d_past [] i h = refl
get_d_past (x ∷ l) zero h = absurd (omega arith)
get_d_past (x ∷ l) (suc i) h = get_d_past l i (omega arith)

-- what stands in a memory that is in range
pub order_words_lem : (m : List ℕ) (k : ℕ) → Ranged m → k < word m ORDERS → OrderWords m k
order_words_lem m k r h =
    let s = r.readable.orders_to in
    order_facts m k (omega arith) (all_at (word m ORDERS) _ k (sym (orders_every m) ∙ r.orders) h)

-- where an order's words lie
pub order_period_in : (m : List ℕ) (k : ℕ) → Ranged m → k < word m ORDERS → word m (order_place k + PERIOD) < periods (word m DAYS)
order_period_in m k r h = (order_words_lem m k r h).period

pub order_unit_in : (m : List ℕ) (k : ℕ) → Ranged m → k < word m ORDERS
    → (1 ≤ word m (order_place k + UNIT)) × (word m (order_place k + UNIT) ≤ word m UNITS)
order_unit_in m k r h = (order_words_lem m k r h).unit

pub order_quantity_in : (m : List ℕ) (k : ℕ) → Ranged m → k < word m ORDERS → word m (order_place k + QUANTITY) ≤ most_energy
order_quantity_in m k r h = (order_words_lem m k r h).quantity.1

pub ruleset order_ranges = (order_period_in, order_unit_in, order_quantity_in)

offer_words_lem : (m : List ℕ) (j : ℕ) → Ranged m → j < word m OFFERS → OfferWords m j
offer_words_lem m j r h = offer_facts m j (all_at (word m OFFERS) _ j (sym (offers_every m) ∙ r.offers) h)

amount_small : (m : List ℕ) (j p : ℕ) → Ranged m → j < word m OFFERS → p < periods (word m DAYS) → amount_at m j p ≤ most_energy
amount_small m j p r h l =
    let w = (offer_words_lem m j r h).whole in
    let t = total-table (periods (word m DAYS)) (amount_at m j) in
    let s = sum_at (periods (word m DAYS)) (amount_at m j) p l in
    omega arith

-- nothing added, and something more
pub added_none : (n : ℕ) (l : List ℕ) (f : ℕ → ℕ) (g : ℕ) → ((p : ℕ) → p < n → f p ≡ 0) → Added n l l f g
added_none n l f g z = record { long = refl; each = λ p h. let e = z p h in omega arith; grown = λ p. omega arith }

pub added_more : (n : ℕ) (l x y : List ℕ) (f h s : ℕ → ℕ) (g d t : ℕ) → Added n l x f g → Added n x y h d
    → ((p : ℕ) → p < n → s p ≡ f p + h p) → t ≡ g + d → Added n l y s t
added_more n l x y f h s g d t a b e q =
    record {
      long = b.long ∙ a.long;
      each = λ p i. let u = a.each p i in let v = b.each p i in let w = e p i in omega arith;
      grown = λ p. let u = a.grown p in let v = b.grown p in omega arith;
    }

-- an amount added at one place
pub placed : (n : ℕ) (l : List ℕ) (k q : ℕ) (f : ℕ → ℕ) → k < length l → q ≤ most_energy → f k ≡ q → ((i : ℕ) → (i ≡ k → ⊥) → f i ≡ 0)
    → Added n l (set l k (get_or l k 0 + q)) f most_energy
placed n l k q f h s e z = record { long = length-set l _ _; each = λ i b. each i (ℕ_discrete i k); grown = λ i. grown i (ℕ_discrete i k) }
  where
    each : (i : ℕ) → Dec (i ≡ k) → get_or (set l k (get_or l k 0 + q)) i 0 ≡ get_or l i 0 + f i
    each i (yes w) = rw (w, e) (get_or-set_same l k _ 0 h)
    each i (no w) = rw (z i w) (get_or-set_other l k i _ 0 w ∙ sym (add-zero _))

    grown : (i : ℕ) → Dec (i ≡ k) → get_or (set l k (get_or l k 0 + q)) i 0 ≤ get_or l i 0 + most_energy
    grown i (yes w) = rw w (rw (get_or-set_same l k (get_or l k 0 + q) 0 h) (omega arith))
    grown i (no w) = rw (get_or-set_other l k i (get_or l k 0 + q) 0 w) (omega arith)

-- the share of an order, by cases
module _ (m : List ℕ) (u direction k : ℕ) where
  pub share_other : (word m (order_place k + UNIT) ≡ u → ⊥) → (p : ℕ) → order_share m u direction k p ≡ 0
  unfolding order_share
  share_other n p = rw (ne_eqb _ _ n)

  pub share_against : (word m (order_place k + DIRECTION) ≡ direction → ⊥) → (p : ℕ) → order_share m u direction k p ≡ 0
  unfolding order_share
  share_against n p =
      rw (and_right_false (eqb (word m (order_place k + UNIT)) u && eqb (word m (order_place k + PERIOD)) p) (eqb (word m (order_place k + DIRECTION)) direction)
      (ne_eqb _ _ n))

  module _ (e : word m (order_place k + UNIT) ≡ u) (f : word m (order_place k + DIRECTION) ≡ direction) where
    pub share_there : (p : ℕ) → word m (order_place k + PERIOD) ≡ p → order_share m u direction k p ≡ word m (order_place k + QUANTITY)
    unfolding order_share
    share_there p q = rw (eq-eqb _ _ e, eq-eqb _ _ f, eq-eqb _ _ q)

    pub share_elsewhere : (p : ℕ) → (word m (order_place k + PERIOD) ≡ p → ⊥) → order_share m u direction k p ≡ 0
    unfolding order_share
    share_elsewhere p q = rw (eq-eqb _ _ e, ne_eqb _ _ q)

-- the amounts below p are added, the others not yet
pub record Adding (l x : List ℕ) (f : ℕ → ℕ) (p : ℕ) : Type 0 where
  pub long : length x ≡ length l
  pub passed : (i : ℕ) → i < p → get_or x i 0 ≡ get_or l i 0 + f i
  pub still : (i : ℕ) → p ≤ i → get_or x i 0 ≡ get_or l i 0

-- amounts of the offer at place j, from period p on, which stand from a to b
module _ (m : List ℕ) (j p a b : ℕ) (r : Ranged m) (h : j < word m OFFERS) (from : a ≡ amount_place j p)
    (to : p + (b - a) ≤ periods (word m DAYS)) where
  abbrev part : List ℕ
  part = take (b - a) (drop a m)

  part_long : length part ≡ b - a
  part_long =
      let d = r.readable in
      length-take-le (b - a) (drop a m) (rw (length-drop a m) (omega arith))

  part_at : (i : ℕ) → i < b - a → get_or part i 0 ≡ word m (a + i)
  part_at i l = get_or-take (b - a) (drop a m) i 0 l ∙ get_or-drop a m i 0

  part_small : Below most_energy part
  part_small i = go (dec_lt i (b - a))
    where
      go : Dec (i < b - a) → get_or part i 0 ≤ most_energy
      go (yes l) =
          let s = amount_small m j (p + i) r h (omega arith) in
          let e : word m (a + i) ≡ amount_at m j (p + i) = ap (λ (k : ℕ). word m k) (omega arith) in
          let t = part_at i l in
          omega arith
      go (no l) = let t = get_d_past part i (rw part_long (omega arith)) in omega arith

  pub part_asks : (l : List ℕ) → b - a ≡ length l → Below 2_000_000_000_000 l
      → (length part ≡ length l) × Below most_energy part × Below 2_000_000_000_000 l
  part_asks l n s = (part_long ∙ n, part_small, s)

  pub part_added : (n : ℕ) (l x : List ℕ) (s : ℕ → ℕ) → n ≡ b - a → Added n l x (λ i. get_or part i 0) most_energy
      → ((i : ℕ) → i < n → s i ≡ amount_at m j (p + i)) → Added n l x s most_energy
  part_added n l x s e w q =
      record {
        long = w.long;
        each = λ i k.
            let t = w.each i k in
            let u = part_at i (omega arith) in
            let v = q i k in
            let e : word m (a + i) ≡ amount_at m j (p + i) = ap (λ (k : ℕ). word m k) (omega arith) in
            omega arith;
        grown = w.grown;
      }

-- amounts added to the first n
pub added_first : (n : ℕ) (l x : List ℕ) (f : ℕ → ℕ) (g : ℕ) → n ≤ length l → Added (length (take n l)) (take n l) x f g
    → Added n l (x ++ drop n l) f g
added_first n l x f g room a =
    record { long = length_front l x n a.long; each = each; grown = λ p. grown p (dec_lt p n) }
  where
    front : length (take n l) ≡ n
    front = length-take-le n l room

    long : length x ≡ n
    long = a.long ∙ front

    each : (p : ℕ) → p < n → get_or (x ++ drop n l) p 0 ≡ get_or l p 0 + f p
    each p h =
        let t = get_or-append x (drop n l) 0 p (omega (arith, long)) in
        let u = a.each p (omega (arith, front)) in
        let v = get_or-take n l p 0 h in
        omega arith

    grown : (p : ℕ) → Dec (p < n) → get_or (x ++ drop n l) p 0 ≤ get_or l p 0 + g
    grown p (yes h) =
        let t = get_or-append x (drop n l) 0 p (omega (arith, long)) in
        let u = a.grown p in
        let v = get_or-take n l p 0 h in
        omega arith
    grown p (no h) =
        let t = get_or-append_right x (drop n l) n p 0 long (omega arith) in
        let u = get_or-drop n l (p - n) 0 in
        let e : get_or l (n + (p - n)) 0 ≡ get_or l p 0 = ap (λ (i : ℕ). get_or l i 0) (omega arith) in
        omega arith

-- the share of an offer, by cases
module _ (m : List ℕ) (u j : ℕ) where
  pub offer_other : (word m (offer_place j + UNIT) ≡ u → ⊥) → (p : ℕ) → offer_share m u j p ≡ 0
  unfolding offer_share
  offer_other n p = rw (ne_eqb _ _ n)

  pub offer_own : word m (offer_place j + UNIT) ≡ u → (p : ℕ) → offer_share m u j p ≡ amount_at m j p
  unfolding offer_share
  offer_own e p = rw (eq-eqb _ _ e)

-- one share more
pub shares_none : (n : ℕ) (l : List ℕ) (s : ℕ → ℕ → ℕ) → Added n l l (λ p. sum 0 (λ k. s k p)) 0
shares_none n l s = added_none n l _ 0 (λ p h. sum_none _)

pub shares_more : (n : ℕ) (l x y : List ℕ) (s : ℕ → ℕ → ℕ) (k : ℕ) → Added n l x (λ p. sum k (λ i. s i p)) (most_energy * k) → Added n x y (s k) most_energy
    → Added n l y (λ p. sum (k + 1) (λ i. s i p)) (most_energy * (k + 1))
shares_more n l x y s k a b = added_more n l x y _ (s k) _ (most_energy * k) most_energy _ a b (λ p h. sum_more k (λ i. s i p)) (omega arith)
