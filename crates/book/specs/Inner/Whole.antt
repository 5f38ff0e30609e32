-- What the functions that check all units, day by day, and those that check that orders may stand together promise one
-- another. No sentence of the paper is rendered here: what they come to is `units_whole` and `pairs_fit` (Readable.antt).
use Rattle.std.specs.Prelude.{◌≡◌, ℕ, ◌+◌, ◌-◌, ◌*◌, ◌/◌, ◌<◌, ◌≤◌, Bool, true, cond, List, [], ◌∷◌, length, Option, None, Some, ◌≢◌, slice_index}
use Rattle.measures.specs.Lists.{holds, sum, all}
use Rattle.limits.specs.Units.{periods, generator}
use Rattle.matching.specs.Memory.{order_at}
use Rattle.book.specs.Sound.{apart}
use Rattle.book.specs.Layout.{
  DAYS,
  PHASE,
  OFFERS,
  ORDERS,
  unit_place,
  offer_place,
  order_place,
  UNIT,
  DIRECTION,
  PERIOD,
  PRICE,
  day_place,
  word,
  orders_part,
}
use Rattle.book.specs.declared.pass.Amounts.{Amounts}
use Rattle.book.specs.declared.pass.Sums.{Sums}
use Rattle.book.specs.declared.standing.Links.{Links}
use Rattle.book.specs.Inner.Readable.{pair_fits}
use Rattle.book.specs.Inner.Fitting.{Below, Added, order_share, offer_share}
use Rattle.book.specs.Inner.Pass.{most_open, Passed, day_cell}

-- what the order at place i is linked by: its period, or its unit and day
unfoldable pub by_period : List ℕ → ℕ → ℕ
by_period m i = word m (order_place i + PERIOD)

unfoldable pub by_day : List ℕ → ℕ → ℕ
by_day m i = 64 * (word m (order_place i + PERIOD) / 24) + (word m (order_place i + UNIT) - 1)

-- one more than a place, or 0 for none, as a link holds it
abbrev pub link_of : Option ℕ → ℕ
link_of None = 0
link_of (Some i) = i + 1

-- t is one more than the place of the last of the first n orders whose key is v, or 0 where there is none
pub record Latest (key : ℕ → ℕ) (v t n : ℕ) : Type 0 where
  pub to : t ≤ n
  pub own : 0 < t → key (t - 1) ≡ v
  pub none : (i : ℕ) → t ≤ i → i < n → key i ≢ v

-- each of the first n orders has a link to the one before it with its key
abbrev pub Chained : (ℕ → ℕ) → ℕ → List ℕ → Type 0
Chained key n before = (k : ℕ) → k < n → Latest key (key k) (slice_index before k) k

-- the first n orders linked by their keys: the last of each key, and the one before each order
pub record Linked (key : ℕ → ℕ) (n : ℕ) (last before : List ℕ) : Type 0 where
  pub of_value : (v : ℕ) → v < length last → Latest key v (slice_index last v) n
  pub of_order : Chained key n before

-- the orders, if there are any, linked by unit and day
pub record DayLinks (m : List ℕ) (days : Links) : Type 0 where
  pub long : 0 < word m ORDERS → 64 * word m DAYS ≤ length days.last.now
  pub heads : 0 < word m ORDERS → (v : ℕ) → v < length days.last.now → Latest (by_day m) v (slice_index days.last.now v) (word m ORDERS)
  pub places : word m ORDERS ≤ length days.before.now
  pub chain : Chained (by_day m) (word m ORDERS) days.before.now

-- each order has a link to the one before it of its unit and day, and to that of its period
pub record OrderLinks (m : List ℕ) (own peers : Links) : Type 0 where
  pub own_long : word m ORDERS ≤ length own.before.now
  pub peers_long : word m ORDERS ≤ length peers.before.now
  pub of_day : Chained (by_day m) (word m ORDERS) own.before.now
  pub of_period : Chained (by_period m) (word m ORDERS) peers.before.now

-- an order before the one at place k, at place t, has its unit and period
pub record AlikeBefore (m : List ℕ) (k t : ℕ) : Type 0 where
  pub to : t < k
  pub unit : word m (order_place t + UNIT) ≡ word m (order_place k + UNIT)
  pub period : word m (order_place t + PERIOD) ≡ word m (order_place k + PERIOD)

-- r is the place of such an order, or none where there is none
abbrev pub Alike : List ℕ → ℕ → Option ℕ → Type 0
Alike m k None = (j : ℕ) → j < k → word m (order_place j + UNIT) ≡ word m (order_place k + UNIT) → word m (order_place j + PERIOD) ≢ word m (order_place k + PERIOD)
Alike m k (Some t) = AlikeBefore m k t

-- lists with room for each period: of each period and the first k orders, what is above each buy price and not above it needlessly,
-- and what is not above any sell price and not below it needlessly
pub record PricesNoted (m : List ℕ) (k : ℕ) (high low : List ℕ) : Type 0 where
  pub high_long : periods (word m DAYS) ≤ length high
  pub low_long : periods (word m DAYS) ≤ length low
  pub above : (p j : ℕ) → p < periods (word m DAYS) → j < k → word m (order_place j + DIRECTION) ≡ 1 → word m (order_place j + PERIOD) ≡ p
      → word m (order_place j + PRICE)
      < slice_index high p
  pub least : (p x : ℕ) → p < periods (word m DAYS) → ((j : ℕ) → j < k → word m (order_place j + DIRECTION) ≡ 1 → word m (order_place j + PERIOD) ≡ p
      → word m (order_place j + PRICE)
      < x) → slice_index high p ≤ x
  pub below : (p j : ℕ) → p < periods (word m DAYS) → j < k → word m (order_place j + DIRECTION) ≡ 0 → word m (order_place j + PERIOD) ≡ p → slice_index low p
      ≤ word m (order_place j + PRICE)
  pub most : (p x : ℕ) → p < periods (word m DAYS) → x ≤ 10_000_000
      → ((j : ℕ) → j < k → word m (order_place j + DIRECTION) ≡ 0 → word m (order_place j + PERIOD) ≡ p → x
      < word m (order_place j + PRICE)) → x < slice_index low p

-- the same in the rolling phase
abbrev pub PricesKept : List ℕ → ℕ → List ℕ → List ℕ → Type 0
PricesKept m k high low = word m PHASE ≡ 1 → PricesNoted m k high low

-- whether the orders at places k and j do not cross
abbrev pub crossless : List ℕ → ℕ → ℕ → Bool
crossless m k j = holds (apart (order_at (orders_part m) k) (order_at (orders_part m) j) ∷ apart (order_at (orders_part m) j) (order_at (orders_part m) k) ∷ [])

-- r says whether the order at place k crosses none before it; if so, its price is entered
pub record Priced (m : List ℕ) (k : ℕ) (r : Bool) (high low : List ℕ) : Type 0 where
  pub answer : r ≡ all k (crossless m k)
  pub entered : r ≡ true → PricesNoted m (k + 1) high low

-- whether each of the first k orders may stand with those before it
unfoldable pub pairs_before : List ℕ → ℕ → Bool
pairs_before m k = all k (λ i. all i (λ j. pair_fits (word m PHASE) (order_at (orders_part m) i) (order_at (orders_part m) j)))

-- r says whether the order at place k may stand with each before it; in the rolling phase its price is then entered
pub record OrderStands (m : List ℕ) (k : ℕ) (r : Bool) (high low : List ℕ) : Type 0 where
  pub answer : r ≡ all k (λ j. pair_fits (word m PHASE) (order_at (orders_part m) k) (order_at (orders_part m) j))
  pub entered : r ≡ true → PricesKept m (k + 1) high low

-- the direction that raises the unit at place k
unfoldable pub raising_direction : List ℕ → ℕ → ℕ
raising_direction m k = cond (generator (word m (unit_place k))) 0 1

-- what is open of the unit at place k in period p
unfoldable pub open_up : List ℕ → ℕ → ℕ → ℕ
open_up m k p =
    sum (word m OFFERS) (λ j. offer_share m (k + 1) j p) + sum (word m ORDERS) (λ i. order_share m (k + 1) (raising_direction m k) i p)

unfoldable pub open_down : List ℕ → ℕ → ℕ → ℕ
open_down m k p = sum (word m ORDERS) (λ i. order_share m (k + 1) (1 - raising_direction m k) i p)

-- that each amount that raises or lowers is at most a bound
abbrev pub BothBelow : {n : ℕ} → ℕ → Amounts n → Type 0
BothBelow most a = (Below most a.raising) × (Below most a.lowering)

-- b is the amounts a with f of each of the first n hours or periods added to what raises, and h to what lowers
pub record BothAdded (n : ℕ) (a b : Amounts n) (f h : ℕ → ℕ) (g : ℕ) : Type 0 where
  pub raising : Added n a.raising b.raising f g
  pub lowering : Added n a.lowering b.lowering h g

-- what the order at place i has open in a direction, by place of a table of n: by hour of its day for 24, by period for 744
unfoldable pub share_in : ℕ → List ℕ → ℕ → ℕ → ℕ → ℕ
share_in n m direction i h = order_share m (word m (order_place i + UNIT)) direction i (n * (word m (order_place i + PERIOD) / n) + h)

-- by hour, what is open of the unit at place k on day d
pub record Gathered (m : List ℕ) (k d : ℕ) (a : Amounts 24) : Type 0 where
  pub up : (h : ℕ) → h < 24 → slice_index a.raising h ≡ open_up m k (24 * d + h)
  pub down : (h : ℕ) → h < 24 → slice_index a.lowering h ≡ open_down m k (24 * d + h)
  pub most : BothBelow most_open a

-- none of the first n offers is unit u's
pub record OffersOther (m : List ℕ) (u n : ℕ) : Type 0 where
  pub none : (j : ℕ) → j < n → word m (offer_place j + UNIT) ≢ u

-- the unit at place k has nothing open on day d
pub record DayIdle (m : List ℕ) (k d : ℕ) : Type 0 where
  pub up : (h : ℕ) → h < 24 → 0 ≡ open_up m k (24 * d + h)
  pub down : (h : ℕ) → h < 24 → 0 ≡ open_down m k (24 * d + h)

-- what the pass over day d of the unit at place k comes to, with what is open
abbrev pub DayPass : List ℕ → ℕ → ℕ → List ℕ → Sums → Type 0
DayPass m k d limits s = Passed 24 (day_cell m (day_place d k) limits (λ h. open_up m k (24 * d + h)) (λ h. open_down m k (24 * d + h))) s
