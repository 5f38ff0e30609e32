-- Rows as overlaps of fills laid end to end: the bid and the ask of each, and what they trade together.
use Prim.Native.Nat.{ℕ, ◌+◌, ◌-◌, ◌<◌, ◌≤◌, min, max}
use mathlib.Core.Path.{◌≡◌, refl, sym, ap, ap₂, ◌∙◌}
use mathlib.Core.Bool.{Bool, true, false, cond}
use mathlib.Core.List.{List, [], ◌∷◌, ◌++◌, map, map-append}
use native.Mathlib.Omega.{arith}
use native.Mathlib.Decide.{dec_lt}
use lib.Dec.{eqb}
use borrow.Author.Tests.{eqb-true, eqb-false}
use Rattle.measures.specs.Lists.{Each, sum_of, keep}
use Rattle.measures.proofs.ListLaws.{cond_case, sum_of_append}
use Rattle.matching.specs.Orders.{Order, Row}
use Rattle.matching.specs.Clearing.{Fill, Span, end_to_end, overlap, rows_of_bid, overlap_rows}
use Rattle.matching.specs.Matchings.{Pair, paired}
use Rattle.matching.proofs.Laws.Lists.EachLaws.{each_append, each_all, keep-sum}
use Rattle.matching.proofs.Laws.Lists.SumLaws.{sum_of_ext, sum_of_when}
use Rattle.matching.proofs.Laws.Clearing.FillLaws.{amounts}

-- a fill as a span from kWh a on
abbrev pub span_at : ℕ → Fill → Span
span_at a f = record { unit = f.order.unit; from = a; upto = a + f.amount }

-- the kWh that a bid's fill from a on shares with an ask's from e on
abbrev pub shared : ℕ → Fill → ℕ → Fill → ℕ
shared a f e h = overlap (span_at a f) (span_at e h)

-- a bid's fill from a on, with each of the asks' fills from e on that it overlaps
unfoldable pub pairs_of_bid : ℕ → Fill → ℕ → List Fill → List Pair
pairs_of_bid a f e [] = []
pairs_of_bid a f e (h ∷ hs) =
    let rest = pairs_of_bid a f (e + h.amount) hs in
    cond (eqb (shared a f e h) 0) rest (record { bid = f.order; ask = h.order; amount = shared a f e h } ∷ rest)

unfoldable pub overlap_pairs : ℕ → List Fill → List Fill → List Pair
overlap_pairs a [] hs = []
overlap_pairs a (f ∷ fs) hs = pairs_of_bid a f 0 hs ++ overlap_pairs (a + f.amount) fs hs

-- the row of a pair
abbrev pub row_of : ℕ → ℕ → Pair → Row
row_of period price x =
    record { way = 3; period = period; seller = x.ask.unit; buyer = x.bid.unit; quantity = x.amount; price = price }

module _ (period price : ℕ) where
  bid_rows : (a : ℕ) (f : Fill) (e : ℕ) (hs : List Fill) → rows_of_bid period price (span_at a f) (end_to_end e hs)
      ≡ map (row_of period price) (pairs_of_bid a f e hs)
  unfolding rows_of_bid end_to_end pairs_of_bid
  bid_rows a f e [] = refl
  bid_rows a f e (h ∷ hs) = go (eqb (shared a f e h) 0) (bid_rows a f (e + h.amount) hs)
    where
      x : Pair
      x = record { bid = f.order; ask = h.order; amount = shared a f e h }

      go : (b : Bool) → rows_of_bid period price (span_at a f) (end_to_end (e + h.amount) hs) ≡ map (row_of period price) (pairs_of_bid a f (e + h.amount) hs)
          → cond b (rows_of_bid period price (span_at a f) (end_to_end (e + h.amount) hs))
          (row_of period price x ∷ rows_of_bid period price (span_at a f) (end_to_end (e + h.amount) hs))
          ≡ map (row_of period price) (cond b (pairs_of_bid a f (e + h.amount) hs) (x ∷ pairs_of_bid a f (e + h.amount) hs))
      go true ih = ih
      go false ih = ap (λ (l : List Row). row_of period price x ∷ l) ih

  -- each row is a pair's
  pub rows_of_pairs : (a : ℕ) (fs hs : List Fill) → overlap_rows period price (end_to_end a fs) (end_to_end 0 hs)
      ≡ map (row_of period price) (overlap_pairs a fs hs)
  unfolding overlap_rows end_to_end overlap_pairs
  rows_of_pairs a [] hs = refl
  rows_of_pairs a (f ∷ fs) hs =
      ap₂ (λ (k l : List Row). k ++ l) (bid_rows a f 0 hs) (rows_of_pairs (a + f.amount) fs hs)
      ∙ sym (map-append (row_of period price) (pairs_of_bid a f 0 hs) (overlap_pairs (a + f.amount) fs hs))

-- what holds of two orders that are filled, and of an amount that is not 0, holds of each pair
module _ (P : Pair → Type 0) (B S : Order → Type 0) (pair : (x : Pair) → B x.bid → S x.ask → 0 < x.amount → P x) where
  bid_each : (a : ℕ) (f : Fill) (e : ℕ) (hs : List Fill) → B f.order → Each (λ h. S h.order) hs → Each P (pairs_of_bid a f e hs)
  unfolding pairs_of_bid
  bid_each a f e [] b s = tt
  bid_each a f e (h ∷ hs) b s =
      let ih = bid_each a f (e + h.amount) hs b s.1 in
      cond_case (λ (l : List Pair). Each P l) (eqb (shared a f e h) 0) (pairs_of_bid a f (e + h.amount) hs)
      (record { bid = f.order; ask = h.order; amount = shared a f e h } ∷ pairs_of_bid a f (e + h.amount) hs) (λ _. ih)
      (λ q. let n = eqb-false (shared a f e h) 0 q in (pair _ b s.0 (omega (arith, n)), ih))

  pub pairs_each : (a : ℕ) (fs hs : List Fill) → Each (λ f. B f.order) fs → Each (λ h. S h.order) hs → Each P (overlap_pairs a fs hs)
  unfolding overlap_pairs
  pairs_each a [] hs b s = tt
  pairs_each a (f ∷ fs) hs b s =
      each_append P (pairs_of_bid a f 0 hs) (overlap_pairs (a + f.amount) fs hs) (bid_each a f 0 hs b.0 s) (pairs_each (a + f.amount) fs hs b.1 s)

-- the smaller and the larger of two, by cases
min_case : (P : ℕ → Type 0) (a b : ℕ) → (a ≤ b → P a) → (b ≤ a → P b) → P (min a b)
min_case P a b h k = go (dec_lt a b)
  where
    go : Dec (a < b) → P (min a b)
    go (yes l) = let e : min a b ≡ a = omega arith in rw e (h (omega arith))
    go (no l) = let e : min a b ≡ b = omega arith in rw e (k (omega arith))

-- two spans end to end share as much with a third as both together
cut : (a b c e u : ℕ) → a ≤ b → b ≤ c → (min b u - max a e) + (min c u - max b e) ≡ min c u - max a e
cut a b c e u h k =
    min_case (λ (m : ℕ). (m - max a e) + (min c u - max b e) ≡ min c u - max a e) b u
    (λ l. omega arith)
    (λ l. let d : min c u ≡ u = omega arith in rw d (omega arith))

-- what lies from lo up to hi of the fills from e on whose orders pass a test
module _ (t : Order → Bool) where
  unfoldable between : ℕ → ℕ → ℕ → List Fill → ℕ
  between lo hi e [] = 0
  between lo hi e (h ∷ hs) = cond (t h.order) (min hi (e + h.amount) - max lo e) 0 + between lo hi (e + h.amount) hs

  between_join : (a b c e : ℕ) (hs : List Fill) → a ≤ b → b ≤ c → between a b e hs + between b c e hs ≡ between a c e hs
  unfolding between
  between_join a b c e [] h k = refl
  between_join a b c e (f ∷ fs) h k =
      let u = e + f.amount in
      go (min b u - max a e) (min c u - max b e) (between a b u fs) (between b c u fs) (t f.order) (cut a b c e u h k) (between_join a b c u fs h k)
    where
      go : (x y u v : ℕ) {z w : ℕ} (s : Bool) → x + y ≡ z → u + v ≡ w → (cond s x 0 + u) + (cond s y 0 + v) ≡ cond s z 0 + w
      go x y u v true p q = omega arith
      go x y u v false p q = omega arith

  between_none : (a e : ℕ) (hs : List Fill) → between a a e hs ≡ 0
  unfolding between
  between_none a e [] = refl
  between_none a e (h ∷ hs) = go (t h.order) (omega arith) (between_none a (e + h.amount) hs)
    where
      go : {x y : ℕ} (s : Bool) → x ≡ 0 → y ≡ 0 → cond s x 0 + y ≡ 0
      go true p q = omega arith
      go false p q = omega arith

  between-all : (v e : ℕ) (hs : List Fill) → e + amounts hs ≤ v → between 0 v e hs ≡ sum_of (λ h. cond (t h.order) h.amount 0) hs
  unfolding between
  between-all v e [] le = refl
  between-all v e (h ∷ hs) le =
      ap₂ (λ (m n : ℕ). cond (t h.order) m 0 + n) (omega arith) (between-all v (e + h.amount) hs (omega arith))

  -- what pairs of a bid sell, by a test of the asks
  bid_sold : (a : ℕ) (f : Fill) (e : ℕ) (hs : List Fill) → sum_of (λ x. cond (t x.ask) x.amount 0) (pairs_of_bid a f e hs)
      ≡ between a (a + f.amount) e hs
  unfolding pairs_of_bid between
  bid_sold a f e [] = refl
  bid_sold a f e (h ∷ hs) =
      cond_case (λ (l : List Pair). sum_of (λ x. cond (t x.ask) x.amount 0) l ≡ cond (t h.order) (shared a f e h) 0
      + between a (a + f.amount) (e + h.amount) hs)
      (eqb (shared a f e h) 0) (pairs_of_bid a f (e + h.amount) hs)
      (record { bid = f.order; ask = h.order; amount = shared a f e h } ∷ pairs_of_bid a f (e + h.amount) hs)
      (λ q. bid_sold a f (e + h.amount) hs ∙ zero_in (t h.order) (eqb-true (shared a f e h) 0 q))
      (λ q. ap (λ (n : ℕ). cond (t h.order) (shared a f e h) 0 + n) (bid_sold a f (e + h.amount) hs))
    where
      zero_in : {x y : ℕ} (s : Bool) → x ≡ 0 → y ≡ cond s x 0 + y
      zero_in true e = omega arith
      zero_in false e = omega arith

  pairs_between : (a : ℕ) (fs hs : List Fill) → sum_of (λ x. cond (t x.ask) x.amount 0) (overlap_pairs a fs hs)
      ≡ between a (a + amounts fs) 0 hs
  unfolding overlap_pairs
  pairs_between a [] hs = let e : a + 0 ≡ a = omega arith in rw e (sym (between_none a 0 hs))
  pairs_between a (f ∷ fs) hs =
      let e : a + (f.amount + amounts fs) ≡ a + f.amount + amounts fs = omega arith in
      sum_of_append (λ x. cond (t x.ask) x.amount 0) (pairs_of_bid a f 0 hs) (overlap_pairs (a + f.amount) fs hs)
      ∙ ap₂ (λ (m n : ℕ). m + n) (bid_sold a f 0 hs) (pairs_between (a + f.amount) fs hs)
      ∙ between_join a (a + f.amount) (a + f.amount + amounts fs) 0 hs (omega arith) (omega arith)
      ∙ ap (λ (n : ℕ). between a n 0 hs) (sym e)

  -- what pairs of a bid buy, by a test of the bids
  bid_bought : (a : ℕ) (f : Fill) (e : ℕ) (hs : List Fill) → sum_of (λ x. cond (t x.bid) x.amount 0) (pairs_of_bid a f e hs)
      ≡ cond (t f.order) (paired (pairs_of_bid a f e hs)) 0
  bid_bought a f e hs =
      sum_of_ext (λ x. cond (t x.bid) x.amount 0) (λ x. cond (t f.order) x.amount 0) (pairs_of_bid a f e hs)
      (bid_each (λ x. cond (t x.bid) x.amount 0 ≡ cond (t f.order) x.amount 0) (λ o. o ≡ f.order) (λ o. Unit {0})
      (λ x b _ _. rw b refl) a f e hs refl (each_all (λ h. Unit {0}) hs (λ h. tt)))
      ∙ sum_of_when (t f.order) (λ x. x.amount) (pairs_of_bid a f e hs)

-- a bid below all that the asks have is matched whole
between_both : (lo hi e : ℕ) (hs : List Fill) → between (λ o. true) lo hi e hs ≡ min hi (e + amounts hs) - max lo e
unfolding between
between_both lo hi e [] = omega arith
between_both lo hi e (h ∷ hs) =
    ap (λ (n : ℕ). (min hi (e + h.amount) - max lo e) + n) (between_both lo hi (e + h.amount) hs)
    ∙ join lo hi e h.amount (amounts hs)
  where
    smaller : (m n : ℕ) → min m n ≡ min n m
    smaller m n = omega arith

    larger : (m n : ℕ) → max m n ≡ max n m
    larger m n = omega arith

    join : (f u a p t : ℕ) → (min u (a + p) - max f a) + (min u (a + p + t) - max f (a + p)) ≡ min u (a + (p + t)) - max f a
    join f u a p t =
        let e : a + (p + t) ≡ a + p + t = omega arith in
        rw (e, smaller u (a + p), smaller u (a + p + t), larger f a, larger f (a + p))
        (cut a (a + p) (a + p + t) f u (omega arith) (omega arith))

bid_whole : (a : ℕ) (f : Fill) (hs : List Fill) → a + f.amount ≤ amounts hs → paired (pairs_of_bid a f 0 hs) ≡ f.amount
bid_whole a f hs le = bid_sold (λ o. true) a f 0 hs ∙ between_both a (a + f.amount) 0 hs ∙ omega arith

module _ (t : Order → Bool) where
  bought_from : (a : ℕ) (fs hs : List Fill) → a + amounts fs ≤ amounts hs
      → sum_of (λ x. cond (t x.bid) x.amount 0) (overlap_pairs a fs hs) ≡ sum_of (λ f. cond (t f.order) f.amount 0) fs
  unfolding overlap_pairs
  bought_from a [] hs le = refl
  bought_from a (f ∷ fs) hs le =
      sum_of_append (λ x. cond (t x.bid) x.amount 0) (pairs_of_bid a f 0 hs) (overlap_pairs (a + f.amount) fs hs)
      ∙ ap₂ (λ (m n : ℕ). m + n)
      (bid_bought t a f 0 hs ∙ ap (λ (n : ℕ). cond (t f.order) n 0) (bid_whole a f hs (omega arith)))
      (bought_from (a + f.amount) fs hs (omega arith))

  -- both sides' fills sum to one volume: the pairs of orders that pass a test trade what these are filled
  module _ (fs hs : List Fill) (e : amounts fs ≡ amounts hs) where
    pub pairs_bought : paired (keep (λ x. t x.bid) (overlap_pairs 0 fs hs)) ≡ amounts (keep (λ f. t f.order) fs)
    pairs_bought =
        keep-sum (λ x. x.amount) (λ x. t x.bid) (overlap_pairs 0 fs hs) ∙ bought_from 0 fs hs (omega arith)
        ∙ sym (keep-sum (λ f. f.amount) (λ f. t f.order) fs)

    pub pairs_sold : paired (keep (λ x. t x.ask) (overlap_pairs 0 fs hs)) ≡ amounts (keep (λ h. t h.order) hs)
    pairs_sold =
        keep-sum (λ x. x.amount) (λ x. t x.ask) (overlap_pairs 0 fs hs) ∙ pairs_between t 0 fs hs
        ∙ between-all t (0 + amounts fs) 0 hs (omega arith) ∙ sym (keep-sum (λ h. h.amount) (λ h. t h.order) hs)

pub pairs_total : (fs hs : List Fill) → amounts fs ≡ amounts hs → paired (overlap_pairs 0 fs hs) ≡ amounts fs
pairs_total fs hs e = bought_from (λ o. true) 0 fs hs (omega arith)
