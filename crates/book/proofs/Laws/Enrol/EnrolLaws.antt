-- Enrol on a sound book in memory: its checks, and the book with one unit more.
use Rattle.std.proofs.Common.{◌≡◌, ℕ, ◌+◌, ◌*◌, ◌/◌, ◌%◌, ◌<◌, ◌≤◌, Bool, true, false, cond, not, ◌&&◌, leb, List, [], ◌∷◌, ◌++◌, length, set, refl}
use Rattle.std.proofs.Common.{sym, ap, ◌∙◌, arith, length-set, get_or-set_other, get_or-set_same, leb-false}
use lib.ListN.{length-replicate, get_or-replicate}
use Rattle.measures.specs.Lists.{table}
use Rattle.measures.proofs.ListLaws.{table_more, table_is}
use Rattle.limits.specs.Units.{kind_in, capacity_in, asset_in}
use Rattle.matching.specs.Memory.{orders_in}
use Rattle.book.specs.Book.{EnrolledUnit, no_figures, no_trades}
use Rattle.book.specs.Layout.{
  DAYS,
  FLOOR,
  CEILING,
  PHASE,
  GIVEN,
  UNITS,
  OFFERS,
  ORDERS,
  LAYOUT,
  unit_place,
  CAPACITY,
  ASSET,
  amount_place,
  figures_start,
  block_words,
  day_place,
  figure_place,
  RAISED,
  LOWERED,
  MARK,
  VOLUME,
  word,
  figures_at,
  unit_at,
  offer_at,
  orders_part,
  decode,
  Aside,
}
use Rattle.book.specs.Inner.Readable.{Readable}
use Rattle.book.specs.Inner.Runs.{UnitEmptied}
use Rattle.book.specs.Refusals.{first_refusal}
use Rattle.book.specs.Enrol.{enrol_checks, enrolled}
use Rattle.book.proofs.Laws.Memory.RangeFacts.{units_held}
use Rattle.book.proofs.Laws.Memory.PlaceLaws.{block_apart}
use Rattle.book.proofs.Laws.Memory.WordLaws.{book_same, units_same, offers_same, orders_same, aside_by}

-- the checks
module _ (m : List ℕ) (kind capacity asset : ℕ) where
  -- where the checks give 0 there is room for a unit
  pub enrol_room : 0 ≡ first_refusal (enrol_checks (decode m) kind capacity asset) → word m UNITS < 64
  unfolding first_refusal
  enrol_room e = go (kind_in kind) (capacity_in capacity && asset_in asset) (leb 64 (length (decode m).units)) refl e
    where
      go : (p q r : Bool) → leb 64 (length (decode m).units) ≡ r → ◌≡◌ {A = ℕ} 0 (cond (not p) 3 (cond (not q) 4 (cond r 5 0))) → word m UNITS < 64
      go false q r er h = absurd (omega arith)
      go true false r er h = absurd (omega arith)
      go true true true er h = absurd (omega arith)
      go true true false er h = rw (units_held m) at (leb-false 64 (length (decode m).units) er)

-- the memory with one unit more, from x, where its figures are 0
module _ (m x : List ℕ) (kind capacity asset : ℕ) (r : Readable m) (room : word m UNITS < 64) (g : UnitEmptied m x (word m UNITS) (word m DAYS)) where
  abbrev t0 : List ℕ
  t0 = set x (unit_place (word m UNITS)) kind

  abbrev t1 : List ℕ
  t1 = set t0 (unit_place (word m UNITS) + CAPACITY) capacity

  abbrev t2 : List ℕ
  t2 = set t1 (unit_place (word m UNITS) + ASSET) asset

  abbrev more : List ℕ
  more = set t2 UNITS (word m UNITS + 1)

  n0 : length t0 ≡ length m
  n0 = length-set x (unit_place (word m UNITS)) kind ∙ g.long

  n1 : length t1 ≡ length m
  n1 = length-set t0 (unit_place (word m UNITS) + CAPACITY) capacity ∙ n0

  n2 : length t2 ≡ length m
  n2 = length-set t1 (unit_place (word m UNITS) + ASSET) asset ∙ n1

  size : figures_start ≤ length m
  size = let a = r.long in let b = r.days_from in omega arith

  kept_else : (i : ℕ) → (i ≡ UNITS → ⊥) → (i ≡ unit_place (word m UNITS) → ⊥) → (i ≡ unit_place (word m UNITS) + CAPACITY → ⊥)
      → (i ≡ unit_place (word m UNITS) + ASSET → ⊥) → word more i ≡ word x i
  kept_else i a b c d =
      get_or-set_other t2 UNITS i (word m UNITS + 1) 0 a ∙ get_or-set_other t1 (unit_place (word m UNITS) + ASSET) i asset 0 d
      ∙ get_or-set_other t0 (unit_place (word m UNITS) + CAPACITY) i capacity 0 c ∙ get_or-set_other x (unit_place (word m UNITS)) i kind 0 b

  kind_set : word more (unit_place (word m UNITS)) ≡ kind
  kind_set =
      get_or-set_other t2 UNITS (unit_place (word m UNITS)) (word m UNITS + 1) 0 (omega arith) ∙ get_or-set_other t1 (unit_place (word m UNITS) + ASSET)
      (unit_place (word m UNITS)) asset 0 (omega arith)
      ∙ get_or-set_other t0 (unit_place (word m UNITS) + CAPACITY) (unit_place (word m UNITS)) capacity 0 (omega arith) ∙ get_or-set_same x
      (unit_place (word m UNITS)) kind 0 (omega (arith, size))

  capacity_set : word more (unit_place (word m UNITS) + CAPACITY) ≡ capacity
  capacity_set =
      get_or-set_other t2 UNITS (unit_place (word m UNITS) + CAPACITY) (word m UNITS + 1) 0 (omega arith) ∙ get_or-set_other t1 (unit_place (word m UNITS) + ASSET)
      (unit_place (word m UNITS) + CAPACITY) asset 0 (omega arith)
      ∙ get_or-set_same t0 (unit_place (word m UNITS) + CAPACITY) capacity 0 (omega (arith, size, n0))

  asset_set : word more (unit_place (word m UNITS) + ASSET) ≡ asset
  asset_set =
      get_or-set_other t2 UNITS (unit_place (word m UNITS) + ASSET) (word m UNITS + 1) 0 (omega arith) ∙ get_or-set_same t1
      (unit_place (word m UNITS) + ASSET) asset 0 (omega (arith, size, n1))

  count_set : word more UNITS ≡ word m UNITS + 1
  count_set = get_or-set_same t2 UNITS (word m UNITS + 1) 0 (omega (arith, size, n2))

  low : (i : ℕ) → i < figures_start → (i ≡ UNITS → ⊥) → (i ≡ unit_place (word m UNITS) → ⊥) → (i ≡ unit_place (word m UNITS) + CAPACITY → ⊥)
      → (i ≡ unit_place (word m UNITS) + ASSET → ⊥) → word more i ≡ word m i
  low i l a b c d = kept_else i a b c d ∙ g.kept i (λ q e lq le z. omega arith)

  high : (i : ℕ) → figures_start ≤ i → ((q e : ℕ) → q < word m DAYS → e < block_words → i ≡ day_place q (word m UNITS) + e → ⊥) → word more i ≡ word m i
  high i l n = kept_else i (omega arith) (omega (arith, room)) (omega (arith, room)) (omega (arith, room)) ∙ g.kept i n

  figures : table (24 * word m DAYS) (figures_at more (word m UNITS)) ≡ no_trades (word m DAYS)
  figures = table_is (24 * word m DAYS) (figures_at more (word m UNITS)) (no_trades (word m DAYS)) no_figures (length-replicate (24 * word m DAYS) no_figures)
      (λ p hp. cell p hp ∙ sym (get_or-replicate (24 * word m DAYS) p no_figures no_figures hp))
    where
      at : (p c : ℕ) → p < 24 * word m DAYS → c ≤ VOLUME → word more (figure_place (word m UNITS) p + c) ≡ 0
      at p c hp hc =
          let e : day_place (p / 24) (word m UNITS) + (p % 24 + c) ≡ figure_place (word m UNITS) p + c = omega arith in
          kept_else (figure_place (word m UNITS) p + c) (omega arith) (omega (arith, room)) (omega (arith, room)) (omega (arith, room))
          ∙ ap (word x) (sym e) ∙ g.zeros (p / 24) (p % 24 + c) (omega arith) (omega arith)

      held : (p : ℕ) → p < 24 * word m DAYS → word more (figure_place (word m UNITS) p) ≡ 0
      held p hp = ap (word more) (omega arith) ∙ at p 0 hp (omega arith)

      cell : (p : ℕ) → p < 24 * word m DAYS → figures_at more (word m UNITS) p ≡ no_figures
      cell p hp =
          rw (held p hp, at p RAISED hp (omega arith), at p LOWERED hp (omega arith), at p VOLUME hp (omega arith), at p MARK hp (omega arith))

  new : unit_at more (word m DAYS) (word m UNITS) ≡ record { kind = kind; capacity = capacity; asset = asset; figures = no_trades (word m DAYS) }
  new = rw (kind_set, capacity_set, asset_set, figures)

  d0 : word more DAYS ≡ word m DAYS
  d0 = low DAYS (omega arith) (omega arith) (omega arith) (omega arith) (omega arith)

  units : table (word more UNITS) (unit_at more (word more DAYS)) ≡ table (word m UNITS) (unit_at m (word m DAYS))
      ++ (record { kind = kind; capacity = capacity; asset = asset; figures = no_trades (word m DAYS) } ∷ [])
  units =
      ap (λ (n : ℕ). table n (unit_at more (word more DAYS))) count_set
      ∙ ap (λ (d : ℕ). table (word m UNITS + 1) (unit_at more d)) d0
      ∙ table_more (word m UNITS) (unit_at more (word m DAYS))
      ∙ ap (λ (l : List EnrolledUnit). l ++ (unit_at more (word m DAYS) (word m UNITS) ∷ []))
      (units_same more m (word m UNITS) (word m DAYS) (λ i a b. low i (omega (arith, room)) (omega arith) (omega arith) (omega arith) (omega arith))
      (λ k p i hk hp l u. high i (omega arith)
      (λ q e lq le z. block_apart (p / 24) k q (word m UNITS) i (omega (arith, room)) room (omega arith) (omega arith) (omega arith) (omega arith)
      (omega arith))))
      ∙ ap (λ (u : EnrolledUnit). table (word m UNITS) (unit_at m (word m DAYS)) ++ (u ∷ [])) new

  enrolled_in : decode more ≡ enrolled (decode m) kind capacity asset
  unfolding decode
  enrolled_in =
      book_same (decode more) (enrolled (decode m) kind capacity asset) d0 (w FLOOR (omega arith) (omega arith)) (w CEILING (omega arith) (omega arith))
      (w PHASE (omega arith) (omega arith)) (w GIVEN (omega arith) (omega arith)) units
      (ap (λ (n : ℕ). table n (offer_at more (word more DAYS))) (w OFFERS (omega arith) (omega arith))
      ∙ ap (λ (d : ℕ). table (word m OFFERS) (offer_at more d)) d0
      ∙ offers_same more m (word m OFFERS) (word m DAYS) (λ i a b. low i (omega (arith, r.offers_to)) (omega arith) (omega (arith, room)) (omega (arith, room))
      (omega (arith, room)))
      (λ p j hp hj. low (amount_place j p) (omega (arith, r.offers_to, r.days_to)) (omega arith) (omega (arith, room)) (omega (arith, room))
      (omega (arith, room))))
      (ap (λ (n : ℕ). orders_in (orders_part more) n) (w ORDERS (omega arith) (omega arith))
      ∙ orders_same more m (word m ORDERS) r.orders_to (λ i a b. low i (omega (arith, r.orders_to)) (omega arith) (omega (arith, room)) (omega (arith, room))
      (omega (arith, room))))
    where
      w : (i : ℕ) → i < 8 → (i ≡ UNITS → ⊥) → word more i ≡ word m i
      w i l n = low i (omega arith) n (omega arith) (omega arith) (omega arith)

  enrolled_aside : Aside m more
  enrolled_aside =
      aside_by more m (length-set t2 UNITS (word m UNITS + 1) ∙ n2) (low LAYOUT (omega arith) (omega arith) (omega arith) (omega arith) (omega arith))
      (λ i l. high i (omega arith) (λ q e lq le z. omega (arith, room)))

  pub unit_more : (decode more ≡ enrolled (decode m) kind capacity asset) × (Aside m more)
  unit_more = (enrolled_in, enrolled_aside)
