-- Demand 3 of the engine itself: lists of calls on lent memory, each meeting its own contract (paper 01, "The tally").
use Rattle.std.specs.Prelude.{ℕ, ◌+◌, ◌*◌, ◌≤◌, ◌<◌, ◌≡◌, true, List, [], length, get_or}
use Rattle.book.specs.Calls.{Call, call_enrol, call_offer, call_take, call_withdraw, call_order, call_cancel, call_clear, call_close}
use Rattle.book.specs.Calls.{Heard}
use Rattle.book.specs.Book.{Rules}
use Rattle.book.specs.Contract.{Answer, told_by, sound_in, Made, Opened, Curved}
use Rattle.book.specs.Layout.{decode}
use Rattle.matching.specs.Memory.{rows_in}
use Rattle.demands.specs.Tally.{Tally, opened, tallied}
use Rattle.demands.specs.Demand3.{Demand3, is_member, net_of}

-- the rows that a call is lent: its own count of numbers, or none
abbrev pub Lent : Call → List ℕ → List ℕ → Type 0
Lent (call_enrol kind capacity asset) rows rows' = (rows ≡ []) × (rows' ≡ [])
Lent (call_offer unit partner price amounts) rows rows' = (rows ≡ []) × (rows' ≡ [])
Lent (call_take unit number quantity lent) rows rows' = lent ≡ length rows
Lent (call_withdraw unit number) rows rows' = (rows ≡ []) × (rows' ≡ [])
Lent (call_order unit direction period price quantity lent) rows rows' = lent ≡ length rows
Lent (call_cancel unit number) rows rows' = (rows ≡ []) × (rows' ≡ [])
Lent (call_clear lent) rows rows' = lent ≡ length rows
Lent call_close rows rows' = (rows ≡ []) × (rows' ≡ [])

-- a list of calls from the memory m to the memory x, "whatever the arguments and lent rows": each on the memory that the
-- last one left, with its answer and the rows as they stand at its return, and what its contract promises
pub data Trace : List ℕ → List ℕ → Type 0 where
  none : {m : List ℕ} → Trace m m
  next : {m n x : List ℕ} (c : Call) (rows rows' : List ℕ) (a : Answer) → Lent c rows rows' → Made m rows c a n rows' → Trace n x → Trace m x

-- "number or refusal, and the counted rows as they stand at its return"
abbrev pub heard : Answer → List ℕ → Heard
heard a rows' = record { refusal = (told_by a).refusal; number = (told_by a).number; rows = rows_in rows' (told_by a).count }

-- "The tally is fed each call's arguments and answers." "Nothing comes from the book."
unfoldable pub tally_of : {m x : List ℕ} → Tally → Trace m x → Tally
tally_of t none = t
tally_of t (next c rows rows' a l p tr) = tally_of (tallied t c (heard a rows')) tr

-- what is claimed of the tally t and the memory x that the same calls left
pub record Claimed (t : Tally) (x : List ℕ) : Type 0 where
  -- "Every book that opening and the calls make is sound."
  pub sound : sound_in x ≡ true
  -- nets, volumes, balance and bounds
  pub book : Demand3 t (decode x)
  -- "Curves are called after the list, for any enrolled unit and any day of the term, 48 numbers lent": each hour's two
  -- points sum to the net from the rows and differ by at most 1
  pub curves : (u day : ℕ) (pts : List ℕ) (a : Answer) (pts' : List ℕ) → is_member t u ≡ true → day < t.rules.days → 48 ≤ length pts
      → Curved x pts u day a pts'
      → ((told_by a).refusal ≡ 0)
      × ((h : ℕ) → h < 24 → (get_or pts' (2 * h) 0 + get_or pts' (2 * h + 1) 0 ≡ net_of t u (24 * day + h))
      × (get_or pts' (2 * h) 0 ≤ get_or pts' (2 * h + 1) 0)
      × (get_or pts' (2 * h + 1) 0 ≤ get_or pts' (2 * h) 0 + 1))

-- the theorem over every list of calls from a newly opened book
abbrev pub OverEveryTrace : Type 0
OverEveryTrace =
    (m₀ : List ℕ) (r : Rules) (a : Answer) (m x : List ℕ) → Opened m₀ r a m → (told_by a).refusal ≡ 0
    → (tr : Trace m x) → Claimed (tally_of (opened r) tr) x
