-- Nothing trades more than a clear of lent memory (specs/NothingMore.antt).
use Rattle.std.proofs.Common.{◌≡◌, ℕ, ◌≤◌, true, List, length, refl, ap, ◌∙◌, ap₂, le-ltb}
use Rattle.limits.specs.Units.{periods}
use Rattle.matching.specs.Clearing.{Cleared, clear_from}
use Rattle.matching.specs.Memory.{rows_in, written}
use Rattle.book.specs.Book.{Book, call_phase, rolling_phase, with_orders, in_phase}
use Rattle.book.specs.Trades.{rows_booked}
use Rattle.book.specs.Sound.{sound}
use Rattle.book.specs.Layout.{decode}
use Rattle.book.specs.Refusals.{Outcome, first_refusal, accepted}
use Rattle.book.specs.Clear.{clear_checks, clear_refusal, clearing}
use Rattle.book.specs.Calls.{call_clear}
use Rattle.book.specs.Contract.{Told, told_by, telling}
use Rattle.book.specs.NothingMore.{EveryClear}
use Rattle.book.proofs.Laws.Answer.MadeLaws.{sound-book, chain_sound, decided-accepted, outcome-sound}
use Rattle.book.proofs.Laws.Sound.SoundLaws.{sound_facts}
use Rattle.book.proofs.Laws.Rows.TradeLaws.{kept_rows}
use Rattle.book.proofs.Laws.Rows.SmallLaws.{rows_written}
use Rattle.book.proofs.Laws.Clear.ClearedLaws.{sound-cleared}

-- the clear of a sound book in the call phase
module _ (b : Book) (lent : ℕ) (s : sound b ≡ true) (phase : b.phase ≡ call_phase) (room : 4464 ≤ lent) where
  abbrev all : Cleared
  all = clear_from 0 (periods b.rules.days) b.orders

  passes : clear_refusal b lent ≡ 0
  unfolding clear_refusal first_refusal
  passes = chain_sound b (clear_checks b lent) s ∙ rw (le-ltb lent 4464 room, phase) refl

  clears : clearing b lent ≡ accepted 0 all.rows (in_phase (rows_booked all.rows (with_orders b all.orders)) rolling_phase)
  unfolding clearing
  clears = decided-accepted (clear_refusal b lent) b _ passes

  orders_left : (clearing b lent).book.orders ≡ all.orders
  orders_left =
      ap (λ (o : Outcome). o.book.orders) clears
      ∙ ap (λ (x : Book). x.orders) (kept_rows all.rows (with_orders b all.orders)).rest

pub clear_nothing-more : EveryClear
clear_nothing-more m rows a m' rows' made s phase room =
    let b = decode m in
    let o = outcome-sound m (call_clear (length rows)) s ∙ clears b (length rows) (sound-book m s) phase room in
    let told = made.answer ∙ ap (λ (x : Outcome). telling x.refusal x.number (length x.rows)) o in
    let none = ap (λ (x : Outcome). x.refusal) o in
    let rs = (clear_from 0 (periods b.rules.days) b.orders).rows in
    let handed : rows_in rows' (told_by a).count ≡ rs =
    ap₂ (λ (l : List ℕ) (n : ℕ). rows_in l n) (made.handed none ∙ ap (λ (x : Outcome). written rows x.rows) o) (ap (λ (t : Told). t.count) told)
    ∙ rows_written rows rs in
    let left : (decode m').orders ≡ (clear_from 0 (periods b.rules.days) b.orders).orders =
    ap (λ (x : Book). x.orders) (made.accepted none ∙ ap (λ (x : Outcome). x.book) (outcome-sound m (call_clear (length rows)) s))
    ∙ orders_left b (length rows) (sound-book m s) phase room in
    record {
      done = ap (λ (t : Told). t.done) told;
      orders = rw (handed, left) (sound-cleared b (sound_facts b (sound-book m s)));
    }
