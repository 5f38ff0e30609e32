-- Tally and book agree after clear.
use Prim.Native.Nat.{ℕ}
use mathlib.Core.Path.{◌≡◌, refl, ap₂}
use mathlib.Core.List.{List}
use lib.ListN.{length}
use Rattle.limits.specs.Units.{periods}
use Rattle.matching.specs.Orders.{Order as OpenOrder}
use Rattle.matching.specs.Clearing.{clear_from}
use Rattle.book.specs.Book.{Book, rolling_phase, with_orders, in_phase}
use Rattle.book.specs.Trades.{rows_booked}
use Rattle.book.specs.Refusals.{accepted}
use Rattle.book.specs.Clear.{clear_refusal, clearing}
use Rattle.book.specs.Calls.{call_clear, outcome}
use Rattle.demands.specs.Tally.{Tally, accounted}
use Rattle.demands.proofs.Laws.Tally.AgreeLaws.{Parties, Agree}
use Rattle.demands.proofs.Laws.Tally.StandingLaws.{Standing}
use Rattle.book.proofs.Laws.Clear.ClearedLaws.{rows_by_orders}
use Rattle.demands.proofs.Laws.Tally.AcceptedLaws.{AgreeAfter, decided_is, accepted_agree, agree_head, agree_changed}

module _ (t : Tally) (b : Book) (a : Agree t b) (w : Standing b) where
  pub agree_clear : (lent : ℕ) → (outcome b (call_clear lent)).refusal ≡ 0 → AgreeAfter t b (call_clear lent)
  unfolding clearing accounted
  agree_clear lent e =
      let c = clear_from 0 (periods b.rules.days) b.orders in
      let c' = clear_from 0 (periods t.rules.days) t.orders in
      let o = accepted 0 c.rows (in_phase (rows_booked c.rows (with_orders b c.orders)) rolling_phase) in
      let d = decided_is (clear_refusal b lent) b o e in
      let f : c'.orders ≡ c.orders = ap₂ (λ (k : ℕ) (l : List OpenOrder). (clear_from 0 (periods k) l).orders) a.days a.orders in
      let parties = rows_by_orders b w.orders_rise w.orders (Parties (length b.units))
      (λ x r g s u. (rw g.seller s.unit, rw g.buyer u.unit)) in
      accepted_agree t b (call_clear lent) o d.1 refl
      (agree_head _ _ (agree_changed t b a w c.rows t.offers b.offers c'.orders c.orders
      parties a.offers f) rolling_phase _)
