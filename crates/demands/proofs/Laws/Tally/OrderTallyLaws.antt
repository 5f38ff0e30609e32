-- Tally and book agree after an order.
use Prim.Native.Nat.{ℕ, ◌-◌, ◌≤◌, ◌<◌, min}
use mathlib.Core.Path.{◌≡◌, refl, ap, ap₂, ◌∙◌}
use mathlib.Core.Bool.{Bool, true, false, cond}
use mathlib.Core.List.{List, [], ◌∷◌, ◌++◌, map}
use native.Mathlib.Omega.{arith}
use borrow.Author.Tests.{ne_eqb, not-false}
use lib.ListN.{length}
use lib.Dec.{eqb}
use Rattle.measures.specs.Ranges.{most_energy}
use Rattle.measures.specs.Lists.{Each, sum_of}
use Rattle.measures.proofs.RangeLaws.{In, within}
use Rattle.measures.proofs.ListLaws.{cond_case}
use Rattle.matching.specs.Orders.{Order as OpenOrder, Row, buys, leaving}
use Rattle.matching.specs.Rolling.{counterparts, Match, matches, match_row, after_matches, meet}
use Rattle.matching.proofs.Laws.Lists.EachLaws.{each_map, each_all}
use Rattle.matching.proofs.Laws.Lists.SumLaws.{sum_of_ext}
use Rattle.book.specs.Book.{Book, call_phase, next_number}
use Rattle.book.specs.Trades.{rows_booked}
use Rattle.book.specs.Order.{order_refusal, new_order, waiting, ordered_in_call, ordered_in_rolling, ordering}
use Rattle.book.specs.Calls.{Call, call_order, outcome}
use Rattle.demands.specs.Tally.{Tally, order_tallied, order_left, accounted}
use Rattle.demands.proofs.Laws.Tally.AgreeLaws.{Parties, Agree}
use Rattle.demands.proofs.Laws.Tally.StandingLaws.{Standing}
use Rattle.book.proofs.Laws.Sound.SoundLaws.{OrderRanges}
use Rattle.demands.proofs.Laws.Tally.MapLaws.{sum_of-map}
use Rattle.book.proofs.Laws.Answer.RefusalLaws.{none_applies}
use Rattle.demands.proofs.Laws.Tally.AcceptedLaws.{AgreeAfter, decided_is, accepted_agree, agree_head, agree_changed}
use Rattle.demands.proofs.Laws.Tally.RolledTallyLaws.{Lined, row_of, rolled}
use Rattle.demands.proofs.Laws.Tally.MatchTallyLaws.{counterparts_each}

-- the rows name the incoming order's unit and those of its counterparts
matches_each : (P : OpenOrder → Type 0) (q : ℕ) (cs : List OpenOrder) → Each P cs → Each (λ (m : Match). P m.order) (matches q cs)
unfolding matches
matches_each P q [] e = tt
matches_each P q (c ∷ cs) e =
    let ih = matches_each P (q - min q c.quantity) cs e.1 in
    cond_case (λ (l : List Match). Each (λ (m : Match). P m.order) l) (eqb q 0) _ _ (λ z. tt) (λ z. (e.0, ih))

match_parties : (n : ℕ) (i : OpenOrder) (ms : List Match) → In 1 n i.unit → Each (λ (m : Match). In 1 n m.order.unit) ms
    → Each (Parties n) (map (match_row i) ms)
unfolding match_row
match_parties n i [] h e = tt
match_parties n i (m ∷ ms) h e =
    (cond_case (λ (r : Row). Parties n r) (buys i.direction) _ _ (λ b. (e.0, h)) (λ b. (h, e.0)), match_parties n i ms h e.1)

-- what is left of the incoming order waits
left_waits : (i : OpenOrder) (ms : List Match)
    → order_left i.number i.unit i.direction i.period i.price i.quantity (map (match_row i) ms)
    ≡ waiting (leaving i (i.quantity - sum_of (λ (m : Match). m.quantity) ms))
unfolding waiting
left_waits i ms =
    let s : sum_of (λ (r : Row). r.quantity) (map (match_row i) ms) ≡ sum_of (λ (m : Match). m.quantity) ms =
    sum_of-map (λ (r : Row). r.quantity) (match_row i) ms ∙ sum_of_ext (λ (m : Match). (match_row i m).quantity) (λ (m : Match). m.quantity) ms
    (each_all (λ (m : Match). (match_row i m).quantity ≡ m.quantity) ms (λ m. (row_of i m).quantity)) in
    rw s

module _ (t : Tally) (b : Book) (a : Agree t b) (w : Standing b) (unit direction period price quantity lent : ℕ) where
  abbrev this : Call
  this = call_order unit direction period price quantity lent

  abbrev incoming : OpenOrder
  incoming = new_order b unit direction period price quantity

  lined : Lined b.orders
  lined =
      record {
        rises = w.orders_rise;
        some = each_map (OrderRanges b) (λ (o : OpenOrder). 0 < o.quantity) b.orders (λ o s. s.energy.0) w.orders;
        one_directions = w.one_directions;
      }

  called_agree : 1 ≤ quantity → outcome b this ≡ ordered_in_call b incoming → AgreeAfter t b this
  unfolding accounted order_tallied rows_booked
  called_agree l e =
      let z : quantity - 0 ≡ quantity = omega arith in
      let f : order_tallied direction [] t.orders ++ order_left (next_number b) unit direction period price quantity [] ≡ b.orders ++ (incoming ∷ []) =
      rw (z, ne_eqb quantity 0 (omega arith), a.orders) in
      accepted_agree t b this (ordered_in_call b incoming) e refl
      (agree_head _ _ (agree_changed t b a w [] t.offers b.offers (order_tallied direction [] t.orders
      ++ order_left (next_number b) unit direction period price quantity []) (b.orders ++ (incoming ∷ [])) tt a.offers f) b.phase (next_number b))

  rolled_agree : In 1 (length b.units) unit → outcome b this ≡ ordered_in_rolling b incoming → AgreeAfter t b this
  unfolding accounted meet
  rolled_agree h e =
      let ms = matches quantity (counterparts incoming b.orders) in
      let rs = map (match_row incoming) ms in
      let tor = order_tallied direction rs t.orders ++ order_left (next_number b) unit direction period price quantity rs in
      let bor = after_matches ms b.orders ++ waiting (leaving incoming (quantity - sum_of (λ (m : Match). m.quantity) ms)) in
      let f : tor ≡ bor =
      ap₂ (λ (x y : List OpenOrder). x ++ y) (ap (order_tallied direction rs) a.orders
      ∙ rolled incoming (counterparts incoming b.orders) b.orders quantity refl lined) (left_waits incoming ms) in
      let owned = each_map (OrderRanges b) (λ (o : OpenOrder). In 1 (length b.units) o.unit) b.orders (λ o s. s.unit) w.orders in
      let named = matches_each (λ (o : OpenOrder). In 1 (length b.units) o.unit) quantity (counterparts incoming b.orders)
      (counterparts_each incoming (λ (o : OpenOrder). In 1 (length b.units) o.unit) b.orders owned) in
      accepted_agree t b this (ordered_in_rolling b incoming) e refl
      (agree_head _ _ (agree_changed t b a w rs t.offers b.offers tor bor (match_parties (length b.units) incoming ms h named) a.offers f) _ _)

  pub agree_order : (outcome b this).refusal ≡ 0 → AgreeAfter t b this
  unfolding ordering order_refusal
  agree_order e =
      let d = decided_is (order_refusal b unit direction period price quantity lent) b
      (cond (eqb b.phase call_phase) (ordered_in_call b incoming) (ordered_in_rolling b incoming)) e in
      let c = none_applies _ (omega arith) d.0 in
      let h : In 1 (length b.units) unit = within 1 (length b.units) unit (not-false _ c.1.0) in
      let q : In 1 most_energy quantity = within 1 most_energy quantity (not-false _ c.1.1.1.1.0) in
      go (eqb b.phase call_phase) h q.0 d.1
    where
      go : (p : Bool) → In 1 (length b.units) unit → 1 ≤ quantity → outcome b this ≡ cond p (ordered_in_call b incoming) (ordered_in_rolling b incoming)
          → AgreeAfter t b this
      go true h q f = called_agree q f
      go false h q f = rolled_agree h f
