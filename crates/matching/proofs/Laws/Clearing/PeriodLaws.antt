-- One period's clearing in terms of its fills.
use Prim.Native.Nat.{ℕ, ◌<◌}
use mathlib.Core.Path.{◌≡◌, refl, sym, ◌∙◌}
use mathlib.Core.Bool.{Bool, true, false, cond, ◌&&◌}
use mathlib.Core.List.{List, [], ◌++◌}
use native.Mathlib.Omega.{arith}
use lib.Dec.{eqb}
use borrow.Author.Tests.{eqb-true, eqb-false}
use Rattle.measures.specs.Lists.{Each, Has, keep}
use Rattle.measures.proofs.ListLaws.{and_left}
use Rattle.matching.specs.Orders.{Order, Row, buys, sells, bids, asks, bid_ahead, ask_ahead}
use Rattle.matching.specs.Clearing.{
  Fill,
  Cleared,
  cleared_volume,
  marginal,
  clearing_price,
  bid_fills,
  ask_fills,
  end_to_end,
  overlap_rows,
  after_fills,
  clear_period,
}
use Rattle.matching.proofs.Laws.Lists.EachLaws.{Pairs, each_keep, kept, has_self, pairs_map, pairs_keep}
use Rattle.matching.proofs.Laws.Orders.LaidLaws.{laid_each, laid_pairs}
use Rattle.matching.proofs.Laws.Orders.AheadLaws.{dearer, cheaper, dearer_strict, cheaper_strict, bids-ordered, asks-ordered}
use Rattle.matching.proofs.Laws.Clearing.MarginLaws.{Margins, margins}
use Rattle.matching.proofs.Laws.Clearing.FillLaws.{side_each}
use Rattle.matching.proofs.Laws.Orders.LessenLaws.{Numbered}
use Rattle.matching.proofs.Laws.Orders.AfterLaws.{Due, after_append}
use Rattle.matching.proofs.Laws.Clearing.SideLaws.{Apart, kinds_apart, both_due, side_due}

-- a period's bids and asks, as they stand
abbrev pub is_bid : ℕ → Order → Bool
is_bid period o = buys o.direction && eqb o.period period

abbrev pub is_ask : ℕ → Order → Bool
is_ask period o = sells o.direction && eqb o.period period

abbrev pub volume : ℕ → List Order → ℕ
volume period os = cleared_volume (bids period os) (asks period os)

abbrev pub bid_margin : ℕ → List Order → ℕ
bid_margin period os = marginal (volume period os) (bids period os)

abbrev pub ask_margin : ℕ → List Order → ℕ
ask_margin period os = marginal (volume period os) (asks period os)

abbrev pub price_of : ℕ → List Order → ℕ
price_of period os = clearing_price (bid_margin period os) (ask_margin period os)

-- the fills of a period: none where nothing trades
unfoldable pub bid_fills_of : ℕ → List Order → List Fill
bid_fills_of period os = cond (eqb (volume period os) 0) [] (bid_fills (volume period os) (bid_margin period os) (bids period os))

unfoldable pub ask_fills_of : ℕ → List Order → List Fill
ask_fills_of period os = cond (eqb (volume period os) 0) [] (ask_fills (volume period os) (ask_margin period os) (asks period os))

module _ (period : ℕ) (os : List Order) where
  rows_by : (b : Bool) (F H : List Fill)
      → (cond {A = Cleared} b (record { rows = []; orders = os })
      (record { rows = overlap_rows period (price_of period os) (end_to_end 0 F) (end_to_end 0 H); orders = after_fills H (after_fills F os) })).rows
      ≡ overlap_rows period (price_of period os) (end_to_end 0 (cond b [] F)) (end_to_end 0 (cond b [] H))
  unfolding overlap_rows end_to_end
  rows_by true F H = refl
  rows_by false F H = refl

  pub cleared-rows : (clear_period period os).rows ≡ overlap_rows period (price_of period os) (end_to_end 0 (bid_fills_of period os))
      (end_to_end 0 (ask_fills_of period os))
  unfolding clear_period bid_fills_of ask_fills_of
  cleared-rows = rows_by (eqb (volume period os) 0) (bid_fills (volume period os) (bid_margin period os) (bids period os))
      (ask_fills (volume period os) (ask_margin period os) (asks period os))

  orders_by : (b : Bool) (R : List Row) (F H : List Fill) → (cond {A = Cleared} b (record { rows = []; orders = os })
      (record { rows = R; orders = after_fills H (after_fills F os) })).orders ≡ after_fills (cond b [] H) (after_fills (cond b [] F) os)
  unfolding after_fills
  orders_by true R F H = refl
  orders_by false R F H = refl

  pub cleared_orders : (clear_period period os).orders ≡ after_fills (bid_fills_of period os ++ ask_fills_of period os) os
  unfolding clear_period bid_fills_of ask_fills_of
  cleared_orders =
      orders_by (eqb (volume period os) 0) _ (bid_fills (volume period os) (bid_margin period os) (bids period os))
      (ask_fills (volume period os) (ask_margin period os) (asks period os))
      ∙ sym (after_append (bid_fills_of period os) (ask_fills_of period os) os)

  -- by cases: nothing trades, or some volume does
  pub fills_case : (P : List Fill → List Fill → Type 0) → (volume period os ≡ 0 → P [] [])
      → (0 < volume period os → P (bid_fills (volume period os) (bid_margin period os) (bids period os))
      (ask_fills (volume period os) (ask_margin period os) (asks period os)))
      → P (bid_fills_of period os) (ask_fills_of period os)
  unfolding bid_fills_of ask_fills_of
  fills_case P h k = go (eqb (volume period os) 0) refl
    where
      go : (b : Bool) → eqb (volume period os) 0 ≡ b → P (cond b [] (bid_fills (volume period os) (bid_margin period os) (bids period os)))
          (cond b [] (ask_fills (volume period os) (ask_margin period os) (asks period os)))
      go true e = h (eqb-true (volume period os) 0 e)
      go false e = let n = eqb-false (volume period os) 0 e in k (omega arith)

  pub fills_are : 0 < volume period os
      → (bid_fills_of period os ≡ bid_fills (volume period os) (bid_margin period os) (bids period os))
      × (ask_fills_of period os ≡ ask_fills (volume period os) (ask_margin period os) (asks period os))
  fills_are pos =
      fills_case
      (λ F H. (F ≡ bid_fills (volume period os) (bid_margin period os) (bids period os))
      × (H ≡ ask_fills (volume period os) (ask_margin period os) (asks period os)))
      (λ z. absurd (omega arith)) (λ _. (refl, refl))

  pub margins_of : 0 < volume period os → Margins (bids period os) (asks period os) (volume period os) (bid_margin period os) (ask_margin period os)
  margins_of pos = margins (bids period os) (asks period os) (bids-ordered period os) (asks-ordered period os) pos

  -- what holds of each order holds of each bid and ask of the period
  pub bids_each : (P : Order → Type 0) → Each P os → Each P (bids period os)
  bids_each P e = laid_each bid_ahead P (keep (is_bid period) os) (each_keep P (is_bid period) os e)

  pub asks_each : (P : Order → Type 0) → Each P os → Each P (asks period os)
  asks_each P e = laid_each ask_ahead P (keep (is_ask period) os) (each_keep P (is_ask period) os e)

  pub bids_are : Each (λ o. is_bid period o ≡ true) (bids period os)
  bids_are = laid_each bid_ahead (λ o. is_bid period o ≡ true) (keep (is_bid period) os) (kept (is_bid period) os)

  pub asks_are : Each (λ o. is_ask period o ≡ true) (asks period os)
  asks_are = laid_each ask_ahead (λ o. is_ask period o ≡ true) (keep (is_ask period) os) (kept (is_ask period) os)

  -- what holds of each bid of the period holds of each that is filled; and so for asks
  pub bid_fills_each : (P : Order → Type 0) → Each P (bids period os) → Each (λ f. P f.order) (bid_fills_of period os)
  bid_fills_each P e = fills_case (λ F H. Each (λ f. P f.order) F) (λ _. tt)
      (λ pos. side_each dearer (volume period os) (bid_margin period os) (bids period os) P e)

  pub ask_fills_each : (P : Order → Type 0) → Each P (asks period os) → Each (λ f. P f.order) (ask_fills_of period os)
  ask_fills_each P e = fills_case (λ F H. Each (λ f. P f.order) H) (λ _. tt)
      (λ pos. side_each cheaper (volume period os) (ask_margin period os) (asks period os) P e)

  pub bid_fills_stand : Each (λ f. Has f.order os) (bid_fills_of period os)
  bid_fills_stand = bid_fills_each (λ o. Has o os) (bids_each (λ o. Has o os) (has_self os))

  pub ask_fills_stand : Each (λ f. Has f.order os) (ask_fills_of period os)
  ask_fills_stand = ask_fills_each (λ o. Has o os) (asks_each (λ o. Has o os) (has_self os))

  flip : (a b : Order) → Apart a b → Apart b a
  flip a b h e = h (sym e)

  all_apart : Numbered os → Pairs Apart os
  all_apart n = pairs_map (λ a b. a.number < b.number) Apart os (λ a b l e. omega arith) n

  bid_due : Numbered os → 0 < volume period os → Due (bid_fills (volume period os) (bid_margin period os) (bids period os)) os
  bid_due n pos =
      side_due dearer dearer_strict (volume period os) (bid_margin period os) (bids period os) os (margins_of pos).bid n
      (bids_each (λ o. Has o os) (has_self os))
      (laid_pairs bid_ahead Apart flip (keep (is_bid period) os) (pairs_keep Apart (is_bid period) os (all_apart n)))

  ask_due : Numbered os → 0 < volume period os → Due (ask_fills (volume period os) (ask_margin period os) (asks period os)) os
  ask_due n pos =
      side_due cheaper cheaper_strict (volume period os) (ask_margin period os) (asks period os) os (margins_of pos).ask n
      (asks_each (λ o. Has o os) (has_self os))
      (laid_pairs ask_ahead Apart flip (keep (is_ask period) os) (pairs_keep Apart (is_ask period) os (all_apart n)))

  -- no order is both
  pub not_both : (o : Order) → is_bid period o ≡ true → is_ask period o ≡ true → ⊥
  not_both o b a =
      let x : o.direction ≡ 1 = eqb-true o.direction 1 (and_left (buys o.direction) (eqb o.period period) b) in
      let y : o.direction ≡ 0 = eqb-true o.direction 0 (and_left (sells o.direction) (eqb o.period period) a) in
      omega arith

  -- all fills of the period are due
  pub clear_due : Numbered os → Due (bid_fills_of period os ++ ask_fills_of period os) os
  clear_due n =
      both_due (bid_fills_of period os) (ask_fills_of period os) os
      (fills_case (λ F H. Due F os) (λ _. record { stand = tt; fit = tt; apart = tt }) (bid_due n))
      (fills_case (λ F H. Due H os) (λ _. record { stand = tt; fit = tt; apart = tt }) (ask_due n))
      (kinds_apart (λ o. is_bid period o ≡ true) (λ o. is_ask period o ≡ true) os n not_both (bid_fills_of period os) (ask_fills_of period os)
      bid_fills_stand (bid_fills_each (λ o. is_bid period o ≡ true) bids_are) ask_fills_stand (ask_fills_each (λ o. is_ask period o ≡ true) asks_are))
