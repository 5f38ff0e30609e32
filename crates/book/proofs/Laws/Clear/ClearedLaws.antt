-- Clear leaves a sound book: the orders lose what the rows trade, and no two are left that cross.
use Rattle.std.proofs.Common.{◌≡◌, ℕ, ◌<◌, true, length, sym, ◌∙◌, arith}
use Rattle.measures.specs.Lists.{Each, every}
use Rattle.limits.specs.Units.{periods}
use Rattle.matching.specs.Orders.{Order as OpenOrder, Row, rising, numbers}
use Rattle.matching.specs.Clearing.{Cleared, clear_from}
use Rattle.matching.specs.Matchings.{Pair, FilledBy, FullyCleared}
use Rattle.matching.proofs.Laws.Lists.EachLaws.{each_has, has_each, along_right}
use Rattle.matching.proofs.Laws.Lists.RemainLaws.{each_holds, each_imp, Remains, remains-length}
use Rattle.matching.proofs.Laws.Orders.LeftLaws.{LessOrder}
use Rattle.matching.proofs.Laws.Orders.ExchangeLaws.{Exchanged, all_exchanged}
use Rattle.matching.proofs.Laws.Matchings.LeftByLaws.{left-remains}
use Rattle.matching.proofs.Laws.Matchings.WholeLaws.{fully_cleared}
use Rattle.book.specs.Book.{Book, rolling_phase, most_orders}
use Rattle.book.specs.Sound.{apart, each_two, sound}
use Rattle.book.specs.Clear.{clear_refusal, clearing}
use Rattle.book.proofs.Laws.Sound.SoundLaws.{OrderRanges, Sound, sound_facts}
use Rattle.book.proofs.Laws.Answer.RefusalLaws.{decided-sound}
use Rattle.book.proofs.Laws.Rows.ExchangedLaws.{exchanged_sound}
use Rattle.book.proofs.Laws.Order.LeftLaws.{Far, far_apart, SameDirection, one_direction_same, TwoUnits, two_named}

-- the clear of a book whose orders have rising numbers and lie in their ranges
module _ (b : Book) (rises : rising (numbers b.orders) ≡ true) (ranges : Each (OrderRanges b) b.orders) where
  abbrev pub after : Cleared
  after = clear_from 0 (periods b.rules.days) b.orders

  pub orders_cleared : FullyCleared b.orders after.rows after.orders
  orders_cleared =
      fully_cleared (periods b.rules.days) b.orders rises
      (each_imp (OrderRanges b) (λ (o : OpenOrder). 0 < o.quantity) (λ o r. r.energy.0) b.orders ranges)
      (each_imp (OrderRanges b) (λ (o : OpenOrder). o.period < periods b.rules.days) (λ o r. r.period) b.orders ranges)

  -- what holds of each two orders of which a row fills the one as an ask and the other as a bid
  module _ (P : Row → Type 0) (holds : (x : Pair) (r : Row) → FilledBy b.orders x r → OrderRanges b x.ask → OrderRanges b x.bid → P r) where
    pub rows_by_orders : Each P after.rows
    rows_by_orders =
        let c = orders_cleared.filled in
        along_right (FilledBy b.orders) P
        (λ x r f. holds x r f (has_each (OrderRanges b) b.orders x.ask ranges f.ask.stands)
        (has_each (OrderRanges b) b.orders x.bid ranges f.bid.stands)) c.pairs after.rows c.fills

-- of a sound book
module _ (b : Book) (s : Sound b) where
  abbrev pub cleared : Cleared
  cleared = clear_from 0 (periods b.rules.days) b.orders

  pub sound-cleared : FullyCleared b.orders cleared.rows cleared.orders
  sound-cleared = orders_cleared b s.formed.orders_rise s.formed.orders

  pub clear_exchanged : Exchanged b.orders cleared.orders cleared.rows
  clear_exchanged = all_exchanged 0 (periods b.rules.days) b.orders s.formed.orders_rise

  clear_remains : Remains LessOrder cleared.orders b.orders
  clear_remains = let f = sound-cleared.filled in rw f.left (left-remains f.pairs b.orders)

  -- the rows are between the units of asks and of bids, which go other ways
  pub clear_units : Each (TwoUnits (length b.units)) cleared.rows
  clear_units =
      rows_by_orders b s.formed.orders_rise s.formed.orders (TwoUnits (length b.units))
      (λ x r f a c. (rw f.seller a.unit, rw f.buyer c.unit, other x r f))
    where
      other : (x : Pair) (r : Row) → FilledBy b.orders x r → r.seller ≡ r.buyer → ⊥
      other x r f e =
          let same = has_each (SameDirection x.ask) b.orders x.bid
          (has_each (λ (o : OpenOrder). Each (SameDirection o) b.orders) b.orders x.ask (one_direction_same b.orders s.formed.one_direction)
          f.ask.stands)
          f.bid.stands in
          let d = same (sym f.seller ∙ e ∙ f.buyer) (f.ask.there ∙ sym f.bid.there) in
          omega (arith, f.ask.sells, f.bid.buys)

  clear_apart : each_two apart cleared.orders ≡ true
  unfolding each_two
  clear_apart =
      let os = cleared.orders in
      each_holds (λ (x : OpenOrder). every (apart x) os) (λ (x : OpenOrder). Each (Far x) os)
      (λ x e. each_holds (apart x) (Far x) (λ y f. far_apart x y f) os e) os
      (each_has (λ (x : OpenOrder). Each (Far x) os) os (λ x hx. each_has (Far x) os (λ y hy. sound-cleared.nothing_crosses x y hx hy)))

-- "each period, rising ... the rolling phase begins"
pub clearing-sound : (b : Book) (lent : ℕ) → sound b ≡ true → sound (clearing b lent).book ≡ true
unfolding clearing
clearing-sound b lent e =
    decided-sound (clear_refusal b lent) b _ e
    (λ z.
    let s = sound_facts b e in
    let h = s.formed.head.orders in
    exchanged_sound most_orders b (cleared b s).orders (cleared b s).rows rolling_phase s (clear_remains b s) (clear_exchanged b s)
    (two_named (length b.units) (cleared b s).rows (clear_units b s)) (omega (arith, remains-length LessOrder (clear_remains b s))) (omega arith)
    (λ r. clear_apart b s))
