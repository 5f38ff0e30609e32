-- `note_price`: a purchase's price that is not below the price noted raises it, and no sale's price changes.
use mathlib.Core.Path.{◌≡◌, sym, ap, ◌∙◌}
use lib.ListN.{get_or, set}
use lib.Dec.{leb}
use Rattle.matching.proofs.Laws.Lists.OrderingLaws.{at_most_is}
use borrow.Author.Tests.{leb-true, leb-false}
use Rattle.matching.proofs.Laws.Periods.NoteLaws.{high-most, high-not, low-not}
use Rattle.matching.proofs.periods.note_price.Goals as goal

pub returns-then-le : goal.returns-then-le
returns-then-le c =
    let a = c.args in
    let e : c.le.result ≡ leb (get_or a.high.now a.p 0) a.price.0 = c.le.ensures ∙ at_most_is _ _ in
    let buys = c.if-direction-from.true ∙ c.from.ensures in (
      ap (set a.high.now a.p) c.next.ensures
          ∙ sym (high-most a.direction a.p a.price.0 a.high.now buys (leb-true (get_or a.high.now a.p 0) a.price.0 (sym e ∙ c.if-le.true))),
      sym (low-not a.direction a.p a.price.0 a.low.now (λ n. absurd (n buys))),
    )

pub returns-else-le : goal.returns-else-le
returns-else-le c =
    let a = c.args in
    let e : c.le.result ≡ leb (get_or a.high.now a.p 0) a.price.0 = c.le.ensures ∙ at_most_is _ _ in
    let buys = c.if-direction-from.true ∙ c.from.ensures in (
      sym (high-not a.direction a.p a.price.0 a.high.now (λ b. leb-false (get_or a.high.now a.p 0) a.price.0 (sym e ∙ c.if-le.false))),
      sym (low-not a.direction a.p a.price.0 a.low.now (λ n. absurd (n buys))),
    )
