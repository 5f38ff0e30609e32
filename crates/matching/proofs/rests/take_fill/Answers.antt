-- `take_fill`: by the rising numbers the order at p alone has its number.
use mathlib.Core.Path.{◌≡◌, sym, ap, ◌∙◌}
use lib.Dec.{leb}
use native.Mathlib.Omega.{arith}
use Rattle.matching.specs.Orders.{Order}
use Rattle.matching.proofs.Laws.Orders.TakingLaws.{taken_whole, taken-part}
use Rattle.matching.proofs.Laws.Lists.OrderingLaws.{at_most_is}
use borrow.Author.Tests.{leb-true, leb-false}
use Rattle.matching.proofs.rests.take_fill.Goals as goal

pub returns-then-le : goal.returns-then-le
returns-then-le c =
    let e : c.le.result ≡ leb c.read-o.result.quantity.0 c.args.x.0 = c.le.ensures ∙ at_most_is _ _ in
    taken_whole c.args.orders.now c.args.stands.now c.args.n c.args.p c.args.x.0 (omega arith) c.requires.2 c.requires.3 _
    (ap (λ (o : Order). o.quantity) c.read-o.ensures) (leb-true _ _ (sym e ∙ c.if-le.true))

pub returns : goal.returns
returns c =
    let e : c.le.result ≡ leb c.read-o.result.quantity.0 c.args.x.0 = c.le.ensures ∙ at_most_is _ _ in
    taken-part c.args.orders.now c.args.stands.now c.args.n c.args.p c.args.x.0 (omega arith) c.requires.2 c.requires.3 _ _ _
    (ap (λ (o : Order). o.quantity) c.read-o.ensures) (leb-false _ _ (sym e ∙ c.if-le.false)) c.minus.ensures
    c.leave.ensures.0 c.leave.ensures.1
