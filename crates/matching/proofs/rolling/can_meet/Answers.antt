-- `can_meet`: the period and the direction are tested, and the prices answer.
use mathlib.Core.Path.{◌≡◌, ◌∙◌}
use borrow.Author.Tests.{eq-eqb}
use Rattle.matching.specs.Rolling.{candidate}
use Rattle.matching.proofs.rolling.can_meet.Goals as goal

pub returns-in-Buy : goal.returns-in-Buy
unfolding candidate
returns-in-Buy c =
    let buys : c.args.incoming.order.direction ≡ 1 = rw c.in-Buy.is at c.args.incoming.named in
    let sells : c.args.o.direction ≡ 0 = c.if-o-from.false ∙ c.from.ensures ∙ rw c.in-Buy.is at c.opposite.ensures in
    rw (eq-eqb c.args.o.period c.args.incoming.order.period c.if-o-incoming.false, buys, sells) c.meets.ensures

pub returns-in-Sell : goal.returns-in-Sell
unfolding candidate
returns-in-Sell c =
    let sells : c.args.incoming.order.direction ≡ 0 = rw c.in-Sell.is at c.args.incoming.named in
    let buys : c.args.o.direction ≡ 1 = c.if-o-from.false ∙ c.from.ensures ∙ rw c.in-Sell.is at c.opposite.ensures in
    rw (eq-eqb c.args.o.period c.args.incoming.order.period c.if-o-incoming.false, buys, sells) c.meets-in-Sell.ensures
