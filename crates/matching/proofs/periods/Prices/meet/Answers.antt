-- `Prices::meet`: the price next above the highest bid is the largest number, or the lowest ask is below it.
use mathlib.Core.Path.{◌≡◌, sym, ◌∙◌, refl}
use Rattle.std.proofs.Common.{◌<◌, get_or}
use lib.Dec.{ltb}
use native.Mathlib.Omega.{arith}
use Rattle.matching.proofs.Laws.Lists.OrderingLaws.{less_is}
use borrow.Author.Tests.{eqb-true, eqb-false, le-leb, lt-leb}
use Rattle.matching.specs.Memory.{most_word}
use Rattle.matching.specs.Inner.Periods.{prices_meet}
use Rattle.matching.proofs.periods.Prices.meet.Goals as goal

pub returns-then-eq : goal.returns-then-eq
unfolding prices_meet
returns-then-eq g c =
    let top = get_or c.args.self.now.high c.args.p 0 in
    let e = eqb-true top most_word (sym c.eq.ensures ∙ c.if-eq.true) in
    rw (le-leb most_word top (omega (arith, e))) refl

pub returns : goal.returns
unfolding prices_meet
returns g c =
    let top = get_or c.args.self.now.high c.args.p 0 in
    let n = eqb-false top most_word (sym c.eq.ensures ∙ c.if-eq.false) in
    let below : top < most_word = omega (arith, n) in
    let e : c.lt.result ≡ ltb (get_or c.args.self.now.low c.args.p 0) top = c.lt.ensures ∙ less_is _ _ in
    rw (lt-leb most_word top below) e
