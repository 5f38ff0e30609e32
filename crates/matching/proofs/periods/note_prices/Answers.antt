-- `note_prices`: the orders passed have their prices noted.
use Prim.Native.Nat.{◌+◌, ◌*◌}
use mathlib.Core.Path.{ap, ◌∙◌}
use native.Mathlib.Omega.{arith}
use Rattle.matching.specs.Orders.{Order}
use Rattle.matching.specs.Prices.{high_with, low_with}
use Rattle.matching.proofs.Laws.Periods.SkipLaws.{noted_more, noted_all}
use Rattle.matching.proofs.periods.note_prices.Goals as goal

pub loop-k-preserved : goal.loop-k-preserved
loop-k-preserved c =
    let l = c.loop-k in
    let o = c.read-o.ensures in
    let d = c.note.ensures in
    let w = c.args.orders.small (6 * l.k + 4) in (
      omega (arith, c.loop-k-test.true),
      rw (
        d.0 ∙ ap (λ (o : Order). high_with o.direction o.period o.price l.prices.high) o,
        d.1 ∙ ap (λ (o : Order). low_with o.direction o.period o.price l.prices.low) o,
      )
          (noted_more c.args.orders.words.now l.prices.high l.prices.low l.k l.invariant.1 (omega (arith, w))),
    )

pub returns : goal.returns
returns c =
    let l = c.loop-k in
    noted_all _ _ _ l.k _ (omega arith) l.invariant.1
