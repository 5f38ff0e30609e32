-- `all_stand`: each order passed stands with those before it.
use Rattle.std.proofs.Common.{arith}
use Rattle.book.proofs.Laws.Check.TogetherLaws.{stood_none, stood_more, stood_fails, stood_ends}
use Rattle.book.proofs.pairs.all_stand.Goals as goal

pub loop-k-init : goal.loop-k-init
loop-k-init g c = stood_none _ _ _ c.requires.1

pub returns-then-not-order_stands : goal.returns-then-not-order_stands
returns-then-not-order_stands g c =
    let l = c.loop-k in
    stood_fails _ l.k _ _ _ _ l.invariant _ c.order_stands.ensures (omega arith) c.if-not-order_stands.true

pub loop-k-preserved : goal.loop-k-preserved
loop-k-preserved g c = stood_more _ c.loop-k.k _ _ _ _ c.loop-k.invariant _ c.order_stands.ensures c.if-not-order_stands.false

pub returns : goal.returns
returns g c = stood_ends _ c.loop-k.k _ _ (omega arith) c.loop-k.invariant
