-- `every`: every number passed passes the test.
use Rattle.std.proofs.Common.{◌≡◌, sym, ◌∙◌, arith}
use Rattle.measures.proofs.ListLaws.{all_none, all_more, all_fails}
use Rattle.book.proofs.ranges.every.Goals as goal

pub loop-k-init : goal.loop-k-init
loop-k-init g c = λ f h. all_none f

pub returns-then-not-test : goal.returns-then-not-test
returns-then-not-test g c = λ f h.
    let k = c.loop-k.k in
    sym (all_fails _ f k (omega arith) (sym (h k c.test.result (omega arith) c.test.ensures) ∙ c.if-not-test.true))

pub loop-k-preserved : goal.loop-k-preserved
loop-k-preserved g c = λ f h.
    let k = c.loop-k.k in
    all_more k f (c.loop-k.invariant f h) (sym (h k c.test.result (omega arith) c.test.ensures) ∙ c.if-not-test.false)

pub returns : goal.returns
returns g c = λ f h.
    let e : c.loop-k.k ≡ c.args.n = omega arith in
    sym (rw e at (c.loop-k.invariant f h))
