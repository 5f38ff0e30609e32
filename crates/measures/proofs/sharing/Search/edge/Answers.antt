-- `edge`: the bounds have closed on it, or as many fractions as were looked for reach the upper one.
use native.Mathlib.Omega.{arith}
use Rattle.measures.proofs.LargestLaws.{between_close, between-full, closed_on}
use Rattle.measures.proofs.sharing.Search.edge.Goals as goal

pub returns-then-self : goal.returns-then-self
returns-then-self c =
    let s = c.args.self.now in
    let b = s.between in
    (between_close _ _ _ _ _ _ _ b (closed_on s.above s.wanted _ c.requires (omega arith)), omega (arith, b.order, b.range))

pub returns : goal.returns
returns c =
    let b = c.args.self.now.between in
    (between-full _ _ _ _ _ _ _ b (omega arith), omega (arith, b.order, b.range))
