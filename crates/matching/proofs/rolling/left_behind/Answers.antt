-- `left_behind`: what is left before place k, less what crosses from there on, is what is left.
use native.Mathlib.Omega.{arith}
use Rattle.matching.proofs.Laws.Rolling.LeftOverLaws.{leaving_starts, leaving-more, leaving_ends}
use Rattle.matching.proofs.rolling.left_behind.Goals as goal

pub loop-k-init : goal.loop-k-init
loop-k-init c = leaving_starts _ _ _

pub loop-k-preserved : goal.loop-k-preserved
loop-k-preserved c = leaving-more _ _ _ _ _ _ c.loop-k-test.true c.left_past-left.ensures c.loop-k.invariant

pub returns : goal.returns
returns c = leaving_ends _ _ _ _ _ (omega arith) c.loop-k.invariant
