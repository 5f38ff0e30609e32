-- `answer_piece`: each step goes on where the last one stopped, until the piece is passed.
use mathlib.Core.Path.{sym, ◌∙◌}
use borrow.Author.Rules.{rules}
use Rattle.lines.proofs.StepLaws.{used_within}
use Rattle.rehearse.proofs.RunningLaws.{passing_none, passing_more, passing_all, rest_shorter, some_left, none_left}
use Rattle.rehearse.proofs.answer_piece.Goals as goal

pub loop-rest-init : goal.loop-rest-init
loop-rest-init g c = passing_none _ _ _ _

pub slice_bounds-rest-count : goal.slice_bounds-rest-count
slice_bounds-rest-count g c = used_within _ _ _ _ _ c.step-used.ensures

pub slice_bounds-rest-start : goal.slice_bounds-rest-start
slice_bounds-rest-start g c = let w = used_within _ _ _ _ _ c.step-used.ensures in search rules

pub loop-rest-smaller : goal.loop-rest-smaller
loop-rest-smaller g c = rest_shorter _ _ _ _ _ c.step-used.ensures (some_left _ (sym c.is_empty.ensures ∙ c.loop-rest-test.true))

pub loop-rest-preserved : goal.loop-rest-preserved
loop-rest-preserved g c =
    rw c.and-written.ensures (passing_more _ _ _ _ _ _ _ _ _ _ _ _ c.loop-rest.invariant c.step-used.ensures (rw c.as_slice.ensures.value at c.write_all.ensures.bytes))

pub returns : goal.returns
returns g c = passing_all _ _ _ _ _ _ _ c.loop-rest.invariant (none_left _ (sym c.is_empty.ensures ∙ c.loop-rest-test.false))
