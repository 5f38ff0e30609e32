-- `put_some`: a row of some quantity is one row more.
use mathlib.Core.Path.{sym, ◌∙◌}
use native.Mathlib.Omega.{arith}
use lib.ListN.{length-append}
use Rattle.matching.proofs.overlaps.put_some.Goals as goal

pub returns : goal.returns
returns c =
    let some = sym c.eq.ensures ∙ c.if-eq.false in
    λ m rs l h. rw some (c.put_row_at.ensures m rs l h, simp length-append (omega arith), omega arith)
