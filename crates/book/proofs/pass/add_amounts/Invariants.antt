use Rattle.std.proofs.Common.{slice_index}
use Rattle.book.proofs.Laws.Check.ShareLaws.{Adding}
use Rattle.book.proofs.pass.add_amounts.Given as goal

abbrev pub invariant-loop-i : goal.invariant-loop-i
invariant-loop-i l = Adding l.initial.totals l.totals (λ i. slice_index l.amounts i) l.i
