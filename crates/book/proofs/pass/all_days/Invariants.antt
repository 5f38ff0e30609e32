use Rattle.book.specs.Inner.Pass.{DaysJoined}
use Rattle.book.proofs.pass.all_days.Given as goal

abbrev pub invariant-loop-d : goal.invariant-loop-d
invariant-loop-d g l = DaysJoined (λ d s. goal.F-post g l.day d s) l.d l.s
