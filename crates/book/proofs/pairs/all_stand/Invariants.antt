use Rattle.book.proofs.Laws.Check.TogetherLaws.{Stood}
use Rattle.book.proofs.pairs.all_stand.Given as goal

abbrev pub invariant-loop-k : goal.invariant-loop-k
invariant-loop-k g l = Stood l.book.words.now l.k l.prices.high l.prices.low
