use Rattle.book.proofs.Laws.Check.NumberLaws.{Climbing}
use Rattle.book.proofs.numbers.offers_rise.Given as goal

abbrev pub invariant-loop-j : goal.invariant-loop-j
invariant-loop-j l = Climbing l.book.words.now l.j
