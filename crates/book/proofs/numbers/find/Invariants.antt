use Rattle.std.proofs.Common.{◌≡◌, ℕ, ◌+◌, ◌*◌, ◌<◌}
use Rattle.book.specs.Layout.{word}
use Rattle.book.proofs.numbers.find.Given as goal

abbrev pub invariant-loop-k : goal.invariant-loop-k
invariant-loop-k g l = (i : ℕ) → i < l.k → word l.book (l.table + g.row.WORDS * i) ≡ l.number → ⊥
