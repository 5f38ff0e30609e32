use Rattle.std.proofs.Common.{◌+◌, ◌*◌, length}
use Rattle.measures.specs.Ranges.{most_energy}
use Rattle.measures.specs.Lists.{sum}
use Rattle.book.specs.Inner.Fitting.{Added, offer_share}
use Rattle.book.proofs.standing.add_offers.Given as goal

abbrev pub invariant-loop-j : goal.invariant-loop-j
invariant-loop-j l = Added (length l.initial.totals) l.initial.totals l.totals
    (λ h. sum l.j (λ j. offer_share l.book.words.now l.unit j (l.from + h))) (most_energy * l.j)
