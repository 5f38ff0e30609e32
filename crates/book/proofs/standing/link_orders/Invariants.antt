use Rattle.book.specs.Layout.{ORDERS, word}
use Rattle.book.specs.Inner.Whole.{by_day, by_period}
use Rattle.book.proofs.Laws.Check.LinkedLaws.{Linking}
use Rattle.book.proofs.standing.link_orders.Given as goal

abbrev pub invariant-loop-k : goal.invariant-loop-k
invariant-loop-k l =
    (Linking (by_day l.book.words.now) (word l.book.words.now ORDERS) l.initial.last l.initial.own l.last l.own l.k)
    × (Linking (by_period l.book.words.now) (word l.book.words.now ORDERS) l.initial.firsts l.initial.peers l.firsts l.peers l.k)
