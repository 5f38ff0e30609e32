-- `stands_apart`: no order before it is crossed, and its price is entered.
use Rattle.book.proofs.Laws.Check.TogetherLaws.{priced}
use Rattle.book.proofs.pairs.stands_apart.Goals as goal

pub returns : goal.returns
returns g c =
    let b = c.args.book in
    let n = c.note.ensures in
    rw (n.0, n.1) (priced _ b.ranged _ c.requires.0 _ _ c.requires.2 b.priced _ c.crosses.ensures c.if-crosses.false)
