-- `share_offer`: the amounts are lent as they stand.
use Rattle.book.proofs.Laws.Take.InPlaceLaws.{shared-parts}
use Rattle.book.proofs.taking.share_offer.Goals as goal

pub returns : goal.returns
returns c =
    let b = c.args.book in
    let p = c.requires in
    shared-parts b.words.now c.args.j b.readable p.0 _ _ _ _ p.1 p.2 p.3 p.4 c.share.ensures
