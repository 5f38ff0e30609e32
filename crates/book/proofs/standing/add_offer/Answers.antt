-- `add_offer`: another unit's offer adds nothing, and of the unit's own each period has its amount added.
use Rattle.std.proofs.Common.{arith}
use Rattle.book.proofs.Laws.Check.ShareLaws.{added_none, part_asks, part_added, offer_other, offer_own}
use Rattle.book.proofs.standing.add_offer.Goals as goal

pub returns-then-book-j : goal.returns-then-book-j
returns-then-book-j c = added_none _ _ _ _ (λ p h. offer_other _ _ _ c.if-book-j.true _)

pub add_amounts-requires : goal.add_amounts-requires
add_amounts-requires c =
    let t = c.requires in
    part_asks _ c.args.j c.args.from _ _ c.args.book.ranged t.0 (omega arith) (omega arith) _ (omega arith) t.2

pub returns : goal.returns
returns c =
    let t = c.requires in
    part_added _ c.args.j c.args.from _ _ c.args.book.ranged t.0 (omega arith) (omega arith) _ _ _ _ (omega arith) c.add_amounts.ensures
    (λ i h. offer_own _ _ _ c.if-book-j.false _)
