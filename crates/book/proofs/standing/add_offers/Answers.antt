-- `add_offers`: the offers passed have their shares added.
use Rattle.std.proofs.Common.{◌+◌}
use Rattle.book.specs.Inner.Fitting.{offer_share}
use Rattle.book.proofs.Laws.Check.ShareLaws.{shares_none, shares_more}
use Rattle.book.proofs.standing.add_offers.Goals as goal

pub loop-j-init : goal.loop-j-init
loop-j-init c = shares_none _ _ (λ j h. offer_share c.args.book.words.now c.args.unit j (c.args.from + h))

pub loop-j-preserved : goal.loop-j-preserved
loop-j-preserved c =
    shares_more _ _ _ _ (λ j h. offer_share c.args.book.words.now c.args.unit j (c.args.from + h)) _ c.loop-j.invariant
    (rw c.loop-j.invariant.long at c.add_offer.ensures)
