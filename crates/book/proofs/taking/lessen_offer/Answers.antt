-- `lessen_offer`: the amounts are less, and the offer is marked.
use Rattle.book.proofs.Laws.Take.LessenedLaws.{lessened}
use Rattle.book.proofs.taking.lessen_offer.Goals as goal

pub returns : goal.returns
returns c ps e =
    lessened _ _ _ _ ps c.requires.0 c.requires.1 c.lessen_amounts.ensures e
