-- `offer_total`: the amounts are summed where they stand.
use Rattle.book.proofs.Laws.Take.InPlaceLaws.{amounts_stand}
use Rattle.book.proofs.ranges.offer_total.Goals as goal

pub returns : goal.returns
returns c = rw (amounts_stand c.args.book.words.now c.args.j c.args.book.readable c.requires) at c.capped_total.ensures
