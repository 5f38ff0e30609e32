-- `offers_in`: the test of each offer is its definition.
use Rattle.std.proofs.Common.{sym, ◌∙◌, rules}
use Rattle.book.specs.Sound.{offer_in}
use Rattle.book.specs.Layout.{DAYS, word, offer_at, decode}
use Rattle.book.proofs.Laws.Memory.RangeFacts.{offers_every}
use Rattle.book.proofs.ranges.offers_in.Goals as goal

pub returns : goal.returns
returns c =
    let m = c.args.book.words.now in
    c.every.ensures (λ j. offer_in (decode m) (offer_at m (word m DAYS) j)) (λ j r l p. search rules) ∙ sym (offers_every m)
