-- `numbers_free`: the test of each offer is its definition.
use Rattle.std.proofs.Common.{sym, ◌∙◌, rules}
use Rattle.book.specs.Layout.{offer_place, word, decode}
use Rattle.book.specs.Inner.Readable.{number_free}
use Rattle.book.proofs.Laws.Check.NumberLaws.{numbers_by_places}
use Rattle.book.proofs.numbers.numbers_free.Goals as goal

pub returns : goal.returns
returns c =
    let m = c.args.book.words.now in
    c.every.ensures (λ j. number_free (decode m) (word m (offer_place j))) (λ j r l p. search rules) ∙ sym (numbers_by_places m)
