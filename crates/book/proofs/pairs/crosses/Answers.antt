-- `crosses`: a buy is tested against the lowest sell price, and a sale against what is above the highest buy price.
use Rattle.std.proofs.Common.{sym, ◌∙◌}
use Rattle.book.proofs.Laws.Check.TogetherLaws.{buy_test, sell_test}
use Rattle.book.proofs.pairs.crosses.Goals as goal

pub returns-then-book-at : goal.returns-then-book-at
returns-then-book-at g c =
    buy_test _ c.args.book.ranged _ c.requires.0 _ _ c.requires.2 c.args.book.priced (c.if-book-at.true ∙ c.from.ensures)

pub returns : goal.returns
returns g c = sell_test _ c.args.book.ranged _ c.requires.0 _ _ c.requires.2 (λ e. c.if-book-at.false (e ∙ sym c.from.ensures))
