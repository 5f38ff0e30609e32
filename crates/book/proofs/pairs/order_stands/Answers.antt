-- `order_stands`: its way first, then in the rolling phase its price.
use Rattle.book.proofs.Laws.Check.TogetherLaws.{stands_not, stands_called, stands_rolling}
use Rattle.book.proofs.pairs.order_stands.Goals as goal

pub returns-then-not-one_direction : goal.returns-then-not-one_direction
returns-then-not-one_direction g c = stands_not _ _ _ _ _ c.one_direction.ensures c.if-not-one_direction.true

pub returns-then-book : goal.returns-then-book
returns-then-book g c = stands_called _ _ _ _ _ c.one_direction.ensures c.if-not-one_direction.false c.if-book.true

pub returns : goal.returns
returns g c =
    stands_rolling _ _ _ _ _ _ c.one_direction.ensures c.if-not-one_direction.false c.if-book.false c.stands_apart.ensures
