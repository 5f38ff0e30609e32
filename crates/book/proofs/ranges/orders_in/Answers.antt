-- `orders_in`: the test of each order is its definition.
use Rattle.std.proofs.Common.{sym, ◌∙◌, rules}
use Rattle.matching.specs.Memory.{order_at}
use Rattle.book.specs.Sound.{order_in}
use Rattle.book.specs.Layout.{orders_part, decode}
use Rattle.book.proofs.Laws.Memory.RangeFacts.{orders_every}
use Rattle.book.proofs.ranges.orders_in.Goals as goal

pub returns : goal.returns
returns c =
    let m = c.args.book.words.now in
    c.every.ensures (λ k. order_in (decode m) (order_at (orders_part m) k)) (λ k r l p. search rules) ∙ sym (orders_every m)
