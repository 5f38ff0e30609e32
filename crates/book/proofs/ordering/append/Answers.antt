-- `append`: the part comes back with the order behind the others, and the count has it.
use Rattle.std.proofs.Common.{◌∙◌, arith, length-drop, length-take}
use borrow.Rule.Slice.PartMut.{mid_len}
use Rattle.matching.proofs.Laws.Orders.PlacedLaws.{place_there}
use Rattle.book.proofs.Laws.Order.WaitLaws.{appended}
use Rattle.book.specs.Layout.{orders_start, amounts_start}
use Rattle.book.proofs.ordering.append.Goals as goal

pub returns : goal.returns
returns c =
    appended c.args.book.now c.write.new.orders _ (omega arith) (c.write.auto.orders
    ∙ mid_len orders_start amounts_start c.args.book.now (omega arith)) (c.write.ensures.orders
    (place_there _ _ _ (omega arith) (simp (length-take, length-drop) (omega arith)) (omega arith)))
