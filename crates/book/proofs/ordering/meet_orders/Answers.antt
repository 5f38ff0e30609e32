-- `meet_orders`: the part comes back as matching leaves it, and the count is of what stands.
use Rattle.std.proofs.Common.{ap, ◌∙◌, arith}
use borrow.Rule.Slice.PartMut.{mid_len}
use Rattle.std.specs.Prelude.{Option}
use Rattle.matching.specs.declared.orders.Matched.{Matched}
use Rattle.matching.specs.Memory.{as_order}
use Rattle.matching.specs.Answers.{answer_of}
use Rattle.book.specs.Layout.{orders_start, amounts_start}
use Rattle.book.proofs.Laws.Answer.MadeLaws.{sound_readable}
use Rattle.book.proofs.Laws.Order.RestWaitLaws.{met_unfit, met_rolled}
use Rattle.book.proofs.ordering.meet_orders.Goals as goal

pub bounds-book-7 : goal.bounds-book-7
bounds-book-7 c = let r = sound_readable _ c.requires.0 in omega arith

pub slice_bounds-meet-end : goal.slice_bounds-meet-end
slice_bounds-meet-end c = let r = sound_readable _ c.requires.0 in omega arith

pub unreachable-requires : goal.unreachable-requires
unreachable-requires c =
    met_unfit c.args.book.now c.meet-met.new.orders c.args.rows.now c.meet-met.new.rows (as_order c.args.o) c.meet-met.result
    c.requires.0 c.requires.1 c.meet-met.ensures (ap (λ (x : Option Matched). (answer_of x).fits) c.in_default.is)

pub returns : goal.returns
returns c =
    let r = sound_readable _ c.requires.0 in
    met_rolled c.args.book.now c.meet-met.new.orders c.args.rows.now c.meet-met.new.rows (as_order c.args.o) c.meet-met.result
    c.requires.0 c.requires.1 c.meet-met.ensures _ _ _
    (ap answer_of c.in-Some.is) (c.meet-met.auto.orders ∙ mid_len orders_start amounts_start c.args.book.now (omega arith))
