-- `after`: the ways before a clear leave the mark.
use Rattle.std.proofs.Common.{arith}
use Rattle.matching.specs.Memory.{direction_number}
use Rattle.book.proofs.Laws.Rows.BookingLaws.{mark_left, mark_set}
use Rattle.book.proofs.trades.Mark.after.Goals as goal

pub returns-then-way : goal.returns-then-way
returns-then-way c = mark_left c.args.way (direction_number c.args.direction) c.args.self.0 (omega arith)

pub returns : goal.returns
returns c = mark_set c.args.way (direction_number c.args.direction) c.args.self.0 _ (omega arith) c.with.ensures
