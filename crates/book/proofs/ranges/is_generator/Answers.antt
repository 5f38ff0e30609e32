-- `is_generator`: kinds 1 and 2; a number of no kind is none of them.
use Rattle.std.proofs.Common.{arith}
use Rattle.book.proofs.Laws.Memory.RangeFacts.{kind_at, kind_answers}
use Rattle.book.proofs.ranges.is_generator.Goals as goal

pub returns : goal.returns
returns c = rw (kind_at c.args.book.words.now c.args.unit (omega arith)) (kind_answers _ _ _ c.try_from.ensures c.is_ok_and.ensures)
