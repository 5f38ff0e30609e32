-- `unit_known`: the units of the decoded book are as many as the memory's word says.
use Rattle.std.proofs.Common.{rules}
use Rattle.book.proofs.Laws.Memory.RangeFacts.{units_held}
use Rattle.book.proofs.ranges.unit_known.Goals as goal

pub returns : goal.returns
returns c = rw (units_held c.args.book.words.now) (search rules)
