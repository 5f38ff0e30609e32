-- `way_of`: by the partner.
use Rattle.std.proofs.Common.{arith}
use Rattle.book.proofs.Laws.Take.TakenLaws.{way_listing, way_bilateral}
use Rattle.book.proofs.taking.way_of.Goals as goal

pub returns-then-partner-eq0 : goal.returns-then-partner-eq0
returns-then-partner-eq0 c = way_listing c.args.partner (omega arith)

pub returns : goal.returns
returns c = way_bilateral c.args.partner (omega arith)
