-- `joined`: the bits of both.
use Rattle.book.proofs.Laws.Check.CellLaws.{or_joined}
use Rattle.book.proofs.pass.joined.Goals as goal

pub returns : goal.returns
returns c = or_joined _ _
