-- `close_unit`: a day without trades is closed as it stands.
use Rattle.book.proofs.Laws.Close.ClosingLaws.{closed_untraded}
use Rattle.book.proofs.closing.close_unit.Goals as goal

pub returns-then-not-traded : goal.returns-then-not-traded
returns-then-not-traded c = closed_untraded _ _ (c.traded.ensures c.if-not-traded.true)
