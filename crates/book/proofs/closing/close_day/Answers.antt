-- `close_day`: the figures, then four words of the head.
use Rattle.book.proofs.Laws.Close.ClosedLaws.{closed_book, closed_aside}
use Rattle.book.proofs.closing.close_day.Goals as goal

pub returns : goal.returns
returns c =
    (closed_book _ _ c.requires.0 c.close_figures.ensures, closed_aside _ _ c.requires.0 c.close_figures.ensures)
