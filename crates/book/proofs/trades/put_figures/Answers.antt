-- `put_figures`: four stores, at rising places.
use Rattle.std.proofs.Common.{arith, length-set}
use Rattle.book.proofs.Laws.Rows.FigureLaws.{figures_put}
use Rattle.book.proofs.trades.put_figures.Goals as goal

pub bounds-book-at-2 : goal.bounds-book-at-2
bounds-book-at-2 c = simp length-set (omega arith)

pub bounds-book-at-3 : goal.bounds-book-at-3
bounds-book-at-3 c = simp length-set (omega arith)

pub returns : goal.returns
returns c = figures_put _ _ _ _ _ _ _ (omega arith)
