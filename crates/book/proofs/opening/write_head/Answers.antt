-- `write_head`: nine stores at the front; no unit, offer or order is counted.
use Rattle.std.proofs.Common.{arith, length-set}
use Rattle.book.proofs.Laws.Opening.OpeningLaws.{headed, head_past}
use Rattle.book.specs.Layout.{figures_start}
use Rattle.book.proofs.opening.write_head.Goals as goal

pub bounds-book-1 : goal.bounds-book-1
bounds-book-1 c = simp length-set (omega arith)

pub bounds-book-2 : goal.bounds-book-2
bounds-book-2 c = simp length-set (omega arith)

pub bounds-book-3 : goal.bounds-book-3
bounds-book-3 c = simp length-set (omega arith)

pub bounds-book-4 : goal.bounds-book-4
bounds-book-4 c = simp length-set (omega arith)

pub bounds-book-5 : goal.bounds-book-5
bounds-book-5 c = simp length-set (omega arith)

pub bounds-book-6 : goal.bounds-book-6
bounds-book-6 c = simp length-set (omega arith)

pub bounds-book-7 : goal.bounds-book-7
bounds-book-7 c = simp length-set (omega arith)

pub bounds-book-8 : goal.bounds-book-8
bounds-book-8 c = simp length-set (omega arith)

pub returns : goal.returns
returns c =
    let h = headed c.args.book.now c.args.days c.args.floor c.args.ceiling (omega arith) in
    (h.0, h.1, head_past figures_start c.args.book.now c.args.days c.args.floor c.args.ceiling (omega arith))
