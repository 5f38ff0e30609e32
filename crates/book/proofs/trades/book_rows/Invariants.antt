use Rattle.book.proofs.Laws.Rows.BookingLaws.{Booking}
use Rattle.book.proofs.trades.book_rows.Given as goal

abbrev pub invariant-loop-i : goal.invariant-loop-i
invariant-loop-i l = Booking l.initial.book l.book l.rows l.i
