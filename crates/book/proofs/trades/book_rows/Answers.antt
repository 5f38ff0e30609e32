-- `book_rows`: the rows passed are booked.
use Rattle.std.proofs.Common.{arith}
use Rattle.book.proofs.Laws.Rows.BookingLaws.{booking_none, booking_more, booking_end, row_asks}
use Rattle.book.proofs.trades.book_rows.Goals as goal

pub loop-i-init : goal.loop-i-init
loop-i-init c = booking_none _ _ c.requires.4

pub book_row-requires : goal.book_row-requires
book_row-requires c =
    row_asks _ _ _ _ _ c.requires.0 c.requires.1 c.requires.2 c.requires.3 c.loop-i-test.true c.loop-i.invariant

pub loop-i-preserved : goal.loop-i-preserved
loop-i-preserved c = booking_more _ _ _ _ c.loop-i.i c.loop-i.invariant c.book_row.ensures

pub returns : goal.returns
returns c = booking_end _ _ _ _ c.loop-i.i (omega arith) c.loop-i.invariant
