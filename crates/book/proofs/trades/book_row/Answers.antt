-- `book_row`: the seller sold, the buyer bought.
use Rattle.std.proofs.Common.{sym, subst}
use Rattle.matching.specs.Orders.{Row}
use Rattle.matching.specs.Memory.{as_row}
use Rattle.book.specs.Inner.RowsIn.{RowFits, RowTraded}
use Rattle.book.proofs.Laws.Rows.BookingLaws.{row_traded, seller-asks, buyer-asks}
use Rattle.book.proofs.trades.book_row.Goals as goal
use Rattle.book.proofs.trades.book_row.Goals.{After-row_at-row}

pub book_trade-requires : goal.book_trade-requires
book_trade-requires c =
    seller-asks c.args.book.now (as_row c.row_at-row.result) c.requires.0 (subst (λ (r : Row). RowFits c.args.book.now r) (sym c.row_at-row.ensures) c.requires.3) c.requires.4

pub book_trade-requires-2 : goal.book_trade-requires-2
book_trade-requires-2 c =
    buyer-asks c.args.book.now _ (as_row c.row_at-row.result) c.requires.0 (subst (λ (r : Row). RowFits c.args.book.now r) (sym c.row_at-row.ensures) c.requires.3) c.requires.4 c.book_trade.ensures

pub returns : goal.returns
returns c =
    subst (λ (r : Row). RowTraded c.args.book.now c.book_trade-2.new.book r) c.row_at-row.ensures
    (row_traded _ _ _ (as_row c.row_at-row.result) (subst (λ (r : Row). RowFits c.args.book.now r) (sym c.row_at-row.ensures) c.requires.3) c.book_trade.ensures
    c.book_trade-2.ensures)
