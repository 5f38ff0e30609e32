-- `book_trade`: the unit's new figures are those of the definition, whether it raises or lowers.
use Rattle.std.proofs.Common.{sym, ap, ◌∙◌}
use Rattle.matching.specs.Memory.{direction_number}
use Rattle.book.specs.Book.{Figures}
use Rattle.book.specs.Trades.{mark_after}
use Rattle.book.specs.Inner.RowsIn.{as_figures}
use Rattle.book.proofs.Laws.Rows.BookingLaws.{trade_raised, trade_lowered}
use Rattle.book.proofs.trades.book_trade.Goals as goal
use Rattle.book.proofs.trades.book_trade.Goals.{then-raises_net, else-raises_net}

pub returns : goal.returns
returns c =
    let p = c.requires in
    let f = c.figures_at-before in
    let v = c.plus-volume.ensures in
    let w = c.after-mark.ensures ∙ ap (λ (g : Figures). mark_after c.args.row.way (direction_number c.args.direction) g.mark) f.ensures in
    elim c.if-raises_net.branch [
      | then-raises_net t ↦
          let e = t.raised_by-figures.ensures in
          trade_raised _ _ _ _ _ _ _ _ p.0 p.1 p.2 p.3 w (as_figures f.result) _ _ _ f.ensures v p.5 p.4
          (rw t.figures-is at c.put_figures.ensures) (sym c.raises_net.ensures ∙ t.if-raises_net.true) e.0 e.1
      | else-raises_net t ↦
          let e = t.lowered_by-figures.ensures in
          trade_lowered _ _ _ _ _ _ _ _ p.0 p.1 p.2 p.3 w (as_figures f.result) _ _ _ f.ensures v p.5 p.4
          (rw t.figures-is at c.put_figures.ensures) (sym c.raises_net.ensures ∙ t.if-raises_net.false) e.0 e.1
    ]
