-- `take_rows`: the generator sells.
use Rattle.std.proofs.Common.{sym, ◌∙◌}
use Rattle.book.proofs.Laws.Take.TakenLaws.{rows-sold, rows-bought}
use Rattle.book.proofs.taking.take_rows.Goals as goal
use Rattle.book.proofs.taking.take_rows.Goals.{then-is_generator, else-is_generator}

pub returns : goal.returns
returns c =
    elim c.if-is_generator.branch [
      | then-is_generator w ↦
          rows-sold _ _ _ _ _ _ _ _ c.way_of-way.ensures (sym c.is_generator.ensures ∙ w.if-is_generator.true) (rw w.seller-is at c.write_rows.ensures)
      | else-is_generator w ↦
          rows-bought _ _ _ _ _ _ _ _ c.way_of-way.ensures (sym c.is_generator.ensures ∙ w.if-is_generator.false) (rw w.seller-is at c.write_rows.ensures)
    ]
