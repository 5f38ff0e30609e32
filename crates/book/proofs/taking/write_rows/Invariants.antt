use Rattle.std.proofs.Common.{◌≡◌, length}
use Rattle.matching.specs.Memory.{way_number, written}
use Rattle.book.proofs.Laws.Take.WritingLaws.{rows_read}
use Rattle.book.proofs.taking.write_rows.Given as goal

abbrev pub invariant-loop-p : goal.invariant-loop-p
invariant-loop-p l = (l.k ≡ length l.yielded) × (length l.rows ≡ length l.initial.rows)
    × (l.rows ≡ written l.initial.rows (rows_read (way_number l.deal.way) l.deal.seller l.deal.buyer l.deal.price.0 l.yielded))
