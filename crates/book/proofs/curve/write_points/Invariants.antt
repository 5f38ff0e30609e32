use Rattle.std.proofs.Common.{◌+◌, ◌*◌}
use Rattle.book.specs.Layout.{decode}
use Rattle.book.proofs.Laws.Curve.CurveLaws.{Drawing}
use Rattle.book.proofs.curve.write_points.Given as goal

abbrev pub invariant-loop-h : goal.invariant-loop-h
invariant-loop-h l = Drawing (decode l.book.words.now) (l.k + 1) (24 * l.day) l.initial.points l.points l.h
