-- `sums_came`: a word past `LOW` is a fault; one that is not is none, and then each sum is beside its limit.
use Rattle.std.proofs.Common.{◌<◌, ◌≤◌, arith}
use Rattle.book.specs.Inner.Fitting.{most_low}
use Rattle.book.proofs.Laws.Check.VerdictLaws.{hour_past, term_past, volume_past, nothing_past}
use Rattle.book.proofs.fits.sums_came.Goals as goal

pub returns-then-s-gt-LOW : goal.returns-then-s-gt-LOW
returns-then-s-gt-LOW c =
    let high : most_low < c.args.s.bad = omega (arith, c.if-s-gt-LOW.true) in
    hour_past _ _ c.args.s high

pub returns-then-most-s : goal.returns-then-most-s
returns-then-most-s c =
    let low : c.args.s.bad ≤ most_low = omega (arith, c.if-s-gt-LOW.false) in
    term_past _ _ c.args.s low (omega (arith, c.bounds_of-most.ensures.0, c.if-most-s.true))

pub returns-then-most-s-2 : goal.returns-then-most-s-2
returns-then-most-s-2 c =
    let b = c.bounds_of-most.ensures in
    let low : c.args.s.bad ≤ most_low = omega (arith, c.if-s-gt-LOW.false) in
    volume_past _ _ c.args.s low (omega (arith, b.0, c.if-most-s.false)) (omega (arith, b.1, c.if-most-s-2.true))

pub returns : goal.returns
returns c =
    let b = c.bounds_of-most.ensures in
    let low : c.args.s.bad ≤ most_low = omega (arith, c.if-s-gt-LOW.false) in
    nothing_past _ _ c.args.s low (omega (arith, b.0, c.if-most-s.false)) (omega (arith, b.1, c.if-most-s-2.false))
