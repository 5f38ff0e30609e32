-- `close_figures`: the day is over on each day passed.
use Rattle.std.proofs.Common.{arith}
use Rattle.book.specs.Layout.{DAYS}
use Rattle.book.proofs.Laws.Close.ClosingLaws.{days_more, days_read, days_netted}
use Rattle.book.proofs.closing.close_figures.Goals as goal

pub close_units-requires : goal.close_units-requires
close_units-requires c =
    let l = c.loop-d in
    let w = l.invariant.before DAYS (omega arith) in
    (days_read _ _ _ c.requires.0 l.invariant, omega arith, days_netted _ _ _ c.requires.0 l.invariant (c.requires.1.each l.d (omega arith)))

pub loop-d-preserved : goal.loop-d-preserved
loop-d-preserved c = days_more _ _ _ _ c.requires.0.units_to c.loop-d.invariant c.close_units.ensures
