-- `bounds_of`: the fields of an enrolled unit are in range, so its limits are no refusal.
use Rattle.book.proofs.Laws.Check.BoundLaws.{bounds_given, bounds_refused, bounds_same}
use Rattle.book.proofs.fits.bounds_of.Goals as goal

pub unreachable-requires : goal.unreachable-requires
unreachable-requires c =
    let u = c.args.unit in
    let f = c.unit_at-fields.ensures in
    bounds_refused _ _ _ _ _ (bounds_given _ _ u.book.ranged u.placed _ _ _ f.0 f.1 f.2 _ c.unit_limits.ensures) c.in-Err.is

pub returns : goal.returns
returns c =
    let u = c.args.unit in
    let f = c.unit_at-fields.ensures in
    bounds_same _ _ _ _ _ (bounds_given _ _ u.book.ranged u.placed _ _ _ f.0 f.1 f.2 _ c.unit_limits.ensures) c.in-Ok.is
