-- `day_head`: the link kept for the unit and day.
use Rattle.std.proofs.Common.{◌+◌, ◌*◌, ◌<◌, arith}
use Rattle.book.specs.Layout.{ORDERS, word}
use Rattle.book.proofs.standing.day_head.Goals as goal

pub returns : goal.returns
returns c =
    let u = c.args.unit.at in
    let links = c.args.unit.linked in
    let units = u.book.ranged.readable.units_to in
    let some : 0 < word u.book.words.now ORDERS = omega (arith, c.if-unit-eq0.false) in
    rw c.last.ensures (links.heads some (64 * c.args.d + u.place) (omega (arith, links.long some, units, u.placed, c.requires)))
