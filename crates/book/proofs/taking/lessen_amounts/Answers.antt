-- `lessen_amounts`: the amounts are lent as they stand, and come back less.
use Rattle.book.proofs.Laws.Take.InPlaceLaws.{amounts_less_lem}
use Rattle.book.proofs.taking.lessen_amounts.Goals as goal

pub returns : goal.returns
returns c =
    let a = c.args in
    amounts_less_lem a.book.now a.j c.requires.0 c.requires.1 a.parts.now _ c.take_off.ensures
