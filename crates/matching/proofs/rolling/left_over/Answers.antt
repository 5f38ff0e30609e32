-- `left_over`: where the orders do not stand there all of it is left, and an order of no direction meets none of them.
use mathlib.Core.Path.{sym, ◌∙◌}
use Rattle.matching.specs.Memory.{as_order, orders_in}
use Rattle.matching.proofs.Laws.Rolling.LeftOverLaws.{left_there, left_absent}
use Rattle.matching.proofs.Laws.Rolling.TurnLaws.{left_whole}
use Rattle.matching.proofs.rolling.left_over.Goals as goal

pub returns-in_default : goal.returns-in_default
returns-in_default c = sym (left_absent _ _ _ c.in_default.ensures)

pub returns-in_default-named : goal.returns-in_default-named
returns-in_default-named c =
    let a = c.args in
    let i = as_order a.incoming in
    sym (left_there a.orders.now a.n i c.in-Some.ensures.0 ∙ left_whole i (orders_in a.orders.now a.n) c.in_default-named.ensures)

pub returns : goal.returns
returns c =
    let o = c.in-Some.ensures in
    c.left_behind.ensures ∙ rw (c.in-Some-named.ensures, o.1, o.2) (sym (left_there _ _ _ o.0))
