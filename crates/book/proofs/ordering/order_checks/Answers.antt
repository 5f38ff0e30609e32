-- `order_checks`: the three parts in a row are the whole chain.
use Rattle.std.proofs.Common.{refl}
use Rattle.std.proofs.lemmas.Result.{err_from_is_err_and}
use Rattle.measures.proofs.RefusedLaws.{number_some}
use Rattle.book.proofs.Laws.Answer.MadeLaws.{sound_readable}
use Rattle.book.proofs.Laws.Order.OrderCheckLaws.{order_names_first, order_days_first, order_fit_first}
use Rattle.book.proofs.ordering.order_checks.Goals as goal

pub invariant_of-readable : goal.invariant_of-readable
invariant_of-readable c = record { readable = sound_readable _ c.args.book.sound }

pub returns-in_err-direction : goal.returns-in_err-direction
returns-in_err-direction c =
    let p = err_from_is_err_and c.from_residual.result c.from_residual.ensures.1 in
    rw (p.1, p.2) (order_names_first _ _ _ _ _ _ _ _ (number_some _) c.in_err-direction.ensures.checked.answer)

pub order_days-requires : goal.order_days-requires
order_days-requires c =
    let n = c.in_ok-direction.ensures.checked.named refl in
    (n.from, n.upto, c.in_ok-direction.ensures.direction, n.period)

pub returns-in_err-order_days : goal.returns-in_err-order_days
returns-in_err-order_days c =
    let p = err_from_is_err_and c.from_residual-in_err-order_days.result c.from_residual-in_err-order_days.ensures.1 in
    rw (p.1, p.2) (order_days_first _ _ _ _ _ _ _ _ c.in_ok-direction.ensures.checked.answer (number_some _) c.in_err-order_days.ensures)

pub order_fit-requires : goal.order_fit-requires
order_fit-requires c = (c.in_ok-direction.ensures.direction, c.in_ok-direction.ensures.checked.named refl)

pub returns : goal.returns
returns c =
    rw c.order_fit.ensures
    (order_fit_first _ _ _ _ _ _ _ c.in_ok-direction.ensures.checked.answer c.in_ok-order_days.ensures)
