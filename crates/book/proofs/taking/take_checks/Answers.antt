-- `take_checks`: the checks before the fit, then the fit.
use Rattle.std.proofs.Common.{refl}
use Rattle.std.proofs.lemmas.Result.{err_from_is_err_and}
use Rattle.measures.proofs.RefusedLaws.{number_above}
use Rattle.book.proofs.Laws.Take.CheckedLaws.{checked_refused, fit_asks, checked_fit}
use Rattle.book.proofs.taking.take_checks.Goals as goal

pub returns-in_err-offer-clause-checked : goal.returns-in_err-offer-clause-checked
returns-in_err-offer-clause-checked c =
    let p = err_from_is_err_and c.from_residual.result c.from_residual.ensures.1 in
    rw (p.1, p.2) (checked_refused _ _ _ _ _ c.args.book.sound _ _ (number_above _) c.in_err-offer.ensures.refusal)

pub take_fit-requires : goal.take_fit-requires
take_fit-requires c =
    fit_asks _ _ _ _ _ c.args.book.sound _ refl c.in_ok-offer.ensures.refusal _
    c.in_ok-offer.ensures.offer.has c.args.parts.now c.requires

pub returns-in_err-take_fit-clause-checked : goal.returns-in_err-take_fit-clause-checked
returns-in_err-take_fit-clause-checked c =
    let p = err_from_is_err_and c.from_residual-in_err-take_fit.result c.from_residual-in_err-take_fit.ensures.1 in
    rw (p.1, p.2)
    (checked_fit _ _ _ _ _ c.args.book.sound _ refl c.in_ok-offer.ensures.refusal _
    c.in_ok-offer.ensures.offer.has _ _ _ c.in_err-take_fit.ensures)

pub returns-clause-checked : goal.returns-clause-checked
returns-clause-checked c =
    checked_fit _ _ _ _ _ c.args.book.sound _ refl c.in_ok-offer.ensures.refusal _
    c.in_ok-offer.ensures.offer.has _ _ _ c.in_ok-take_fit.ensures
