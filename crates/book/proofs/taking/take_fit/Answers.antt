-- `take_fit`: the parts are shared once, and lent to the fit in a copy, to which it adds what is open.
use Rattle.std.proofs.Common.{arith, rules}
use Rattle.book.proofs.Laws.Answer.MadeLaws.{sound_readable}
use Rattle.book.proofs.Laws.Check.MisfitLaws.{zeros_below}
use Rattle.book.proofs.Laws.Take.InPlaceLaws.{raising_small, take_fitted}
use Rattle.book.proofs.Laws.Take.PartyLaws.{offer_sound}
use Rattle.book.proofs.taking.take_fit.Goals as goal

pub invariant_of-share_offer : goal.invariant_of-share_offer
invariant_of-share_offer c = record { readable = sound_readable _ c.args.book.sound }

pub share_offer-requires : goal.share_offer-requires
share_offer-requires c =
    let p = c.requires in
    let g = sound_readable _ c.args.book.sound in
    (omega arith, p.3, p.4, (offer_sound _ c.args.j c.args.book.sound p.0).whole.1, search rules)

pub misfit-requires-clause-enrolled : goal.misfit-requires-clause-enrolled
misfit-requires-clause-enrolled c = (c.requires.1, c.requires.2)

pub misfit-requires-clause-amounts : goal.misfit-requires-clause-amounts
misfit-requires-clause-amounts c =
    let p = c.requires in
    (raising_small _ c.args.claim.unit c.args.j _ c.args.book.sound p.0 (p.1, p.2) p.3 p.4 _ _ p.5 c.share_offer.ensures, zeros_below 744 _)

pub returns : goal.returns
returns c =
    let p = c.requires in
    take_fitted _ c.args.claim.unit c.args.j _ c.args.book.sound p.0 (p.1, p.2) p.3 p.4 _ _ p.5 c.share_offer.ensures _ c.misfit.ensures
