-- `offer_fit`: amounts copied over zeros declare what is offered, and a sound book's unit fits without them.
use Rattle.std.proofs.Common.{◌≡◌, ℕ, get_or, replicate, arith}
use Rattle.book.proofs.Laws.Answer.MadeLaws.{sound_readable}
use Rattle.book.proofs.Laws.Check.MisfitLaws.{zeros_at, zeros_below}
use Rattle.book.proofs.Laws.Offer.OfferFitLaws.{offer_fits, copied_over, copied_small}
use Rattle.book.proofs.offering.offer_fit.Goals as goal
use Rattle.book.proofs.offering.offer_fit.Goals.{After-copy_amounts}

copied : (c : After-copy_amounts) → (k : ℕ) → get_or c.copy_amounts.new.copy k 0 ≡ get_or c.args.amounts.now k 0
copied c k = rw c.copy_amounts.ensures (copied_over (replicate {A = ℕ} 744 0) c.args.amounts.now (zeros_at 744) k)

pub copy_amounts-requires : goal.copy_amounts-requires
copy_amounts-requires c = let r = sound_readable c.args.book.words.now c.args.book.sound in omega arith

pub misfit-requires-clause-enrolled : goal.misfit-requires-clause-enrolled
misfit-requires-clause-enrolled c = (c.requires.0, c.requires.1)

pub misfit-requires-clause-amounts : goal.misfit-requires-clause-amounts
misfit-requires-clause-amounts c = (
  copied_small c.args.amounts.now c.copy_amounts.new.copy c.requires.3 (copied (goal.at.misfit-requires-clause-amounts c).After-copy_amounts),
  zeros_below 744 _,
)

pub returns : goal.returns
returns c =
    let a = c.args in
    offer_fits a.book.words.now c.args.book.sound a.unit (c.requires.0, c.requires.1) a.amounts.now c.copy_amounts.new.copy (replicate {A = ℕ} 744 0)
    _ (copied (goal.at.returns c).After-copy_amounts) (zeros_at 744) c.misfit.ensures
