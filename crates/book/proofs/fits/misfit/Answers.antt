-- `misfit`: the amounts come to the declaration's and what is open, so the pass over them is the fit of the decoded book.
use Rattle.std.proofs.Common.{arith}
use Rattle.book.proofs.Laws.Answer.MadeLaws.{sound_head}
use Rattle.book.proofs.Laws.Check.JoinLaws.{fitted_all}
use Rattle.book.proofs.Laws.Sound.RangedLaws.{sound_ranged}
use Rattle.book.proofs.fits.misfit.Goals as goal

pub invariant_of-ranged : goal.invariant_of-ranged
invariant_of-ranged c =
    let s = c.args.book.sound in record { ranged = sound_ranged _ s; priced = (sound_head _ s).ceiling }

pub invariant_of-raising_direction : goal.invariant_of-raising_direction
invariant_of-raising_direction c = record { readable = (sound_ranged _ c.args.book.sound).readable }

pub returns : goal.returns
returns c =
    let r = sound_ranged _ c.args.book.sound in
    fitted_all _ _ _ _ _ _ _ _ _ c.requires.enrolled r.readable (omega arith) c.raising_direction-direction.ensures
    c.add_offers.ensures c.add_orders.ensures c.fit_of.ensures
