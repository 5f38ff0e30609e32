-- `order_fit`: one amount among zeros is what the order declares, so the misfit is the first of the last checks.
use Rattle.std.proofs.Common.{sym, ◌∙◌, arith}
use Rattle.matching.proofs.Laws.Laying.KeyLaws.{direction_few}
use Rattle.book.proofs.Laws.Answer.MadeLaws.{sound_readable}
use Rattle.book.proofs.Laws.Check.MisfitLaws.{zeros_below}
use Rattle.book.proofs.Laws.Order.OrderFitLaws.{alone_small, fit_raising, fit_lowering}
use Rattle.book.proofs.ordering.order_fit.Goals as goal

pub invariant_of-raises_net : goal.invariant_of-raises_net
invariant_of-raises_net c = record { readable = sound_readable _ c.args.book.sound }

pub misfit-requires-clause-amounts : goal.misfit-requires-clause-amounts
misfit-requires-clause-amounts c =
    let r = sound_readable _ c.args.book.sound in
    (alone_small 744 c.args.wanted.period c.args.wanted.quantity.0 (omega (arith, c.requires.1.period)) c.requires.1.quantity, zeros_below 744 _)

pub returns-then-raises_net : goal.returns-then-raises_net
returns-then-raises_net c =
    let r = sound_readable _ c.args.book.sound in
    let n = c.requires.1 in
    rw (← c.requires.0)
    (fit_raising _ c.args.book.sound 744 _ _ _ _ _ n.from n.upto (omega (arith, n.period)) (sym c.raises_net.ensures ∙ c.if-raises_net.true) c.misfit.ensures)

pub misfit-requires-2-clause-amounts : goal.misfit-requires-2-clause-amounts
misfit-requires-2-clause-amounts c =
    let r = sound_readable _ c.args.book.sound in
    (zeros_below 744 _, alone_small 744 c.args.wanted.period c.args.wanted.quantity.0 (omega (arith, c.requires.1.period)) c.requires.1.quantity)

pub returns : goal.returns
returns c =
    let r = sound_readable _ c.args.book.sound in
    let n = c.requires.1 in
    rw (← c.requires.0)
    (fit_lowering _ c.args.book.sound 744 _ _ _ _ _ n.from n.upto (omega (arith, n.period)) (omega (arith, direction_few c.args.direction))
    (sym c.raises_net.ensures ∙ c.if-raises_net.false) c.misfit-2.ensures)
