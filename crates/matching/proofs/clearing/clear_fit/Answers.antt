-- `clear_fit`: a volume of 0 changes nothing; any other is traded.
use mathlib.Core.Path.{refl, sym, ◌∙◌}
use native.Mathlib.Omega.{arith}
use Rattle.matching.proofs.Laws.Orders.FitLaws.{fit_gives}
use Rattle.matching.proofs.Laws.Clearing.StepLaws.{clears_none}
use borrow.Author.Tests.{eqb-true, eqb-false}
use Rattle.matching.proofs.clearing.clear_fit.Goals as goal

pub new-open-requires : goal.new-open-requires
new-open-requires c =
    let f = fit_gives _ _ _ c.requires in
    (f.inside, f.few)

pub lay-nb-requires : goal.lay-nb-requires
lay-nb-requires c =
    let f = fit_gives _ _ _ c.requires in
    let here = c.new-open.ensures in
    rw (here.0, here.1) f.rises

pub lay-na-requires : goal.lay-na-requires
lay-na-requires c =
    let f = fit_gives _ _ _ c.requires in
    let here = c.new-open.ensures in
    rw (here.0, here.1) f.rises

pub find_margins-margins-requires : goal.find_margins-margins-requires
find_margins-margins-requires c =
    let f = fit_gives _ _ _ c.requires in
    let here = c.new-open.ensures in
    let bids = rw (here.0, here.1) at c.lay-nb.ensures.1 in
    let asks = rw (here.0, here.1) at c.lay-na.ensures.1 in
    rw (here.0, here.1) (refl, record { period = c.args.period; bids_stand = bids; asks_stand = asks; small = f.small })

pub returns-then-eq : goal.returns-then-eq
returns-then-eq c =
    let here = c.new-open.ensures in
    let bids = rw (here.0, here.1) at c.lay-nb.ensures.1 in
    let asks = rw (here.0, here.1) at c.lay-na.ensures.1 in
    let margins = rw here.0 at c.find_margins-margins.ensures in
    clears_none _ _ _ _ _ _ _ _ _ _ c.requires refl refl bids asks margins
    (eqb-true _ _ (sym c.eq.ensures ∙ c.if-eq.true))

pub trade-requires : goal.trade-requires
trade-requires c =
    let here = c.new-open.ensures in
    let bids = rw (here.0, here.1) at c.lay-nb.ensures.1 in
    let asks = rw (here.0, here.1) at c.lay-na.ensures.1 in
    let margins = rw here.0 at c.find_margins-margins.ensures in
    let some = eqb-false c.find_margins-margins.result.volume.0 0 (sym c.eq.ensures ∙ c.if-eq.false) in
    (c.requires, omega (arith, some), bids, asks, margins)
