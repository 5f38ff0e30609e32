-- `trade`: each step's contract is one part of the definition, and the volume lies at the margin of both sides.
use native.Mathlib.Omega.{arith}
use lib.ListN.{length-take}
use Rattle.matching.proofs.Laws.Orders.FitLaws.{fit_gives}
use Rattle.matching.proofs.Laws.Clearing.StepLaws.{sides_few, bids_at_margin, asks_at_margin, clears_some}
use Rattle.matching.proofs.clearing.trade.Goals as goal

pub new-open-requires : goal.new-open-requires
new-open-requires c =
    let f = fit_gives _ _ _ c.requires.0 in
    (f.inside, f.few)

pub fill-fb-requires : goal.fill-fb-requires
fill-fb-requires c =
    let a = c.args in
    rw c.new-open.ensures.0 (bids_at_margin a.orders.now a.rows.now a.bids.now a.asks.now a.n a.period a.margins.volume.0
    a.margins.bid.0 a.margins.ask.0 c.requires.0 c.requires.1 c.requires.2 c.requires.3 c.requires.4)

pub fill-fa-requires : goal.fill-fa-requires
fill-fa-requires c =
    let a = c.args in
    rw c.new-open.ensures.0 (asks_at_margin a.orders.now a.rows.now a.bids.now a.asks.now a.n a.period a.margins.volume.0
    a.margins.bid.0 a.margins.ask.0 c.requires.0 c.requires.1 c.requires.2 c.requires.3 c.requires.4)

pub put_overlaps-count-requires : goal.put_overlaps-count-requires
put_overlaps-count-requires c =
    let f = fit_gives _ _ _ c.requires.0 in
    let w = sides_few _ _ _ _ _ c.requires.2 c.requires.3 in
    let x = c.fill-fb.ensures.0 in
    let y = c.fill-fa.ensures.0 in
    let bids = length-take c.fill-fb.result c.fill-fb.new.to in
    let asks = length-take c.fill-fa.result c.fill-fa.new.to in
    let here = c.new-open.ensures in
    rw here.1 (f.lent, omega (arith, w, x, y, bids, asks), rw here.1 at c.fill-fb.ensures.2, rw here.1 at c.fill-fa.ensures.2)

pub leave_rests-standing-requires : goal.leave_rests-standing-requires
leave_rests-standing-requires c =
    let f = fit_gives _ _ _ c.requires.0 in
    let here = c.new-open.ensures in
    (f.inside, f.few, f.rises, rw here.1 at c.fill-fb.ensures.2, rw here.1 at c.fill-fa.ensures.2)

pub returns : goal.returns
returns c =
    let a = c.args in
    let here = c.new-open.ensures.0 in
    clears_some a.orders.now a.rows.now a.bids.now a.asks.now a.n a.period a.margins.volume.0
    a.margins.bid.0 a.margins.ask.0 c.requires.0 c.requires.1 c.requires.2 c.requires.3 c.requires.4
    _ _ _ _ _ _ c.middle-price.ensures (rw here at c.fill-fb.ensures.3) (rw here at c.fill-fa.ensures.3)
    (rw here at c.put_overlaps-count.ensures.0) (rw here at c.put_overlaps-count.ensures.1) c.leave_rests-standing.ensures.0 c.leave_rests-standing.ensures.1
