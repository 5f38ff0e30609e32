-- `put_amounts`: the periods passed have their amount, all other words are as before.
use Rattle.std.proofs.Common.{arith}
use Rattle.book.proofs.Laws.Offer.OfferedLaws.{putting_start, putting_more}
use Rattle.book.proofs.offering.put_amounts.Goals as goal

pub loop-p-init : goal.loop-p-init
loop-p-init c = putting_start _ _ _

pub loop-p-preserved : goal.loop-p-preserved
loop-p-preserved c =
    putting_more _ _ _ _ _ c.requires.0 c.requires.1 (omega arith) c.loop-p.invariant

pub returns : goal.returns
returns c =
    let g = c.loop-p.invariant in
    (λ q hq. g.put q (omega arith), λ i h. g.kept i (λ q hq z. h q (omega arith) z))
