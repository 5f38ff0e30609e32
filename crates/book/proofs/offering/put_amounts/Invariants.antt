use Rattle.book.proofs.Laws.Offer.OfferedLaws.{Putting}
use Rattle.book.proofs.offering.put_amounts.Given as goal

abbrev pub invariant-loop-p : goal.invariant-loop-p
invariant-loop-p l = Putting l.initial.book l.j l.amounts l.book l.p
