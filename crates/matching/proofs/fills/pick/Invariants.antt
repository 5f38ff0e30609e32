use Rattle.matching.proofs.Laws.Clearing.PickLaws.{Picking}
use Rattle.matching.proofs.fills.pick.Given as goal

abbrev pub invariant-loop-p : goal.invariant-loop-p
invariant-loop-p l =
    Picking l.laid.orders.words.now l.which l.margin.0 l.laid.places.now l.initial.to l.initial.amounts l.first l.to l.amounts l.r l.p-index
