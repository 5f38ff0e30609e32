use Rattle.measures.specs.Lists.{Each}
use Rattle.matching.specs.Memory.{orders_in}
use Rattle.matching.specs.Inner.Periods.{PricedBy}
use Rattle.matching.proofs.Laws.Periods.PassingLaws.{Passing}
use Rattle.matching.proofs.periods.clear_each.Given as goal

abbrev pub invariant-loop-p : goal.invariant-loop-p
invariant-loop-p l =
    (Passing l.initial.orders l.initial.rows l.n l.end l.orders l.rows l.cleared.count l.cleared.standing l.p)
    × (Each (PricedBy l.prices.high l.prices.low) (orders_in l.orders l.cleared.standing))
