-- `write_rows`: the rows written are those of the parts so far, and in the end of all.
use Rattle.std.proofs.Common.{◌≡◌, [], ◌∷◌, length, refl, sym, ◌∙◌, arith, rules, tests, length-append}
use Rattle.std.specs.List.{filter, enumerate_from}
use Rattle.std.proofs.lemmas.Iterator.{YieldsList, YieldsList-from_slice}
use Rattle.std.proofs.lemmas.Iterator.Consumers.{YieldsList-at, YieldsList-from_enumerate, YieldsList-from_filter}
use Rattle.std.proofs.lemmas.Iterator.Consumers.{YieldsList-turn, YieldsList-end}
use Rattle.matching.proofs.Laws.Orders.PlacedLaws.{room_there}
use Rattle.matching.proofs.Laws.Orders.RowLaws.{written_none}
use Rattle.book.proofs.Laws.Take.WritingLaws.{read, is_some_part, rows_counted, rows_more, rows_all, few_parts}
use Rattle.book.proofs.taking.write_rows.Given
use Rattle.book.proofs.taking.write_rows.Goals as goal
use Rattle.book.proofs.taking.write_rows.Goals.{After-into_iter-p-iterator}

-- the walk passes each part that is not 0, with its period
walk : (c : After-into_iter-p-iterator)
    → YieldsList (Given.iterator-loop-p).next_gives read c.into_iter-p-iterator.result (filter is_some_part (enumerate_from 0 c.args.parts.now))
walk c =
    YieldsList-at c.into_iter-p-iterator.ensures.into_iter_gives
    (YieldsList-from_filter _ is_some_part
    (YieldsList-at c.filter-p-items.ensures.source
    (YieldsList-from_enumerate (YieldsList-at c.enumerate.ensures.source (YieldsList-from_slice c.args.parts.now cc))
    c.enumerate.ensures.count))
    c.filter-p-items.ensures.closure (λ x b q k. search (rules, tests)))

pub loop-p-init : goal.loop-p-init
loop-p-init c = (refl, refl, written_none _)

pub overflow_add-k : goal.overflow_add-k
overflow_add-k c =
    let t = YieldsList-turn (walk (goal.at.overflow_add-k c).After-into_iter-p-iterator) c.loop-p.yielded _
    c.loop-p.yielded_by _ _ _ c.in-Some.is c.next.ensures.steps in
    omega (arith, t.0, few_parts 0 c.args.parts.now, c.loop-p.invariant.0)

pub loop-p-preserved : goal.loop-p-preserved
loop-p-preserved c =
    let w = c.loop-p.invariant in
    let t = YieldsList-turn (walk (goal.at.loop-p-preserved c).After-into_iter-p-iterator) c.loop-p.yielded _
    c.loop-p.yielded_by _ _ _ c.in-Some.is c.next.ensures.steps in
    let long : length c.put_row.new.rows ≡ length c.loop-p.rows = search rules in
    let put = rw c.from.ensures at (c.put_row.ensures.row (room_there _ _ (omega (arith, t.0, few_parts 0 c.args.parts.now, w.0, w.1)))) in (
      omega (arith, length-append c.loop-p.yielded ((c.in-Some.p, c.in-Some.part) ∷ []), w.0),
      long ∙ w.1,
      rw (rows_more _ _ _ _ c.loop-p.yielded _) (put _ _ (rows_counted _ _ _ _ c.loop-p.yielded ∙ sym w.0) w.2),
    )

pub returns : goal.returns
returns c =
    let e = YieldsList-end (walk (goal.at.returns c).After-into_iter-p-iterator) c.loop-p.yielded _
    c.loop-p.yielded_by _ _ c.in-None.is c.next.ensures.steps in
    rows_all _ _ _ _ _ _ _ c.loop-p.yielded _ e.0 c.loop-p.invariant.0 c.loop-p.invariant.2
