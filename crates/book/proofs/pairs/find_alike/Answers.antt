-- `find_alike`: none passed has both unit and period.
use Rattle.std.proofs.Common.{arith}
use Rattle.book.proofs.Laws.Check.TogetherLaws.{seeking_starts, seeking_more, alike-by_day, alike-by_period}
use Rattle.book.proofs.pairs.find_alike.Goals as goal

pub loop-day_next-init : goal.loop-day_next-init
loop-day_next-init c =
    let l = c.args.book.linked in
    rw (c.before-day_next.ensures, c.before-period_next.ensures) (seeking_starts _ _ _ _ (l.of_day _ c.requires) (l.of_period _ c.requires))

pub returns-then-book-a : goal.returns-then-book-a
returns-then-book-a c =
    alike-by_day _ _ _ _ (rw (c.in-Some.is, c.in-Some-period_next.is) at c.loop-day_next.invariant) c.args.book.ranged c.requires c.if-book-a.true

pub returns-then-book-b : goal.returns-then-book-b
returns-then-book-b c =
    alike-by_period _ _ _ _ (rw (c.in-Some.is, c.in-Some-period_next.is) at c.loop-day_next.invariant) c.if-book-b.true

pub loop-day_next-preserved : goal.loop-day_next-preserved
loop-day_next-preserved c =
    let l = c.args.book.linked in
    let s = rw (c.in-Some.is, c.in-Some-period_next.is) at c.loop-day_next.invariant in
    rw (c.before-day_next-in-Some.ensures, c.before-period_next-in-Some.ensures) (seeking_more _ _ _ _ s _ _ c.if-book-a.false c.if-book-b.false
    (l.of_day _ (omega (arith, s.few_day))) (l.of_period _ (omega (arith, s.few_period))))
