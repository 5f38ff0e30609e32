-- `hour_limits`: a ranged book's kinds are known, and each hour is given its limit.
use Rattle.std.proofs.Common.{rules}
use Rattle.measures.proofs.RangeLaws.{inside}
use Rattle.measures.proofs.ListLaws.{not_both}
use Rattle.book.proofs.Laws.Check.BoundLaws.{unit_words}
use Rattle.book.proofs.Laws.Check.UnitLaws.{limits_made}
use Rattle.book.proofs.pass.hour_limits.Goals as goal

pub unreachable-requires : goal.unreachable-requires
unreachable-requires c =
    let kind = (unit_words _ _ c.args.book.ranged c.requires).kind in
    not_both _ (inside 1 4 _ kind) (rw c.unit_at-unit.ensures.0 at c.in_default.ensures.1)

pub returns : goal.returns
returns c =
    let made = c.from_fn.ensures.items in
    limits_made _ _ _ _ _ (λ i y q s. (search rules, search rules)) made.long made.each
