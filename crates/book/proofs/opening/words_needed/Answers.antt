-- `words_needed`: the test of the days for each way out.
use Rattle.std.proofs.Common.{sym, refl, ◌∙◌, arith}
use Rattle.book.proofs.Laws.Memory.TestLaws.{is_in}
use Rattle.book.proofs.opening.words_needed.Goals as goal

pub returns-then-not-in_range : goal.returns-then-not-in_range
returns-then-not-in_range c = sym c.in_range.ensures ∙ c.if-not-in_range.true

pub returns : goal.returns
returns c =
    let d = is_in {a = 1} {b = 31} {x = c.args.days} c.in_range.ensures c.if-not-in_range.false in
    (sym c.in_range.ensures ∙ c.if-not-in_range.false, refl, omega (arith, d.0))
