-- `sides_fit`: a law of `sides_in` for each way out.
use Rattle.std.proofs.Common.{sym, ◌∙◌, arith}
use Rattle.book.proofs.Laws.Memory.RangeFacts.{sides_alone, sides_unknown, sides_no-generator, sides_no_load, sides_right}
use Rattle.book.proofs.ranges.sides_fit.Goals as goal

pub returns-then-partner-eq0 : goal.returns-then-partner-eq0
returns-then-partner-eq0 c = sides_alone _ _ _ (omega arith)

pub returns-then-book-partner : goal.returns-then-book-partner
returns-then-book-partner c = sides_unknown _ _ _ (omega arith) (omega arith)

pub returns-then-not-is_generator : goal.returns-then-not-is_generator
returns-then-not-is_generator c = sides_no-generator _ _ _ (omega arith) (omega arith) (sym c.is_generator.ensures ∙ c.if-not-is_generator.true)

pub returns-then-is_generator : goal.returns-then-is_generator
returns-then-is_generator c = sides_no_load _ _ _ (omega arith) (omega arith) (sym c.is_generator-2.ensures ∙ c.if-is_generator.true)

pub returns : goal.returns
returns c =
    sides_right _ _ _ (omega arith) (omega arith)
    (sym c.is_generator.ensures ∙ c.if-not-is_generator.false)
    (sym c.is_generator-2.ensures ∙ c.if-is_generator.false)
