-- `is_beyond`: the day count of an opening; else whether a book stands, and for an enrol the word that counts the units.
use Rattle.std.proofs.Common.{rules, sym, ◌∙◌}
use Rattle.lines.proofs.AnswerLaws.{beyond_opening, beyond_enrol}
use Rattle.lines.proofs.steps.Memory.is_beyond.Goals as goal

pub returns-then-eq : goal.returns-then-eq
returns-then-eq c = beyond_opening c.args.letter c.args.self.now.numbers c.args.self.now.book c.args.self.now.desk.started (search rules)

pub returns-then-eq-2 : goal.returns-then-eq-2
returns-then-eq-2 c =
    beyond_enrol c.args.letter c.args.self.now.numbers c.args.self.now.book c.args.self.now.desk.started (search rules)
    (sym c.has_book.ensures ∙ c.if-not-has_book.false)
