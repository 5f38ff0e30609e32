-- `units_in`: the test of each unit is its definition.
use Rattle.std.proofs.Common.{rules}
use Rattle.book.specs.Inner.Readable.{unit_fields_in}
use Rattle.book.proofs.ranges.units_in.Goals as goal

pub returns : goal.returns
returns c = c.every.ensures (unit_fields_in c.args.book.words.now) (λ k r l p. search rules)
