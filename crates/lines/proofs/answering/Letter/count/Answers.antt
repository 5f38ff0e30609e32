-- `count`: two numbers follow an X.
use Rattle.std.proofs.Common.{refl}
use Rattle.lines.specs.Lines.{count_of}
use Rattle.lines.proofs.answering.Letter.count.Goals as goal

pub returns-in-Cancel : goal.returns-in-Cancel
unfolding count_of
returns-in-Cancel c = rw c.in-Cancel.is refl
