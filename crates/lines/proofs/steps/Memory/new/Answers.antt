-- `new`: the desk begins at the start of a line, with no book.
use mathlib.Core.Path.{refl}
use Rattle.lines.proofs.steps.Memory.new.Goals as goal

pub returns : goal.returns
returns c = refl
