-- `unit_limits`: a period that is not refused is of the term.
use Prim.Native.Nat.{◌*◌, ◌<◌}
use mathlib.Core.Path.{sym, ◌∙◌}
use borrow.Author.Tests.{ltb-true}
use Rattle.std.proofs.Common.{rules}
use Rattle.limits.specs.Limits.{limits_at}
use Rattle.limits.proofs.unit_limits.Goals as goal

pub returns : goal.returns
unfolding limits_at
returns c =
    let period : c.args.period < 24 * c.args.term.0 = ltb-true _ _ (sym c.has.ensures ∙ c.if-not-has.false) in
    search rules
