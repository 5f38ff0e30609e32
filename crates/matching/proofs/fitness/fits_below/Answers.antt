-- `fits_below`: the orders fit and the rows are there, so the count of periods answers.
use Prim.Native.Nat.{◌*◌}
use mathlib.Core.Path.{sym, ◌∙◌, refl}
use native.Mathlib.Omega.{arith}
use lib.ListN.{length}
use borrow.Author.Tests.{le-leb}
use Rattle.matching.specs.Answers.{fit_below}
use Rattle.matching.proofs.fitness.fits_below.Goals as goal

pub returns : goal.returns
unfolding fit_below
returns c =
    let f = sym c.fits.ensures ∙ c.if-not-fits.false in
    rw (f, le-leb (12 * c.args.n) (length c.args.rows.now) (omega arith)) refl
