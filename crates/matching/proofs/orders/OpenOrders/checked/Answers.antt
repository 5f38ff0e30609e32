-- `OpenOrders::checked`: more than 256 are too many, and no fewer.
use mathlib.Core.Path.{refl}
use native.Mathlib.Omega.{arith}
use borrow.Author.Tests.{lt-leb}
use Rattle.matching.proofs.orders.OpenOrders.checked.Goals as goal

pub returns-then-n : goal.returns-then-n
returns-then-n c = rw (lt-leb c.args.n 256 (omega arith)) refl

pub new-requires : goal.new-requires
new-requires c = (omega arith, omega arith)
