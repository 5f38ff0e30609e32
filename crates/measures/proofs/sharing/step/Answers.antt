-- `step`: a proportion of the width, kept above 0 and below the width.
use native.Mathlib.Omega.{arith}
use Rattle.measures.proofs.SharingLaws.{product_fits}
use Rattle.measures.proofs.sharing.step.Goals as goal

pub overflow_mul-width : goal.overflow_mul-width
overflow_mul-width c = record { fits = product_fits _ _ (omega arith) (omega arith) }
