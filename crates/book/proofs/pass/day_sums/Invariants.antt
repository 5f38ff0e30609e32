use Rattle.std.proofs.Common.{◌≡◌, ℕ, ◌<◌}
use Rattle.book.specs.Inner.Pass.{Passed, day_cell}
use Rattle.book.proofs.pass.day_sums.Given as goal

abbrev pub invariant-loop-h : goal.invariant-loop-h
invariant-loop-h g l = (x y : ℕ → ℕ) → ((h : ℕ) (z : _) → h < 24 → goal.F-post g l.amounts h z → (z.0 ≡ x h) × (z.1 ≡ y h))
    → Passed l.h (day_cell l.unit.book.words.now l.at l.unit.limits.now x y) l.s
