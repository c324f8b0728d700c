use Rattle.std.proofs.Common.{ℕ, ◌<◌}
use Rattle.class_bases.specs.Fit.{FitsAbove}
use Rattle.class_bases.proofs.bound.least_unfit.Given as goal

abbrev pub invariant-loop-index : goal.invariant-loop-index
invariant-loop-index l = (t : ℕ) → t < l.index → FitsAbove l.types t
