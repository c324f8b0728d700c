use Rattle.std.proofs.Common.{ℕ, ◌<◌, slice_get}
use Rattle.verify_gaps.specs.Parts.{MayBeUsedAt}
use Rattle.verify_gaps.proofs.gap.may_be_passed.Given as goal

abbrev pub invariant-loop-depth : goal.invariant-loop-depth
invariant-loop-depth l = (k : ℕ) → k < l.depth → MayBeUsedAt l.setting l.row k (slice_get l.frame k)
