use Rattle.std.proofs.Common.{◌≡◌, ℕ, ◌<◌, Some}
use Rattle.std.specs.List.{slice_get}
use Rattle.class_spread.specs.Filled.{IsFilled, IsSoFar}
use Rattle.class_spread.proofs.spread.spreads_of.Given as goal

abbrev pub invariant-loop-t : goal.invariant-loop-t
invariant-loop-t l = IsSoFar l.types l.table.items × ((k t : ℕ) → k < l.t-index → slice_get l.order k ≡ Some t → IsFilled l.table.items t)
