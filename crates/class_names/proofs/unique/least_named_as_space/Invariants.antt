use Rattle.std.proofs.Common.{ℕ, ◌<◌}
use Rattle.class_names.specs.Spaces.{HasNameOfSpace}
use Rattle.class_names.proofs.unique.least_named_as_space.Given as goal

abbrev pub invariant-loop-index : goal.invariant-loop-index
invariant-loop-index l = (t : ℕ) → t < l.index → HasNameOfSpace l.types t → ⊥
