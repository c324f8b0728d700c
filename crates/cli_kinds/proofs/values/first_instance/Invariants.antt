use Rattle.std.proofs.Common.{ℕ, ◌<◌}
use Rattle.cli_kinds.specs.Underlying.{IsInstanceField}
use Rattle.cli_kinds.proofs.values.first_instance.Given as goal

abbrev pub invariant-loop-f : goal.invariant-loop-f
invariant-loop-f l = (k : ℕ) → k < l.f → IsInstanceField l.metadata l.fields l.n k → ⊥
