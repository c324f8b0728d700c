use Rattle.std.proofs.Common.{ℕ, ◌<◌}
use Rattle.cli_unresolved.specs.Unresolved.{IsLost}
use Rattle.cli_unresolved.proofs.lost.lost.Given as goal

abbrev pub invariant-loop-k : goal.invariant-loop-k
invariant-loop-k g l = (k : ℕ) → k < l.k → IsLost l.marks l.before l.found k → ⊥
