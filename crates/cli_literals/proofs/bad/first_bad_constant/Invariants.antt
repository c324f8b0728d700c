use Rattle.std.proofs.Common.{ℕ, ◌+◌, ◌<◌}
use Rattle.cli_literals.specs.Fails.{IsBad}
use Rattle.cli_literals.proofs.bad.first_bad_constant.Given as goal

abbrev pub invariant-loop-k : goal.invariant-loop-k
invariant-loop-k l = (j : ℕ) → j < l.k → IsBad l.metadata l.fields (j + 1) → ⊥
