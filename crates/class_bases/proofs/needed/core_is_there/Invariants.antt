use Rattle.std.proofs.Common.{ℕ, ◌<◌}
use Rattle.class_rows.specs.Core.{IsMissingCore}
use Rattle.class_bases.proofs.needed.core_is_there.Given as goal

abbrev pub invariant-loop-k : goal.invariant-loop-k
invariant-loop-k l = (n : ℕ) → n < l.k → IsMissingCore l.types n → ⊥
