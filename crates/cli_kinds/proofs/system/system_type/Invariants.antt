use Rattle.std.proofs.Common.{ℕ, ◌<◌}
use Rattle.class_rows.specs.Types.{HasType}
use Rattle.cli_kinds.specs.System.{IsSystemRow}
use Rattle.cli_kinds.proofs.system.system_type.Given as goal

abbrev pub invariant-loop-t : goal.invariant-loop-t
invariant-loop-t l = (k : ℕ) → k < l.t → HasType l.references k (IsSystemRow l.name) → ⊥
