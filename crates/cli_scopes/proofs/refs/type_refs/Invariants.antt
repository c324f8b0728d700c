use Rattle.std.proofs.Common.{◌≡◌, ℕ, ◌+◌, Some, length}
use Rattle.std.specs.List.{slice_get}
use Rattle.cli_scopes.specs.declared.refs.TypeRef.{TypeRef}
use Rattle.cli_scopes.specs.Refs.{IsTypeRef}
use Rattle.cli_scopes.proofs.refs.type_refs.Given as goal

abbrev pub invariant-loop-k : goal.invariant-loop-k
invariant-loop-k l = record {
  long : length l.refs.items ≡ l.k;
  each : (j : ℕ) (ref : TypeRef) → slice_get l.refs.items j ≡ Some ref → IsTypeRef l.metadata (j + 1) ref;
}
