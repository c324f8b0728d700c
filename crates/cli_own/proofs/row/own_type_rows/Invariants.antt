use Rattle.std.proofs.Common.{◌≡◌, ◌≤◌, ℕ, ◌+◌, Some, length}
use Rattle.std.specs.List.{slice_get}
use Rattle.class_rows.specs.declared.row.TypeRow.{TypeRow}
use Rattle.cli_names.specs.Names.{own_types}
use Rattle.cli_own.specs.Rows.{IsOwnTypeRow}
use Rattle.cli_own.proofs.row.own_type_rows.Given as goal

abbrev pub invariant-loop-k : goal.invariant-loop-k
invariant-loop-k l = record {
  long : length l.rows.items + 1 ≡ l.k;
  within : l.k ≤ own_types l.own.metadata.now + 1;
  each : (j : ℕ) (row : TypeRow) → slice_get l.rows.items j ≡ Some row → IsOwnTypeRow l.own.metadata.now l.own.fields.now l.own.tokens.now l.own.outers.now l.own.system (j + 2) row;
}
