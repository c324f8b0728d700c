use Rattle.std.proofs.Common.{◌≡◌, ℕ, ◌<◌, Some, length}
use Rattle.std.specs.List.{slice_get}
use Rattle.class_rows.specs.declared.row.TypeRow.{TypeRow}
use Rattle.class_table.specs.Buildable.{IsTypeRow}
use Rattle.class_table.proofs.buildable.are_type_rows.Given as goal

abbrev pub invariant-loop-row : goal.invariant-loop-row
invariant-loop-row l = (t : ℕ) (row : TypeRow) → t < l.row-index → slice_get l.types t ≡ Some row → IsTypeRow (length l.types) row
