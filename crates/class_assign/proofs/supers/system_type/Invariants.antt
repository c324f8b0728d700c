use Rattle.std.proofs.Common.{◌≡◌, ℕ, ◌<◌, Some}
use Rattle.std.specs.List.{slice_get}
use Rattle.class_rows.specs.declared.row.TypeRow.{TypeRow}
use Rattle.class_assign.specs.Supers.{IsDeclaredInSystem}
use Rattle.class_assign.proofs.supers.system_type.Given as goal

abbrev pub invariant-loop-t : goal.invariant-loop-t
invariant-loop-t l = (k : ℕ) (row : TypeRow) → k < l.t → slice_get l.types k ≡ Some row → IsDeclaredInSystem l.name row → ⊥
