use Rattle.std.proofs.Common.{◌≡◌, ℕ, ◌<◌, Some}
use Rattle.std.specs.List.{slice_get}
use Rattle.class_rows.specs.declared.row.Param.{Param}
use Rattle.cli_shapes.proofs.members.has_deep.Given as goal

abbrev pub invariant-loop-i : goal.invariant-loop-i
invariant-loop-i l = (j : ℕ) (p : Param) → j < l.i → slice_get l.params j ≡ Some p → 32 < p.ty.arrays → ⊥
