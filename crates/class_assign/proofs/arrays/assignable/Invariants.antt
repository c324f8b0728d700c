use Rattle.std.proofs.Common.{◌≡◌, ℕ, ◌<◌, Some}
use Rattle.std.specs.List.{slice_get}
use Rattle.dc_base.specs.declared.ty.Ty.{Ty}
use Rattle.class_rows.specs.Lookups.{IsAssignable}
use Rattle.class_assign.proofs.arrays.assignable.Given as goal

abbrev pub invariant-loop-from : goal.invariant-loop-from
invariant-loop-from l = (k : ℕ) (s : Ty) → k < l.from-index → slice_get l.set k ≡ Some s → IsAssignable l.types s l.to
