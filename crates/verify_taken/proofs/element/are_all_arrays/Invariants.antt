use Rattle.std.proofs.Common.{ℕ, ◌<◌, get_or}
use Rattle.dc_base.specs.declared.ty.Ty.{Ty}
use Rattle.verify_rules.specs.Held.{element_of}
use Rattle.verify_rules.specs.Kinds.{IsThere}
use Rattle.verify_taken.proofs.element.are_all_arrays.Given as goal

abbrev pub invariant-loop-array : goal.invariant-loop-array
invariant-loop-array l = (k : ℕ) (d : Ty) → k < l.array-index → IsThere (element_of (get_or l.set k d))
