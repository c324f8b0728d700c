use Rattle.std.proofs.Common.{◌≡◌, ℕ, ◌<◌, get_or}
use Rattle.dc_base.specs.declared.ty.Ty.{Ty}
use Rattle.verify_joins.proofs.set.has.Given as goal

abbrev pub invariant-loop-one : goal.invariant-loop-one
invariant-loop-one l = (k : ℕ) → k < l.one-index → (d : Ty) → get_or l.set k d ≡ l.ty → ⊥
