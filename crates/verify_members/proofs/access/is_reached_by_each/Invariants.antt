use Rattle.std.proofs.Common.{ℕ, ◌<◌, Some, get_or}
use Rattle.dc_base.specs.declared.ty.Ty.{Ty}
use Rattle.verify_rules.specs.Members.{MayBeNamed, through}
use Rattle.verify_members.proofs.access.is_reached_by_each.Given as goal

abbrev pub invariant-loop-ty : goal.invariant-loop-ty
invariant-loop-ty l = (k : ℕ) (d : Ty) → k < l.ty-index → MayBeNamed l.setting l.member (Some (through l.setting (get_or l.set k d)))
