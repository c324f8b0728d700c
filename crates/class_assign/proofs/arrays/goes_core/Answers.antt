use Rattle.std.proofs.Common.{subst, inl, inr}
use Rattle.dc_base.specs.declared.ty.Core.{Core}
use Rattle.class_rows.specs.Lookups.{IsAssignable, brackets, same}
use Rattle.class_assign.proofs.Ways.{core_back}
use Rattle.class_assign.proofs.arrays.goes_core.Goals as goal

pub returns-in_default : goal.returns-in_default
returns-in_default c = record {
  yes = λ t. subst (λ (x : Core). IsAssignable c.args.types.now (brackets c.args.from 0) (brackets x 0)) (c.is_same_core.ensures.yes t) (same (brackets c.args.from 0));
  no = λ h. elim (core_back c.args.types.now c.args.from c.args.to h) [
    | inl e ↦ c.is_same_core.ensures.no e
    | inr k ↦ absurd (c.in_default.not-Class (record { 0 = k.a }) k.from_)
  ];
}
