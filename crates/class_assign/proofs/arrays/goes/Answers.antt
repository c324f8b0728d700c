use Rattle.std.proofs.Common.{subst, inl, inr}
use Rattle.std.proofs.lemmas.Bool.{false≢true}
use Rattle.dc_base.specs.declared.ty.Ty.{Ty}
use Rattle.class_rows.specs.Lookups.{IsAssignable, same}
use Rattle.class_assign.proofs.Ways.{not_lent, none_lent}
use Rattle.class_assign.proofs.arrays.goes.Goals as goal

pub returns-then-is_same_ty-clause-yes : goal.returns-then-is_same_ty-clause-yes
returns-then-is_same_ty-clause-yes c = λ t. subst (λ (x : Ty). IsAssignable c.args.types.now c.args.from x) (c.if-is_same_ty.ensures.yes t) (same c.args.from)

pub returns-then-is_either_lent-clause-no : goal.returns-then-is_either_lent-clause-no
returns-then-is_either_lent-clause-no c = λ h. elim (not_lent c.args.types.now c.args.from c.args.to h) [
  | inl e ↦ absurd (false≢true (c.if-is_same_ty.ensures.no e))
  | inr both ↦ none_lent c.args.from.lent c.args.to.lent both c.if-is_either_lent.ensures
]
