use Rattle.std.proofs.Common.{subst, sym}
use Rattle.dc_base.specs.declared.ty.Core.{Core}
use Rattle.class_rows.specs.Lookups.{IsReferenceTy}
use Rattle.class_assign.proofs.Ways.{is_class_reference}
use Rattle.class_assign.proofs.arrays.is_reference.Goals as goal

pub returns-in-Class-clause-yes : goal.returns-in-Class-clause-yes
returns-in-Class-clause-yes c = λ h. subst (λ (x : Core). IsReferenceTy x c.args.count) (sym c.in-Class.is) (is_class_reference c.in-Class.field-0 c.args.count)
