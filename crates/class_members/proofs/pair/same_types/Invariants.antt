use Rattle.class_rows.specs.declared.row.Param.{Param}
use Rattle.class_members.proofs.Alike.{AreAlikeBefore}
use Rattle.class_members.proofs.pair.same_types.Given as goal

abbrev pub invariant-loop-index : goal.invariant-loop-index
invariant-loop-index l = AreAlikeBefore (λ (p : Param). p.ty) l.a l.b l.index
