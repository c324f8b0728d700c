use Rattle.std.proofs.Common.{Bool, true, false, ◌∷◌, [], refl}
use Rattle.std.specs.Bool.{OnTrue, IsTrue}
use Rattle.dc_base.specs.declared.ty.Ty.{Ty}
use Rattle.class_rows.specs.declared.row.TypeRow.{TypeRow}
use Rattle.std.proofs.Common.{List}
use Rattle.class_rows.specs.Lookups.{IsAssignable, AreAssignable}
use Rattle.cli_bodies.proofs.catches.is_assignable.Goals as goal

one : (b : Bool) (types : List TypeRow) (from to : Ty) → (IsTrue b → AreAssignable types (from ∷ []) to) → OnTrue b (IsAssignable types from to)
one true types from to holds = holds refl 0 from refl
one false types from to holds = tt

pub returns-clause-yes : goal.returns-clause-yes
returns-clause-yes c = one c.assignable.result _ c.args.from c.args.to c.assignable.ensures.yes
