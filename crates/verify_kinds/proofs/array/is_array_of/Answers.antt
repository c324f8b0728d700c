use Rattle.std.proofs.Common.{List, subst}
use Rattle.std.specs.Bool.{OnFalse}
use Rattle.dc_base.specs.declared.ty.Ty.{Ty}
use Rattle.verify_rules.specs.Kinds.{AreArrays}
use Rattle.verify_kinds.proofs.array.is_array_of.Goals as goal

pub returns-in-Refs-clause-no : goal.returns-in-Refs-clause-no
returns-in-Refs-clause-no c =
    let h = subst (λ (set : List Ty). OnFalse c.are_arrays.result (AreArrays c.args.setting.now c.args.access set → ⊥)) c.items.ensures c.are_arrays.ensures.no in
    rw c.in-Refs.is h
