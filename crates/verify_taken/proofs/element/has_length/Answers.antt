use Rattle.std.proofs.Common.{Bool, true, false, List, subst}
use Rattle.std.specs.Bool.{OnFalse}
use Rattle.std.specs.List.{Contains}
use Rattle.dc_base.specs.declared.ty.Ty.{Ty}
use Rattle.verify_rules.specs.Held.{element_of}
use Rattle.verify_rules.specs.Kinds.{HasLength, IsThere}
use Rattle.verify_taken.proofs.element.has_length.Goals as goal

anyway : (b : Bool) (A : Type 0) → A → OnFalse b A
anyway true A a = tt
anyway false A a = a

pub returns-else-are_all_arrays-clause-no : goal.returns-else-are_all_arrays-clause-no
returns-else-are_all_arrays-clause-no c =
    let h = subst (λ (set : List Ty). ((array : Ty) → Contains set array → IsThere (element_of array)) → ⊥) c.items.ensures c.if-are_all_arrays.ensures.no in
    anyway c.are_all_arrays.result (HasLength c.args.setting.now c.args.slot.now → ⊥) (rw c.in-Refs.is (λ has. h has.0))
