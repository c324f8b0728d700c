use Rattle.std.proofs.Common.{◌≡◌, ◌++◌, [], ◌∷◌, List, sym, ◌∙◌, ap, map}
use Rattle.std.proofs.lemmas.List.{map-append}
use Rattle.dc_base.specs.declared.ty.Ty.{Ty}
use Rattle.class_rows.specs.declared.row.Param.{Param}
use Rattle.class_rows.specs.Members.{types_of}
use Rattle.class_members.proofs.Alike.{same_front}
use Rattle.class_members.proofs.pair.takes_value.Goals as goal

pub returns-then-same_ty-clause-no : goal.returns-then-same_ty-clause-no
returns-then-same_ty-clause-no c = λ h.
    let text : List Param → List Ty = map (λ (p : Param). p.ty) in
    let parts : c.args.setter.now.params ≡ c.in-Some.front.now ++ (c.in-Some.last ∷ []) = sym c.items.ensures ∙ c.in-Some.ensures.some in
    let split : text c.in-Some.front.now ++ (c.in-Some.last.ty ∷ []) ≡ types_of c.args.getter.now ++ (c.args.getter.now.result ∷ []) =
    sym (map-append (λ (p : Param). p.ty) c.in-Some.front.now (c.in-Some.last ∷ [])) ∙ sym (ap text parts) ∙ h in
    let front = same_front (text c.in-Some.front.now) (types_of c.args.getter.now) c.in-Some.last.ty c.args.getter.now.result split in
    c.same_types.ensures.no (front ∙ sym (ap text c.items-then-same_ty.ensures))
