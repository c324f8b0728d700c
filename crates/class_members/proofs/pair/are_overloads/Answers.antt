use Rattle.std.proofs.Common.{◌≡◌, Bool, true, false, refl, sym, ◌∙◌, ap, map}
use Rattle.std.specs.Prelude.{not, IsTrue, List}
use Rattle.class_rows.specs.declared.row.Param.{Param}
use Rattle.class_rows.specs.Members.{types_of}
use Rattle.class_members.proofs.pair.are_overloads.Goals as goal

pub returns-then-is_overloaded-clause-no : goal.returns-then-is_overloaded-clause-no
returns-then-is_overloaded-clause-no c = λ h.
    let text : List Param → _ = map (λ (p : Param). p.ty) in
    elim c.same_types.result as (λ (v : Bool). c.same_types.result ≡ v → IsTrue (not v)) [
      | true ↦ λ e.
          let same : types_of c.args.a.now ≡ types_of c.args.b.now = ap text (sym c.items.ensures) ∙ c.same_types.ensures.yes e ∙ ap text c.items-then-is_overloaded.ensures in
          absurd (h.apart same)
      | false ↦ λ _. refl
    ] refl
