-- Core types that are there, and that aren't.
use Rattle.std.proofs.Common.{◌≡◌, ℕ, ◌<◌, Option, Some, None, List, length, refl, sym, ◌∙◌, ap, subst, arith}
use Rattle.std.specs.Borrow.{Bor}
use Rattle.std.specs.List.{slice_get}
use Rattle.class_rows.specs.declared.row.TypeRow.{TypeRow}
use Rattle.class_rows.specs.Names.{NamesAreUnique}
use Rattle.class_rows.specs.Core.{IsSystem, IsCore, IsMissingCore, Meets, Demand, core_types}
use Rattle.class_keys.proofs.Items.{item_at}
use Rattle.class_bases.specs.System.{at_name, HasSystem, IsNameOf, IsDemandOf}
use Rattle.class_bases.proofs.Systems.{one_system}

pub core_there : (types : List TypeRow) (entries : List (Bor (List ℕ) × ℕ)) (k t : ℕ) (name : List ℕ) (demand : Demand) → HasSystem types entries → IsNameOf k name → IsDemandOf k demand → at_name entries name ≡ Some t → Meets types demand t → IsMissingCore types k → ⊥
core_there types entries k t name demand has named demanded at meets missing =
    let core = item_at core_types k missing.within in
    let declared : IsSystem types core.0.0 t = subst (λ (n : List ℕ). IsSystem types n t) (named core.0 core.1) (has.sound name t at) in
    missing.none t (record { core = core.0; listed = core.1; declared = declared; meets = subst (λ (d : Demand). Meets types d t) (demanded core.0 core.1) meets })

pub core_off : (types : List TypeRow) (entries : List (Bor (List ℕ) × ℕ)) (k t : ℕ) (name : List ℕ) (demand : Demand) → NamesAreUnique types → HasSystem types entries → IsNameOf k name → IsDemandOf k demand → at_name entries name ≡ Some t → (Meets types demand t → ⊥) → (u : ℕ) → IsCore types k u → ⊥
core_off types entries k t name demand unique has named demanded at off u core =
    let declared : IsSystem types name u = subst (λ (n : List ℕ). IsSystem types n u) (sym (named core.core core.listed)) core.declared in
    let same = one_system types name u t unique declared (has.sound name t at) in
    off (subst (λ (n : ℕ). Meets types demand n) same (subst (λ (d : Demand). Meets types d u) (sym (demanded core.core core.listed)) core.meets))

pub core_none : (types : List TypeRow) (entries : List (Bor (List ℕ) × ℕ)) (k : ℕ) (name : List ℕ) → HasSystem types entries → IsNameOf k name → at_name entries name ≡ None → (u : ℕ) → IsCore types k u → ⊥
core_none types entries k name has named at u core =
    let declared : IsSystem types name u = subst (λ (n : List ℕ). IsSystem types n u) (sym (named core.core core.listed)) core.declared in
    let some = has.complete name u declared in
    let both : None ≡ Some some.0 = sym at ∙ some.1 in
    cc
