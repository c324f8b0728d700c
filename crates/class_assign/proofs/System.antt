-- Types of System.
use Rattle.std.proofs.Common.{◌≡◌, ℕ, ◌<◌, List, Some, length, codes, inl, sym, refl, subst, ◌∙◌, eqb, true, false}
use Rattle.std.proofs.lemmas.Bool.{eqb-true, eqb-false}
use Rattle.std.specs.List.{slice_get}
use Rattle.class_rows.specs.declared.row.TypeRow.{TypeRow}
use Rattle.class_rows.specs.Names.{IsFullName, at_top, NamesAreUnique, dotted}
use Rattle.class_rows.specs.Core.{IsSystem, CoreIsThere, core_types, Demand, any}
use Rattle.class_assign.specs.Supers.{IsOnly}

full_name : (types : List TypeRow) (name : List ℕ) (t : ℕ) → IsSystem types name t → IsFullName types t (dotted (codes "System") name)
full_name types name t sys =
    let P : List ℕ → Type 0 = λ s. IsFullName types t (dotted s name) in
    let Q : List ℕ → Type 0 = λ n. IsFullName types t (dotted sys.row.space n) in
    subst P sys.is.2 (subst Q sys.is.3 (at_top t sys.row sys.stands sys.is.1))

-- no other type of System has the name
pub only_one : (types : List TypeRow) (name : List ℕ) (t : ℕ) → NamesAreUnique types → IsSystem types name t → IsOnly types name t
only_one types name t unique sys = record {
  is = sys;
  one = λ s other. elim (eqb s t) as (λ b. eqb s t ≡ b → s ≡ t) [
    | true ↦ λ e. eqb-true s t e
    | false ↦ λ e. absurd (unique t (record {
      reference = record { row = sys.row; stands = sys.stands; is = sys.is.0 };
      name = dotted (codes "System") name;
      is = full_name types name t sys;
      taken = inl (s, eqb-false s t e, record { row = other.row; stands = other.stands; is = other.is.0 }, full_name types name s other);
    }))
  ] refl;
}

-- a core type that may be of any kind is there
pub core_there : (types : List TypeRow) (k : ℕ) (name : List ℕ) → CoreIsThere types → k < length core_types → slice_get core_types k ≡ Some (name, any) → ((t : ℕ) → IsSystem types name t → ⊥) → ⊥
core_there types k name core lt listed none_ =
    core k (record {
      within = lt;
      none = λ t is.
          let e : Some is.core ≡ Some (name, any) = sym is.listed ∙ listed in
          let f : is.core ≡ (name, any) = one_entry is.core (name, any) e in
          none_ t (subst (λ (entry : List ℕ × Demand). IsSystem types entry.0 t) f is.declared);
    })
  where
    one_entry : (a b : List ℕ × Demand) → Some a ≡ Some b → a ≡ b
    one_entry a b h = cc
