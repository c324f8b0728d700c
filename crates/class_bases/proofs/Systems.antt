-- The types of System among the first so many types.
use Rattle.std.proofs.Common.{◌≡◌, ◌⊎◌, ℕ, ◌+◌, ◌<◌, ◌≤◌, Bool, true, false, cond, Option, Some, None, List, [], ◌∷◌, length, refl, sym, ◌∙◌, ap, subst, inl, inr, arith}
use Rattle.std.specs.Borrow.{Bor}
use Rattle.std.specs.Str.{bytes_eq}
use Rattle.std.specs.List.{slice_get}
use Rattle.std.specs.Prelude.{codes, ◌≢◌}
use Rattle.std.proofs.lemmas.Bool.{cases_lt, cases_order}
use Rattle.std.proofs.lemmas.Option.{slice_get_within}
use Rattle.class_rows.specs.Types.{HasType}
use Rattle.class_rows.specs.Names.{IsReference, IsFullName, at_top, dotted, NamesAreUnique}
use Rattle.class_keys.proofs.Items.{one_item}
use Rattle.class_names.proofs.Bytes.{same_bytes, bytes_same}
use Rattle.class_rows.specs.declared.row.TypeRow.{TypeRow}
use Rattle.class_rows.specs.Core.{IsSystem}
use Rattle.class_bases.specs.System.{at_name, HasSystem, IsOfSystem}

pub record SystemBefore (types : List TypeRow) (i : ℕ) (entries : List (Bor (List ℕ) × ℕ)) : Type 0 where
  pub sound : (name : List ℕ) (t : ℕ) → at_name entries name ≡ Some t → IsSystem types name t
  pub complete : (name : List ℕ) (t : ℕ) → t < i → IsSystem types name t → (s : ℕ) × (at_name entries name ≡ Some s)

full_name_of : (types : List TypeRow) (name : List ℕ) (t : ℕ) → IsSystem types name t → IsFullName types t (dotted (codes "System") name)
full_name_of types name t is =
    subst (λ (n : List ℕ). IsFullName types t n) (ap (λ (space : List ℕ). dotted space is.row.name) is.is.2 ∙ ap (λ (n : List ℕ). dotted (codes "System") n) is.is.3) (at_top t is.row is.stands is.is.1)

is_reference : (types : List TypeRow) (name : List ℕ) (t : ℕ) → IsSystem types name t → IsReference types t
is_reference types name t is = record { row = is.row; stands = is.stands; is = is.is.0 }

two_systems : (types : List TypeRow) (name : List ℕ) (s t : ℕ) → NamesAreUnique types → IsSystem types name s → IsSystem types name t → t ≢ s → ⊥
two_systems types name s t unique here there apart = unique s (record {
  reference = is_reference types name s here;
  name = dotted (codes "System") name;
  is = full_name_of types name s here;
  taken = inl (t, apart, is_reference types name t there, full_name_of types name t there);
})

-- where the names are unique there is one type of System of a name
pub one_system : (types : List TypeRow) (name : List ℕ) (s t : ℕ) → NamesAreUnique types → IsSystem types name s → IsSystem types name t → s ≡ t
one_system types name s t unique here there = elim (cases_order s t) [
  | inl e ↦ e
  | inr w ↦ absurd (two_systems types name s t unique here there (λ e. elim w [ inl lt ↦ omega (arith, lt, e) | inr lt ↦ omega (arith, lt, e) ]))
]

pub no_system_yet : (types : List TypeRow) (entries : List (Bor (List ℕ) × ℕ)) → entries ≡ [] → SystemBefore types 0 entries
no_system_yet types entries empty = record {
  sound = λ name t at. let none : None ≡ Some t = sym (ap (λ (es : List (Bor (List ℕ) × ℕ)). at_name es name) empty) ∙ at in absurd cc;
  complete = λ name t lt _. absurd (omega (arith, lt));
}

-- a name is put into the map
abbrev pub IsNamedNow : List (Bor (List ℕ) × ℕ) → List (Bor (List ℕ) × ℕ) → List ℕ → ℕ → Type 0
IsNamedNow old new key t = (name : List ℕ) → at_name new name ≡ cond (bytes_eq key name) (Some t) (at_name old name)

found_by : (types : List TypeRow) (old new : List (Bor (List ℕ) × ℕ)) (key name : List ℕ) (i t : ℕ) (v : Bool) → bytes_eq key name ≡ v → IsSystem types key i → ((t : ℕ) → at_name old name ≡ Some t → IsSystem types name t) → cond v (Some i) (at_name old name) ≡ Some t → IsSystem types name t
found_by types old new key name i t true e here was at =
    let same : i ≡ t = cc in
    subst (λ (n : List ℕ). IsSystem types n t) (same_bytes key name e) (subst (λ (k : ℕ). IsSystem types key k) same here)
found_by types old new key name i t false e here was at = was t at

some_by : (old : List (Bor (List ℕ) × ℕ)) (name : List ℕ) (i : ℕ) (v : Bool) → (v ≡ false → (s : ℕ) × (at_name old name ≡ Some s)) → (s : ℕ) × (cond v (Some i) (at_name old name) ≡ Some s)
some_by old name i true was = (i, refl)
some_by old name i false was = was refl

pub with_system : (types : List TypeRow) (i : ℕ) (row : TypeRow) (old new : List (Bor (List ℕ) × ℕ)) → slice_get types i ≡ Some row → IsOfSystem row → IsNamedNow old new row.name i → SystemBefore types i old → SystemBefore types (i + 1) new
with_system types i row old new stands is now so = record {
  sound = λ name t at.
      found_by types old new row.name name i t (bytes_eq row.name name) refl (record { row = row; stands = stands; is = (is.0, is.1, is.2, refl) }) (so.sound name) (sym (now name) ∙ at);
  complete = λ name t lt there.
      let some = some_by old name i (bytes_eq row.name name) (λ apart. elim (cases_lt t i) [
        | inl less ↦ so.complete name t less there
        | inr le ↦
            let e : t ≡ i = omega (arith, lt, le) in
            let same = one_item types i there.row row (ap (λ (k : ℕ). slice_get types k) (sym e) ∙ there.stands) stands in
            let text : row.name ≡ name = sym (ap (λ (r : TypeRow). r.name) same) ∙ there.is.3 in
            let both : true ≡ false = sym (bytes_same row.name name text) ∙ apart in
            absurd cc
      ]) in
      (some.0, now name ∙ some.1);
}

pub without_system : (types : List TypeRow) (i : ℕ) (row : TypeRow) (old : List (Bor (List ℕ) × ℕ)) → slice_get types i ≡ Some row → (IsOfSystem row → ⊥) → SystemBefore types i old → SystemBefore types (i + 1) old
without_system types i row old stands off so = record {
  sound = so.sound;
  complete = λ name t lt there. elim (cases_lt t i) [
    | inl less ↦ so.complete name t less there
    | inr le ↦
        let e : t ≡ i = omega (arith, lt, le) in
        let same = one_item types i there.row row (ap (λ (k : ℕ). slice_get types k) (sym e) ∙ there.stands) stands in
        absurd (off (subst (λ (r : TypeRow). IsOfSystem r) same (there.is.0, there.is.1, there.is.2)))
  ];
}

pub all_systems : (types : List TypeRow) (i : ℕ) (entries : List (Bor (List ℕ) × ℕ)) → length types ≤ i → SystemBefore types i entries → HasSystem types entries
all_systems types i entries all so = record {
  sound = so.sound;
  complete = λ name t is. let lt = slice_get_within types t is.row is.stands in so.complete name t (omega (arith, lt, all)) is;
}
