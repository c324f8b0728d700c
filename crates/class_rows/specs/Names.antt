-- The names of types (ECMA-335 II.22.37; ECMA-334 on fully qualified names).
use Rattle.std.specs.Prelude.{◌≡◌, ◌≢◌, ◌⊎◌, ℕ, List, [], ◌∷◌, ◌++◌, Option, Some, None, slice_get, false}
use Rattle.dc_base.specs.declared.names.TypeId.{TypeId}
use Rattle.class_rows.specs.declared.row.TypeRow.{TypeRow}
use Rattle.class_rows.specs.Types.{HasType}

-- two names with a dot between them; nothing stands before the name where the first is empty
abbrev pub dotted : List ℕ → List ℕ → List ℕ
dotted [] name = name
dotted (b ∷ space) name = (b ∷ space) ++ (46 ∷ name)

-- the full name of a type: its namespace, the types round it from the outside in, and its own name
pub data IsFullName (types : List TypeRow) : ℕ → List ℕ → Type 0 where
  at_top : (t : ℕ) (row : TypeRow) → slice_get types t ≡ Some row → row.outer ≡ None → IsFullName types t (dotted row.space row.name)
  nested : (t o : ℕ) (row : TypeRow) (name : List ℕ) → slice_get types t ≡ Some row → row.outer ≡ Some (record { 0 = o }) → IsFullName types o name → IsFullName types t (name ++ (46 ∷ row.name))

-- a type of the references
abbrev pub IsReference : List TypeRow → ℕ → Type 0
IsReference types t = HasType types t (λ row. row.own ≡ false)

-- a namespace of the references: that of one of their types that is nested in none, or one round it
pub record IsNamespace (types : List TypeRow) (name : List ℕ) : Type 0 where
  pub t : ℕ
  pub top : HasType types t (λ row. (row.own ≡ false) × (row.outer ≡ None) × ((row.space ≡ name) ⊎ ((inner : List ℕ) × (row.space ≡ name ++ (46 ∷ inner)))))
  pub some : name ≢ []

-- a type of the references shares its full name with another of them, or with one of their namespaces
pub record IsTwice (types : List TypeRow) (t : ℕ) : Type 0 where
  pub reference : IsReference types t
  pub name : List ℕ
  pub is : IsFullName types t name
  pub taken : ((s : ℕ) × (s ≢ t) × IsReference types s × IsFullName types s name) ⊎ IsNamespace types name

-- no two types of the references, and no type and no namespace of theirs, have one full name
abbrev pub NamesAreUnique : List TypeRow → Type 0
NamesAreUnique types = (t : ℕ) → IsTwice types t → ⊥
