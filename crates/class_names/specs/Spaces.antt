-- Namespaces, and the names that they take.
use Rattle.std.specs.Prelude.{◌≡◌, ◌≢◌, ◌⊎◌, ℕ, List, [], ◌∷◌, ◌++◌, Some, slice_get}
use Rattle.std.specs.Borrow.{Bor}
use Rattle.class_rows.specs.declared.row.TypeRow.{TypeRow}
use Rattle.class_rows.specs.Names.{IsReference, IsNamespace, IsFullName}

-- the text of a namespace, or of one round it
abbrev pub IsPrefix : List ℕ → List ℕ → Type 0
IsPrefix space name = (name ≢ []) × ((space ≡ name) ⊎ ((inner : List ℕ) × (space ≡ name ++ (46 ∷ inner))))

-- a text stands among these
abbrev pub IsOneOf : List (Bor (List ℕ)) → List ℕ → Type 0
IsOneOf found name = (k : ℕ) × (x : Bor (List ℕ)) × (slice_get found k ≡ Some x) × (x.now ≡ name)

-- just the namespace and those round it
pub record HasPrefixes (space : List ℕ) (found : List (Bor (List ℕ))) : Type 0 where
  pub sound : (name : List ℕ) → IsOneOf found name → IsPrefix space name
  pub complete : (name : List ℕ) → IsPrefix space name → IsOneOf found name

-- what was among some texts, or is among others
pub record HasAdded (old found new : List (Bor (List ℕ))) : Type 0 where
  pub sound : (name : List ℕ) → IsOneOf new name → IsOneOf old name ⊎ IsOneOf found name
  pub kept : (name : List ℕ) → IsOneOf old name → IsOneOf new name
  pub added : (name : List ℕ) → IsOneOf found name → IsOneOf new name

-- just the namespaces of the references
pub record HasSpaces (types : List TypeRow) (spaces : List (Bor (List ℕ))) : Type 0 where
  pub sound : (name : List ℕ) → IsOneOf spaces name → IsNamespace types name
  pub complete : (name : List ℕ) → IsNamespace types name → IsOneOf spaces name

-- a type of the references has the full name of a namespace of theirs
pub record HasNameOfSpace (types : List TypeRow) (t : ℕ) : Type 0 where
  pub reference : IsReference types t
  pub name : List ℕ
  pub is : IsFullName types t name
  pub taken : IsNamespace types name
