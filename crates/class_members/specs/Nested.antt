-- The names of nested types.
use Rattle.std.specs.Prelude.{◌≡◌, ℕ, List, Some, slice_get}
use Rattle.class_rows.specs.declared.row.TypeRow.{TypeRow}
use Rattle.class_rows.specs.declared.row.MemberRow.{MemberRow}
use Rattle.class_rows.specs.Types.{HasType, IsOuter}
use Rattle.class_rows.specs.Names.{IsReference}
use Rattle.class_rows.specs.Members.{known_as}
use Rattle.class_members.specs.declared.nested.NameIn.{NameIn}

-- this name stands among them, beside this outer type
abbrev pub IsListed : List NameIn → ℕ → List ℕ → Type 0
IsListed keys outer name = (k : ℕ) × (key : NameIn) × (slice_get keys k ≡ Some key) × (key.outer ≡ outer) × (key.name.now ≡ name)

-- a type of this name is nested in that one
abbrev pub HasInner : List TypeRow → ℕ → List ℕ → Type 0
HasInner types outer name = (inner : ℕ) × IsOuter types inner outer × HasType types inner (λ row. row.name ≡ name)

-- just the names of nested types
pub record HasNested (types : List TypeRow) (keys : List NameIn) : Type 0 where
  pub sound : (outer : ℕ) (name : List ℕ) → IsListed keys outer name → HasInner types outer name
  pub complete : (outer : ℕ) (name : List ℕ) → HasInner types outer name → IsListed keys outer name

-- a member of a type of the references has the name of a type nested in that one
abbrev pub IsNamedAsNested : List TypeRow → MemberRow → Type 0
IsNamedAsNested types row = IsReference types row.owner.0 × HasInner types row.owner.0 (known_as row)
