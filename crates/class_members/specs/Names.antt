-- Inner facts: the names of members in types of the references.
use Rattle.std.specs.Prelude.{◌≡◌, ℕ, List, Bool, false, Option, Some, None, length, slice_get}
use Rattle.class_rows.specs.declared.row.TypeRow.{TypeRow}
use Rattle.class_rows.specs.declared.row.MemberRow.{MemberRow}
use Rattle.class_rows.specs.Names.{IsReference}
use Rattle.class_rows.specs.Members.{HasMember, known_as}
use Rattle.class_members.specs.declared.nested.NameIn.{NameIn}

-- a member of a type of the references whose flag is down has this name; any other has none
abbrev pub IsNameIn : List TypeRow → List MemberRow → List Bool → ℕ → Option NameIn → Type 0
IsNameIn types members nameless m None =
    slice_get nameless m ≡ Some false → HasMember members m (λ row. IsReference types row.owner.0) → ⊥
IsNameIn types members nameless m (Some name) =
    (slice_get nameless m ≡ Some false) × HasMember members m (λ row. IsReference types row.owner.0 × (name.outer ≡ row.owner.0) × (name.name.now ≡ known_as row))

-- the same of the first so many members
pub record AreNamesIn (types : List TypeRow) (members : List MemberRow) (nameless : List Bool) (count : ℕ) (names : List (Option NameIn)) : Type 0 where
  pub long : length names ≡ count
  pub named : (m : ℕ) (name : Option NameIn) → slice_get names m ≡ Some name → IsNameIn types members nameless m name
