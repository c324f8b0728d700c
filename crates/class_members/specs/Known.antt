-- What makes a member a duplicate by itself.
use Rattle.std.specs.Prelude.{◌≡◌, ◌⊎◌, ℕ, List, Bool, false, Some, slice_get}
use Rattle.class_rows.specs.declared.row.TypeRow.{TypeRow}
use Rattle.class_rows.specs.declared.row.MemberRow.{MemberRow}
use Rattle.class_members.specs.Nested.{IsNamedAsNested}
use Rattle.class_members.specs.Fieldless.{IsMisplacedRow}

-- it is a misplaced field, or has a name, which is that of a nested type
abbrev pub IsLoneRow : List TypeRow → Bool → MemberRow → Type 0
IsLoneRow types is_nameless row = IsMisplacedRow types row ⊎ ((is_nameless ≡ false) × IsNamedAsNested types row)

-- the same of the member of this number, with its flag
pub record IsLone (types : List TypeRow) (members : List MemberRow) (nameless : List Bool) (m : ℕ) : Type 0 where
  pub row : MemberRow
  pub stands : slice_get members m ≡ Some row
  pub is_nameless : Bool
  pub flag : slice_get nameless m ≡ Some is_nameless
  pub lone : IsLoneRow types is_nameless row
