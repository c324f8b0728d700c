-- What is asked of rows before a table is built of them.
use Rattle.std.specs.Prelude.{◌≡◌, ◌≢◌, ℕ, ◌<◌, ◌^◌, List, Some, length, slice_get}
use Rattle.dc_base.specs.declared.names.TypeId.{TypeId}
use Rattle.dc_base.specs.declared.names.MemberId.{MemberId}
use Rattle.class_rows.specs.declared.row.TypeRow.{TypeRow}
use Rattle.class_rows.specs.declared.row.MemberRow.{MemberRow}
use Rattle.class_rows.specs.declared.row.Kind.TheVariants.{Struct}

-- the type round it, where there is one, is in the list, and it is no struct
pub record IsTypeRow (count : ℕ) (row : TypeRow) : Type 0 where
  pub outer : (o : TypeId) → row.outer ≡ Some o → o.0 < count
  pub kind : row.kind ≢ Struct

-- the lists are shorter than 2^32, and the types round types and the owners of members are in the list
pub record IsBuildable (types : List TypeRow) (members : List MemberRow) (explicit : List (MemberId × MemberId)) : Type 0 where
  pub few_types : length types < 2 ^ 32
  pub few_members : length members < 2 ^ 32
  pub few_explicit : length explicit < 2 ^ 32
  pub rows : (t : ℕ) (row : TypeRow) → slice_get types t ≡ Some row → IsTypeRow (length types) row
  pub owners : (m : ℕ) (row : MemberRow) → slice_get members m ≡ Some row → row.owner.0 < length types
