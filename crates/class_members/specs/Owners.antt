-- The owners of members.
use Rattle.std.specs.Prelude.{◌≡◌, ℕ, ◌<◌, List, Some, length, slice_get}
use Rattle.class_rows.specs.declared.row.TypeRow.{TypeRow}
use Rattle.class_rows.specs.declared.row.MemberRow.{MemberRow}

-- the owner of each member is there
abbrev pub OwnersAreThere : List TypeRow → List MemberRow → Type 0
OwnersAreThere types members = (m : ℕ) (row : MemberRow) → slice_get members m ≡ Some row → row.owner.0 < length types
