-- A table of slots.
use Rattle.std.specs.Prelude.{◌≡◌, ℕ, ◌<◌, List, Some, length, slice_get}
use Rattle.dc_base.specs.declared.names.MemberId.{MemberId}
use Rattle.class_rows.specs.declared.row.TypeRow.{TypeRow}
use Rattle.class_rows.specs.declared.row.MemberRow.{MemberRow}
use Rattle.class_rows.specs.Lookups.{IsSlot}

-- what stands in the table for each member is its slot
pub record AreSlots (types : List TypeRow) (members : List MemberRow) (explicit : List (MemberId × MemberId)) (slots : List ℕ) : Type 0 where
  pub long : length slots ≡ length members
  pub right : (m s : ℕ) → slice_get slots m ≡ Some s → IsSlot types members explicit m s

-- each member's type is there
abbrev pub OwnersAreThere : List TypeRow → List MemberRow → Type 0
OwnersAreThere types members = (m : ℕ) (row : MemberRow) → slice_get members m ≡ Some row → row.owner.0 < length types
