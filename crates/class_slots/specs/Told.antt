-- Inner facts: a table of slots that is under way.
use Rattle.std.specs.Prelude.{◌≡◌, ℕ, List, Some, length, slice_get}
use Rattle.dc_base.specs.declared.names.MemberId.{MemberId}
use Rattle.class_rows.specs.declared.row.TypeRow.{TypeRow}
use Rattle.class_rows.specs.declared.row.MemberRow.{MemberRow}
use Rattle.class_rows.specs.Types.{IsBase, InBaseChain}
use Rattle.class_rows.specs.Members.{IsOf}
use Rattle.class_rows.specs.Lookups.{IsSlot}

-- a member's slot stands in a table that is under way
abbrev pub IsTold : List TypeRow → List MemberRow → List (MemberId × MemberId) → List ℕ → ℕ → Type 0
IsTold types members explicit slots m = (s : ℕ) × (slice_get slots m ≡ Some s) × IsSlot types members explicit m s

abbrev pub AreSlotsOf : List TypeRow → List MemberRow → List (MemberId × MemberId) → List ℕ → ℕ → Type 0
AreSlotsOf types members explicit slots t = (m : ℕ) → IsOf members t m → IsTold types members explicit slots m

-- so it is of the members of the types in the base chain above one
pub record AreSlotsAbove (types : List TypeRow) (members : List MemberRow) (explicit : List (MemberId × MemberId)) (slots : List ℕ) (t : ℕ) : Type 0 where
  pub long : length slots ≡ length members
  pub above : (b u : ℕ) → IsBase types t b → InBaseChain types b u → AreSlotsOf types members explicit slots u

-- the members of one more type are told, and what was told stays
pub record AreSlotsWith (types : List TypeRow) (members : List MemberRow) (explicit : List (MemberId × MemberId)) (before after : List ℕ) (t : ℕ) : Type 0 where
  pub long : length after ≡ length members
  pub own : AreSlotsOf types members explicit after t
  pub kept : (m : ℕ) → (IsOf members t m → ⊥) → slice_get after m ≡ slice_get before m

-- one more member is told
pub record IsSlotWritten (types : List TypeRow) (members : List MemberRow) (explicit : List (MemberId × MemberId)) (before after : List ℕ) (m : ℕ) : Type 0 where
  pub long : length after ≡ length before
  pub told : IsTold types members explicit after m
  pub kept : (n : ℕ) → (m ≡ n → ⊥) → slice_get after n ≡ slice_get before n
