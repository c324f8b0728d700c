-- The types and members of the assembly itself: in the class table they stand behind those of its references (ECMA-335 II.22).
use Rattle.std.specs.Prelude.{◌≡◌, ℕ, ◌+◌, ◌*◌, ◌^◌, ◌<◌, ◌≤◌, List, length, Some, slice_get}
use Rattle.dc_base.specs.declared.names.Token.{Token}
use Rattle.class_rows.specs.declared.row.TypeRow.{TypeRow}
use Rattle.class_rows.specs.declared.row.MemberRow.{MemberRow}
use Rattle.class_rows.specs.Types.{HasType}
use Rattle.class_rows.specs.Members.{HasMember}
use Rattle.cli_shapes.specs.declared.own.Own.{Own}
use Rattle.cli_shapes.specs.declared.own.Told.{Told}

-- own type t has a row of which the fact holds, and so has own member k
abbrev pub HasOwnType : Own → ℕ → (TypeRow → Type 0) → Type 0
HasOwnType s t Fact = HasType s.table.now.types (s.first_type.0 + t) Fact

abbrev pub HasOwnMember : Own → ℕ → (MemberRow → Type 0) → Type 0
HasOwnMember s k Fact = HasMember s.table.now.members (s.first_member.0 + k) Fact

-- the fact holds of what is told of own member k
pub record IsTold (s : Own) (k : ℕ) (Fact : Told → Type 0) : Type 0 where
  pub told : Told
  pub stands : slice_get s.told.now k ≡ Some told
  pub is : Fact told

-- own member k is one of own type t, and the fact holds of it and its row
pub record IsOf (s : Own) (t : ℕ) (Fact : ℕ → MemberRow → Type 0) (k : ℕ) : Type 0 where
  pub row : MemberRow
  pub stands : slice_get s.table.now.members (s.first_member.0 + k) ≡ Some row
  pub owned : row.owner.0 ≡ s.first_type.0 + t
  pub is : Fact k row

-- own type t has such a member
abbrev pub HasOf : Own → ℕ → (ℕ → MemberRow → Type 0) → Type 0
HasOf s t Fact = (k : ℕ) × IsOf s t Fact k

-- the token of own type t: own types begin with row 2 of TypeDef, since row 1 stands for the module (II.22.37)
abbrev pub type_token : ℕ → Token
type_token t = record { 0 = 0x02 * 2 ^ 24 + (t + 2) }

-- the tokens rise
abbrev pub AreRising : List Told → Type 0
AreRising told =
    (i j : ℕ) (a b : Told) → i < j → slice_get told i ≡ Some a → slice_get told j ≡ Some b → a.token.0 < b.token.0

-- what is handed in fits together: own types and members end the lists of the table, three bytes hold each row's number, and
-- the tokens of members rise
pub record IsSound (s : Own) : Type 0 where
  pub types : s.first_type.0 ≤ length s.table.now.types
  pub few_types : length s.table.now.types + 1 < s.first_type.0 + 2 ^ 24
  pub members : length s.table.now.members ≡ s.first_member.0 + length s.told.now
  pub order : AreRising s.told.now
