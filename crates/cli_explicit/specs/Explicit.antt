-- Explicit implementations (ECMA-335 II.22.27).
use Rattle.std.specs.Prelude.{◌≡◌, ◌≤◌, ℕ, ◌+◌, ◌-◌, ◌/◌, ◌%◌, ◌^◌, List, length, Option, Some, slice_get}
use Rattle.dc_base.specs.declared.names.Token.{Token}
use Rattle.dc_base.specs.declared.names.MemberId.{MemberId}
use Rattle.cli_metadata.specs.declared.tables.Table.TheVariants as tables
use Rattle.cli_metadata.specs.Metadata.{Contents, rows_of, row_of, coded_of}
use Rattle.cli_tables.specs.Members.{method_impl_of}
use Rattle.cli_members.specs.Members.{AreInOrder, IsNamed}
use Rattle.cli_explicit.specs.declared.meant.Meant.{Meant}

-- the lists of members stand in their order, and there are numbers for all
pub record IsSound (s : Meant) : Type 0 where
  pub fields : AreInOrder s.fields.now
  pub methods : AreInOrder s.methods.now
  pub room : s.own_from + (length s.fields.now + length s.methods.now) ≤ 2 ^ 32

-- a token of MemberRef means a member
pub record IsReferred (s : Meant) (token : Token) (m : ℕ) : Type 0 where
  pub r : ℕ
  pub row : token.0 % 2 ^ 24 ≡ r + 1
  pub member : MemberId
  pub means : slice_get s.refs.now r ≡ Some (Some member)
  pub is : member.0 ≡ m

-- A token means a member: one of Field or MethodDef an own one, and one of MemberRef that which the reference means.
pub data Means (s : Meant) (token : Token) (m : ℕ) : Type 0 where
  own : (token.0 / 2 ^ 24 ≡ 0x0A → ⊥) → IsNamed s.fields.now s.methods.now s.own_from token m → Means s token m
  referred : token.0 / 2 ^ 24 ≡ 0x0A → IsReferred s token m → Means s token m

-- the member that the token of a cell means, or 2^32 - 1 where there is no token or it means none
pub data IsMeantBy (s : Meant) (token : Option Token) (found : MemberId) : Type 0 where
  member : (t : Token) → token ≡ Some t → Means s t found.0 → IsMeantBy s token found
  nothing : ((t : Token) (m : ℕ) → token ≡ Some t → Means s t m → ⊥) → found.0 ≡ 2 ^ 32 - 1 → IsMeantBy s token found

-- row k + 1 pairs the method that implements with the one that it implements
abbrev pub IsPair : Contents → Meant → ℕ → MemberId × MemberId → Type 0
IsPair m s k pair =
    let row = method_impl_of (row_of m tables.MethodImpl (k + 1)) in
    IsMeantBy s (coded_of row.body.kind row.body.cell) pair.0 × IsMeantBy s (coded_of row.declaration.kind row.declaration.cell) pair.1

-- a pair for each row
pub record AreExplicit (m : Contents) (s : Meant) (pairs : List (MemberId × MemberId)) : Type 0 where
  pub long : length pairs ≡ rows_of m tables.MethodImpl
  pub each : (k : ℕ) (pair : MemberId × MemberId) → slice_get pairs k ≡ Some pair → IsPair m s k pair
