-- Which rows of Field and MethodDef are members of own types (ECMA-335 II.22.15, II.22.26).
use Rattle.std.specs.Prelude.{◌≡◌, ℕ, ◌+◌, ◌-◌, ◌/◌, ◌%◌, ◌^◌, ◌<◌, ◌≤◌, true, List, length, slice_get, Some}
use Rattle.dc_base.specs.declared.names.Token.{Token}
use Rattle.dc_base.specs.declared.ty.Prim_.{Prim_}
use Rattle.class_rows.specs.declared.row.TypeRow.{TypeRow}
use Rattle.class_rows.specs.declared.row.Kind.TheVariants as kind
use Rattle.cli_metadata.specs.declared.tables.Table.{Table}
use Rattle.cli_metadata.specs.declared.tables.Table.TheVariants as tables
use Rattle.cli_metadata.specs.Metadata.{Contents, rows_of, row_of}
use Rattle.cli_tables.specs.declared.members.FieldRow.{FieldRow}
use Rattle.cli_tables.specs.Members.{field_of}
use Rattle.cli_lists.specs.Starts.{IsInList}
use Rattle.cli_lists.specs.Lists.{lists_of}
use Rattle.cli_flags.specs.Flags.{has}
use Rattle.cli_flags.specs.declared.bits.MemberFlag.TheVariants as flag
use Rattle.cli_members.specs.declared.numbers.Owned.{Owned}

abbrev pub field_at : Contents → ℕ → FieldRow
field_at m f = field_of (row_of m tables.Field f)

-- ---- which rows are members

-- row n of TypeDef is an enum, where `own` has the rows of own types, the first for row 2
pub record IsEnum (own : List TypeRow) (n : ℕ) : Type 0 where
  pub row : TypeRow
  pub stands : slice_get own (n - 2) ≡ Some row
  pub values : Prim_
  pub is : row.kind ≡ kind.Enum values

-- of an enum only a static field is a member (II.14.3)
abbrev pub IsShared : Contents → List TypeRow → ℕ → ℕ → Type 0
IsShared m own n f = IsEnum own n → has flag.Static (field_at m f).flags ≡ true

-- row f of Field is a member of row n of TypeDef: of all types but the module, which is row 1
pub record IsMemberField (m : Contents) (own : List TypeRow) (n f : ℕ) : Type 0 where
  pub a_type : 2 ≤ n
  pub listed : IsInList (rows_of m tables.Field) (lists_of m).fields.cells n f
  pub shared : IsShared m own n f

-- row k of MethodDef is a member of row n of TypeDef
pub record IsMemberMethod (m : Contents) (n k : ℕ) : Type 0 where
  pub a_type : 2 ≤ n
  pub listed : IsInList (rows_of m tables.MethodDef) (lists_of m).methods.cells n k

-- each row is behind those before it
abbrev pub AreInOrder : List Owned → Type 0
AreInOrder owned = (j k : ℕ) (a b : Owned) → j < k → slice_get owned j ≡ Some a → slice_get owned k ≡ Some b → a.row < b.row

-- these are the rows of which a fact of a row of TypeDef and of them holds, in their order
pub record AreThose (Is : ℕ → ℕ → Type 0) (owned : List Owned) : Type 0 where
  pub in_order : AreInOrder owned
  pub right : (j : ℕ) (o : Owned) → slice_get owned j ≡ Some o → Is o.owner o.row
  pub all : (n r : ℕ) → Is n r → (j : ℕ) × (slice_get owned j ≡ Some (record { owner = n; row = r }))

-- each is a row of this table, and stands in the list of a row of TypeDef behind the first
pub record IsRow (m : Contents) (table : Table) (o : Owned) : Type 0 where
  pub a_type : 2 ≤ o.owner
  pub typed : o.owner ≤ rows_of m tables.TypeDef
  pub low : 1 ≤ o.row
  pub high : o.row ≤ rows_of m table

abbrev pub AreRows : Contents → Table → List Owned → Type 0
AreRows m table owned = (j : ℕ) (o : Owned) → slice_get owned j ≡ Some o → IsRow m table o

-- ---- which member a token means

-- this row stands at this place
pub record IsPlace (owned : List Owned) (row place : ℕ) : Type 0 where
  pub o : Owned
  pub stands : slice_get owned place ≡ Some o
  pub same : o.row ≡ row

-- A token has the number of its table in the top byte, and the row below it. The fields stand from one member on, and behind
-- them the methods.
pub data IsNamed (fields methods : List Owned) (own_from : ℕ) (token : Token) : ℕ → Type 0 where
  a_field : (place : ℕ) → token.0 / 2 ^ 24 ≡ 0x04 → IsPlace fields (token.0 % 2 ^ 24) place → IsNamed fields methods own_from token (own_from + place)
  a_method : (place : ℕ) → token.0 / 2 ^ 24 ≡ 0x06 → IsPlace methods (token.0 % 2 ^ 24) place → IsNamed fields methods own_from token (own_from + (length fields + place))
