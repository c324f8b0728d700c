-- The rows of own fields (ECMA-335 II.22.15, II.22.9).
use Rattle.std.specs.Prelude.{◌≡◌, ℕ, ◌+◌, ◌-◌, Bool, true, false, List, [], length, slice_get, Option, Some, None}
use Rattle.dc_causes.specs.First.{IsLeast}
use Rattle.class_rows.specs.declared.row.MemberRow.{MemberRow}
use Rattle.class_rows.specs.declared.row.MemberKind.TheVariants as member_kind
use Rattle.class_rows.specs.declared.row.Literal.{Literal}
use Rattle.class_rows.specs.declared.row.Virt.TheVariants.{Plain}
use Rattle.cli_metadata.specs.declared.fault.MetaFault.{MetaFault}
use Rattle.cli_metadata.specs.Metadata.{Contents, IsItem, IsNoItem, IsFaultAt}
use Rattle.cli_tables.specs.declared.members.ConstantRow.{ConstantRow}
use Rattle.cli_tables.specs.declared.members.FieldRow.{FieldRow}
use Rattle.cli_types.specs.declared.types.Types.{Types}
use Rattle.cli_flags.specs.Flags.{has, member_access}
use Rattle.cli_flags.specs.declared.bits.MemberFlag.TheVariants as flag
use Rattle.cli_names.specs.Texts.{IsTextAt}
use Rattle.cli_constants.specs.Values.{literal_of}
use Rattle.cli_constants.specs.Owned.{IsConstantOf, constant_at}
use Rattle.cli_members.specs.declared.numbers.Owned.{Owned}
use Rattle.cli_members.specs.Members.{field_at}
use Rattle.cli_member_rows.specs.Said.{IsFieldType}

-- ---- constants

-- the value that a row of Constant says; none where its bytes aren't there, or are no value
pub data IsValue (m : Contents) (row : ConstantRow) : Option Literal → Type 0 where
  says : (blob : List ℕ) → IsItem m.blobs row.value blob → IsValue m row (literal_of row.element blob)
  no_blob : (fault : MetaFault) → IsFaultAt (IsNoItem m.blobs row.value) row.value fault → IsValue m row None

-- the value that the first row of Constant says which is that of row f of Field
pub data IsLiteral (m : Contents) (f : ℕ) : Option Literal → Type 0 where
  of_row : (r : ℕ) (value : Option Literal) → IsLeast (IsConstantOf m f) r → IsValue m (constant_at m r) value → IsLiteral m f value
  no_row : ((r : ℕ) → IsConstantOf m f r → ⊥) → IsLiteral m f None

-- only a field that is literal has a value
abbrev pub HasLiteral : Bool → Contents → ℕ → Option Literal → Type 0
HasLiteral true m f value = IsLiteral m f value
HasLiteral false m f value = value ≡ None

-- ---- rows

-- the row of row f of Field, which is this one and stands in the list of row n of TypeDef; row 2 of TypeDef is the first own type
pub record IsOfField (m : Contents) (types : Types) (n f : ℕ) (field : FieldRow) (row : MemberRow) : Type 0 where
  pub owner : row.owner.0 ≡ types.tokens.own_from + (n - 2)
  pub name : IsTextAt m field.name row.name
  pub literal : Option Literal
  pub value : HasLiteral (has flag.Literal field.flags) m f literal
  pub kind : row.kind ≡ member_kind.Field (has flag.InitOnly field.flags) literal
  pub access : row.access ≡ member_access field.flags
  pub is_static : row.is_static ≡ has flag.Static field.flags
  pub virt : row.virt ≡ Plain
  pub params : row.params ≡ []
  pub result : IsFieldType m types field.signature row.result

abbrev pub IsFieldRow : Contents → Types → ℕ → ℕ → MemberRow → Type 0
IsFieldRow m types n f row = IsOfField m types n f (field_at m f) row

-- the rows of these fields, in their order
pub record AreFieldRows (m : Contents) (types : Types) (fields : List Owned) (rows : List MemberRow) : Type 0 where
  pub long : length rows ≡ length fields
  pub each : (j : ℕ) (o : Owned) (row : MemberRow) → slice_get fields j ≡ Some o → slice_get rows j ≡ Some row → IsFieldRow m types o.owner o.row row
