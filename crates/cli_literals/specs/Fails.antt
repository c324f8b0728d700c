-- Which fields have constants that can't be printed (ECMA-335 II.22.9, II.22.15).
use Rattle.std.specs.Prelude.{◌≡◌, ◌⊎◌, ℕ, ◌-◌, ◌≤◌, List, Option, Some, None, slice_get, length, true}
use Rattle.dc_base.specs.declared.names.Token.{Token}
use Rattle.dc_base.specs.declared.ty.Ty.{Ty}
use Rattle.dc_causes.specs.First.{IsLeast}
use Rattle.class_rows.specs.declared.row.Literal.{Literal}
use Rattle.cli_metadata.specs.declared.tables.Table.TheVariants as tables
use Rattle.cli_metadata.specs.Metadata.{Contents, rows_of, row_of, IsItem}
use Rattle.cli_tables.specs.declared.members.FieldRow.{FieldRow}
use Rattle.cli_tables.specs.Members.{field_of}
use Rattle.cli_flags.specs.declared.bits.MemberFlag.TheVariants as member_flag
use Rattle.cli_flags.specs.Flags.{has}
use Rattle.cli_constants.specs.Values.{literal_of}
use Rattle.cli_constants.specs.Owned.{constant_at, field_token, IsConstantOf, AreConstants}
use Rattle.cli_literals.specs.declared.fields.Fields.{Fields}
use Rattle.cli_literals.specs.Takes.{Takes}

abbrev pub field_at : Contents → ℕ → FieldRow
field_at m f = field_of (row_of m tables.Field f)

-- R4 and R8
abbrev pub IsFloat : ℕ → Type 0
IsFloat element = (element ≡ 0x0C) ⊎ (element ≡ 0x0D)

-- a constant of row f of Field is a float
abbrev pub HasFloat : Contents → ℕ → Type 0
HasFloat m f = (r : ℕ) × IsConstantOf m f r × IsFloat (constant_at m r).element

-- what stands at a place of the heap of blobs is a value of this element
pub record IsValue (m : Contents) (element i : ℕ) : Type 0 where
  pub bytes : List ℕ
  pub item : IsItem m.blobs i bytes
  pub value : Literal
  pub says : literal_of element bytes ≡ Some value

-- row r of Constant is a value that this type takes
pub record IsFit (m : Contents) (s : Fields) (ty : Ty) (r : ℕ) : Type 0 where
  pub takes : Takes s.types.now s.string ty (constant_at m r).element
  pub value : IsValue m (constant_at m r).element (constant_at m r).value

-- row f of Field has exactly one constant, and that fits its type
pub record HasOneFit (m : Contents) (s : Fields) (f : ℕ) : Type 0 where
  pub r : ℕ
  pub own : IsConstantOf m f r
  pub only : (other : ℕ) → IsConstantOf m f other → other ≡ r
  pub ty : Ty
  pub typed : slice_get s.tys.now (f - 1) ≡ Some ty
  pub fit : IsFit m s ty r

abbrev pub IsLiteral : Contents → ℕ → Type 0
IsLiteral m f = has member_flag.Literal (field_at m f).flags ≡ true

-- row f of Field has a constant that is a float, or is a literal that hasn't exactly one constant that fits its type
pub record IsBad (m : Contents) (s : Fields) (f : ℕ) : Type 0 where
  pub low : 1 ≤ f
  pub high : f ≤ rows_of m tables.Field
  pub fails : HasFloat m f ⊎ (IsLiteral m f × (HasOneFit m s f → ⊥))

-- the token of the first such row, where there is one
abbrev pub IsFirstBad : Contents → Fields → Option Token → Type 0
IsFirstBad m s (Some token) = (f : ℕ) × (token ≡ field_token f) × IsLeast (IsBad m s) f
IsFirstBad m s None = (f : ℕ) → IsBad m s f → ⊥

-- the lists have an item for each row of Field: its constants, and its type
pub record AreOf (m : Contents) (s : Fields) : Type 0 where
  pub constants : AreConstants m s.constants.now
  pub tys : length s.tys.now ≡ rows_of m tables.Field
