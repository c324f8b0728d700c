-- The type of an enum's values (ECMA-335 II.14.3): that of its instance field.
use Rattle.std.specs.Prelude.{◌≡◌, ◌⊎◌, ◌≤◌, ℕ, List, false, not, ◌==◌, ◌&&◌, cond, unwrap_or, Option, None}
use Rattle.dc_base.specs.declared.ty.Prim_.{Prim_}
use Rattle.dc_base.specs.declared.ty.Prim_.TheVariants.{I4}
use Rattle.dc_causes.specs.First.{IsLeast}
use Rattle.cli_metadata.specs.declared.tables.Table.TheVariants as tables
use Rattle.cli_metadata.specs.declared.fault.MetaFault.{MetaFault}
use Rattle.cli_metadata.specs.Metadata.{Contents, rows_of, row_of, IsItem, IsNoItem, IsFaultAt}
use Rattle.cli_tables.specs.Members.{field_of}
use Rattle.cli_tables.specs.declared.members.FieldRow.{FieldRow}
use Rattle.cli_lists.specs.declared.column.ListColumn.{ListColumn}
use Rattle.cli_lists.specs.Starts.{IsInList}
use Rattle.cli_signature.specs.declared.raw.RawTy.{RawTy}
use Rattle.cli_signature.specs.declared.raw.SigFault.{SigFault}
use Rattle.cli_signature.specs.declared.kind.Kind.TheVariants.{Field}
use Rattle.cli_signature.specs.Grammar.{IsFieldSig, IsBlob}
use Rattle.cli_signature.specs.Fault.{IsSigFault}
use Rattle.cli_types.specs.Said.{primitive}
use Rattle.cli_flags.specs.Flags.{has}
use Rattle.cli_flags.specs.declared.bits.MemberFlag.TheVariants as member_flag

abbrev pub field_at : Contents → ℕ → FieldRow
field_at m f = field_of (row_of m tables.Field f)

-- Field has a row of this number
pub record IsFieldRow (m : Contents) (f : ℕ) : Type 0 where
  pub low : 1 ≤ f
  pub high : f ≤ rows_of m tables.Field

-- row f of Field is an instance field of row n of TypeDef
pub record IsInstanceField (m : Contents) (fields : ListColumn) (n f : ℕ) : Type 0 where
  pub listed : IsInList fields.rows fields.cells n f
  pub instance : has member_flag.Static (field_at m f).flags ≡ false

-- a primitive type, and no array and no place of it
abbrev pub prim_alone : RawTy → Option Prim_
prim_alone raw = cond ((raw.arrays == 0) && not raw.lent) (primitive raw.element) None

-- the primitive type that the signature of a field says; none where it says another type, is none, or isn't there
pub data IsPrimOf (m : Contents) (row : FieldRow) : Option Prim_ → Type 0 where
  says : (blob : List ℕ) (raw : RawTy) → IsItem m.blobs row.signature blob → IsFieldSig blob raw → IsPrimOf m row (prim_alone raw)
  no_signature : (blob : List ℕ) (fault : SigFault) → IsItem m.blobs row.signature blob → IsSigFault (IsBlob Field) blob fault → IsPrimOf m row None
  no_blob : (fault : MetaFault) → IsFaultAt (IsNoItem m.blobs row.signature) row.signature fault → IsPrimOf m row None

-- the primitive type of the first instance field
pub record IsOfFirst (m : Contents) (fields : ListColumn) (n : ℕ) (found : Option Prim_) : Type 0 where
  pub f : ℕ
  pub first : IsLeast (IsInstanceField m fields n) f
  pub is : IsPrimOf m (field_at m f) found

-- the primitive type of the first instance field, where it has one, and else int
abbrev pub IsUnderlying : Contents → ListColumn → ℕ → Prim_ → Type 0
IsUnderlying m fields n prim =
    ((found : Option Prim_) × IsOfFirst m fields n found × (prim ≡ unwrap_or found I4))
    ⊎ (((f : ℕ) → IsInstanceField m fields n f → ⊥) × (prim ≡ I4))
