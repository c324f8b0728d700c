-- What the tokens of a body name (ECMA-335 III.1.9), and what places of a type hold (I.8.7, II.14.3).
use Rattle.std.specs.Prelude.{ℕ, zero, suc, List, Option, Some, None, slice_get, if◌then◌else◌}
use Rattle.dc_base.specs.declared.names.Token.{Token}
use Rattle.dc_base.specs.declared.ty.Ty.{Ty}
use Rattle.dc_base.specs.declared.ty.Core.{Core}
use Rattle.dc_base.specs.declared.ty.Core.TheVariants.{Prim, Enum}
use Rattle.dc_base.specs.declared.ty.Prim_.{Prim_}
use Rattle.dc_base.specs.declared.ty.Prim_.TheVariants.{Bool as BoolPrim, Char, I1, U1, I2, U2, I4, U4, I8, U8}
use Rattle.class_rows.specs.declared.row.TypeRow.{TypeRow}
use Rattle.class_rows.specs.declared.row.Kind.{Kind}
use Rattle.class_rows.specs.declared.row.Kind.TheVariants.{Enum as EnumKind}
use Rattle.cli_assembly.specs.declared.meaning.Named.{Named}
use Rattle.cli_assembly.specs.declared.meaning.Named.TheVariants.{OfType}
use Rattle.cli_assembly.specs.Meaning.{meaning}

-- the type that a token names
abbrev pub ty_meant : Option Named → Option Ty
ty_meant (Some (OfType ty)) = Some ty
ty_meant _ = None

abbrev pub named_ty : List (Token × Named) → Token → Option Ty
named_ty tokens token = ty_meant (meaning tokens token)

-- there is one of which the fact holds
abbrev pub IsSo : {A : Type 0} → (A → Type 0) → Option A → Type 0
IsSo Fact None = ⊥
IsSo Fact (Some a) = Fact a

-- the primitive type as which a value counts: an enum counts as that of its values
abbrev pub prim_of_kind : Kind → Option Prim_
prim_of_kind (EnumKind prim) = Some prim
prim_of_kind _ = None

abbrev pub prim_of_enum : Option TypeRow → Option Prim_
prim_of_enum None = None
prim_of_enum (Some row) = prim_of_kind row.kind

abbrev pub prim_of_core : List TypeRow → Core → Option Prim_
prim_of_core types (Prim prim) = Some prim
prim_of_core types (Enum t) = prim_of_enum (slice_get types t.0)
prim_of_core types _ = None

abbrev pub prim_without : List TypeRow → Core → ℕ → Option Prim_
prim_without types core zero = prim_of_core types core
prim_without types core (suc n) = None

abbrev pub prim_of : List TypeRow → Ty → Option Prim_
prim_of types ty = if ty.lent then None else prim_without types ty.core ty.arrays

-- how many bytes a number of a primitive type has
abbrev pub size_of : Prim_ → ℕ
size_of BoolPrim = 1
size_of I1 = 1
size_of U1 = 1
size_of Char = 2
size_of I2 = 2
size_of U2 = 2
size_of I4 = 4
size_of U4 = 4
size_of I8 = 8
size_of U8 = 8
