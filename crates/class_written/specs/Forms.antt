-- What a type that is written in a reference text means (ECMA-334, 8.2, 8.3).
use Rattle.std.specs.Prelude.{ℕ, zero, suc, ◌∷◌, [], List, Option, None, Some, Bool, true, false, cond, codes, min, slice_get, ◌&&◌, ◌||◌}
use Rattle.std.specs.Str.{bytes_eq}
use Rattle.dc_base.specs.declared.names.TypeId.{TypeId}
use Rattle.dc_base.specs.declared.ty.Ty.{Ty}
use Rattle.dc_base.specs.declared.ty.Core.{Core}
use Rattle.dc_base.specs.declared.ty.Core.TheVariants as core
use Rattle.dc_base.specs.declared.ty.Prim_.{Prim_}
use Rattle.dc_base.specs.declared.ty.Prim_.TheVariants as prim
use Rattle.class_rows.specs.declared.row.Kind.{Kind}
use Rattle.class_rows.specs.declared.row.Kind.TheVariants as row_kind
use Rattle.cs_tree.specs.declared.types.KeywordType.{KeywordType}
use Rattle.cs_tree.specs.declared.types.KeywordType.TheVariants as keyword
use Rattle.cs_tree.specs.declared.types.TypeName.{TypeName}
use Rattle.cs_tree.specs.declared.types.TypeName.TheVariants as type_name
use Rattle.cs_tree.specs.declared.types.TypeForm.{TypeForm}
use Rattle.cs_tree.specs.declared.members.Mods.{Mods}
use Rattle.cs_tree.specs.declared.declarations.Kind.{Kind as TreeKind}
use Rattle.cs_tree.specs.declared.declarations.Kind.TheVariants as tree_kind
use Rattle.cs_declared.specs.Names.{joined}
use Rattle.cs_declared.specs.Types.{Placed, Content, Body, Enum, Delegate}
use Rattle.class_written.specs.Named.{Known, named}

-- the primitive types by their names in System (8.3.5, table of simple types)
abbrev pub simple_type : List ℕ → Option Prim_
simple_type name =
    cond (bytes_eq name (codes "Boolean")) (Some prim.Bool)
    (cond (bytes_eq name (codes "Char")) (Some prim.Char)
    (cond (bytes_eq name (codes "SByte")) (Some prim.I1)
    (cond (bytes_eq name (codes "Byte")) (Some prim.U1)
    (cond (bytes_eq name (codes "Int16")) (Some prim.I2)
    (cond (bytes_eq name (codes "UInt16")) (Some prim.U2)
    (cond (bytes_eq name (codes "Int32")) (Some prim.I4)
    (cond (bytes_eq name (codes "UInt32")) (Some prim.U4)
    (cond (bytes_eq name (codes "Int64")) (Some prim.I8)
    (cond (bytes_eq name (codes "UInt64")) (Some prim.U8) None)))))))))

abbrev pub system_prim : List (List ℕ) → Option Prim_
system_prim (space ∷ name ∷ []) = cond (bytes_eq space (codes "System")) (simple_type name) None
system_prim _ = None

-- and by their keywords
abbrev pub keyword_prim : KeywordType → Option Prim_
keyword_prim keyword.Bool = Some prim.Bool
keyword_prim keyword.Char = Some prim.Char
keyword_prim keyword.Sbyte = Some prim.I1
keyword_prim keyword.Byte = Some prim.U1
keyword_prim keyword.Short = Some prim.I2
keyword_prim keyword.Ushort = Some prim.U2
keyword_prim keyword.Int = Some prim.I4
keyword_prim keyword.Uint = Some prim.U4
keyword_prim keyword.Long = Some prim.I8
keyword_prim keyword.Ulong = Some prim.U8
keyword_prim keyword.Object = None
keyword_prim keyword.String = None

-- the class that a keyword names
abbrev pub keyword_class : KeywordType → List ℕ
keyword_class keyword.String = codes "System.String"
keyword_class _ = codes "System.Object"

-- the primitive type that is written so
abbrev pub prim_written : TypeName → Option Prim_
prim_written (type_name.Keyword k) = keyword_prim k
prim_written (type_name.Global path) = system_prim path

-- the number of the type that is written so, where that is no primitive type
abbrev pub number_written : List Known → TypeName → ℕ
number_written types (type_name.Keyword k) = named types (keyword_class k)
number_written types (type_name.Global path) = named types (joined path)

-- ---- kinds

-- an integer type (8.3.6), over which an enum may be; where another is written, the enum has a base that isn't there
abbrev pub is_integer : Prim_ → Bool
is_integer prim.Bool = false
is_integer prim.Char = false
is_integer _ = true

abbrev pub integer_of : Option Prim_ → Option Prim_
integer_of None = None
integer_of (Some p) = cond (is_integer p) (Some p) None

abbrev pub without_ranks : ℕ → Option Prim_ → Option Prim_
without_ranks zero p = p
without_ranks (suc n) p = None

abbrev pub underlying : TypeForm → Option Prim_
underlying form = without_ranks form.ranks (integer_of (prim_written form.name))

abbrev pub enum_kind : Option Prim_ → Kind
enum_kind (Some p) = row_kind.Enum p
enum_kind None = row_kind.Enum prim.I4

-- a class that may have no instances is static
abbrev pub is_static_class : Mods → Bool
is_static_class mods = mods.is_static || (mods.is_abstract && mods.is_sealed)

abbrev pub body_kind : Mods → TreeKind → Kind
body_kind mods tree_kind.Class = cond (is_static_class mods) row_kind.StaticClass row_kind.Class
body_kind mods tree_kind.Interface = row_kind.Interface
body_kind mods tree_kind.Struct = row_kind.Opaque

abbrev pub kind_of : Mods → Content → Kind
kind_of mods (Body kind bases members) = body_kind mods kind
kind_of mods (Enum ty enumerators) = enum_kind (underlying ty)
kind_of mods (Delegate result params) = row_kind.Delegate

abbrev pub placed_kind : Placed → Kind
placed_kind p = kind_of p.mods p.content

abbrev pub known : Placed → Known
known p = record { full = p.full; kind = placed_kind p }

-- ---- types

abbrev pub type_id : ℕ → TypeId
type_id number = record { 0 = number }

abbrev pub core_by : Kind → ℕ → Core
core_by (row_kind.Enum p) number = core.Enum (type_id number)
core_by row_kind.Opaque number = core.Value (type_id number)
core_by row_kind.Struct number = core.Value (type_id number)
core_by _ number = core.Class (type_id number)

abbrev pub core_found : Option Known → ℕ → Core
core_found (Some k) number = core_by k.kind number
core_found None number = core.Class (type_id number)

-- the type of this number
abbrev pub core_at : List Known → ℕ → Core
core_at types number = core_found (slice_get types number) number

abbrev pub core_or : Option Prim_ → Core → Core
core_or (Some p) other = core.Prim p
core_or None other = other

abbrev pub core_of : List Known → TypeName → Core
core_of types name = core_or (prim_written name) (core_at types (number_written types name))

-- a type as it is written; more brackets than 255 count as 255
abbrev pub ty_of : List Known → Bool → TypeForm → Ty
ty_of types lent form = record { core = core_of types form.name; arrays = min form.ranks 255; lent = lent }

abbrev pub void : Ty
void = record { core = core.Void; arrays = 0; lent = false }

abbrev pub result_of : List Known → Option TypeForm → Ty
result_of types (Some form) = ty_of types false form
result_of types None = void

-- the type of a number, without brackets
abbrev pub own_ty : List Known → ℕ → Ty
own_ty types number = record { core = core_at types number; arrays = 0; lent = false }

abbrev pub object : List Known → Ty
object types = record { core = core.Class (type_id (named types (codes "System.Object"))); arrays = 0; lent = false }
