-- The row of a type that a reference text declares (ECMA-334, 15.2, 16.2, 18.2, 19.2, 20.2).
use Rattle.std.specs.Prelude.{ℕ, zero, suc, List, [], ◌∷◌, Option, None, Some, Bool, true, false, cond, codes, map, slice_get}
use Rattle.std.specs.Str.{bytes_eq}
use Rattle.std.specs.Option.{option_map}
use Rattle.dc_base.specs.declared.ty.Prim_.{Prim_}
use Rattle.dc_base.specs.declared.names.TypeId.{TypeId}
use Rattle.class_written.specs.declared.rows.Above.{Above}
use Rattle.class_rows.specs.declared.row.TypeRow.{TypeRow}
use Rattle.class_rows.specs.declared.row.Kind.{Kind}
use Rattle.class_rows.specs.declared.row.Kind.TheVariants as row_kind
use Rattle.class_rows.specs.declared.row.Access.{Access}
use Rattle.class_rows.specs.declared.row.Access.TheVariants as access
use Rattle.cs_tree.specs.declared.types.TypeForm.{TypeForm}
use Rattle.cs_tree.specs.declared.members.Access.{Access as Word}
use Rattle.cs_tree.specs.declared.members.Access.TheVariants as word
use Rattle.cs_tree.specs.declared.members.Mods.{Mods}
use Rattle.cs_tree.specs.declared.declarations.Kind.{Kind as TreeKind}
use Rattle.cs_tree.specs.declared.declarations.Kind.TheVariants as tree_kind
use Rattle.cs_declared.specs.declared.declared.Within.{Within}
use Rattle.cs_declared.specs.declared.declared.Within.TheVariants as within
use Rattle.cs_declared.specs.Types.{Placed, Content, Body, Enum, Delegate}
use Rattle.class_written.specs.Named.{Known, number_of, nothing}
use Rattle.class_written.specs.Forms.{number_written, underlying, placed_kind, type_id}

-- ---- access (15.3.6, 14.6 on defaults)

abbrev pub access_of_word : Word → Access
access_of_word word.Public = access.Public
access_of_word word.Private = access.Private
access_of_word word.Protected = access.Protected
access_of_word word.Internal = access.Internal
access_of_word word.ProtectedOrInternal = access.ProtectedInternal
access_of_word word.ProtectedAndInternal = access.PrivateProtected

-- where no word stands, a type in a namespace is internal, and what stands in an interface public
abbrev pub access_within : Within → Access
access_within within.Space = access.Internal
access_within within.Interface = access.Public
access_within within.Type = access.Private

abbrev pub access_or : Option Word → Access → Access
access_or (Some w) other = access_of_word w
access_or None other = other

-- ---- bases

-- the type that is written as a base; an array names none
abbrev pub super_by : ℕ → ℕ → TypeId
super_by zero number = type_id number
super_by (suc n) number = type_id nothing

abbrev pub super : List Known → TypeForm → TypeId
super types form = super_by form.ranks (number_written types form.name)

-- the base that no text writes (15.2.4.2), where it is declared
abbrev pub implied : List Known → List ℕ → Option TypeId
implied types name = option_map type_id (number_of types name)

-- System.Object alone has none
abbrev pub class_base : List Known → List ℕ → Option TypeId
class_base types full = cond (bytes_eq full (codes "System.Object")) None (implied types (codes "System.Object"))

abbrev pub interface_kind : Kind → Bool
interface_kind row_kind.Interface = true
interface_kind _ = false

abbrev pub is_interface_row : Option Known → Bool
is_interface_row None = false
is_interface_row (Some k) = interface_kind k.kind

abbrev pub is_interface : List Known → TypeId → Bool
is_interface types id = is_interface_row (slice_get types id.0)

abbrev pub above : Option TypeId → List TypeId → Above
above base bases = record { base = base; bases = bases }

-- the first of those that a class names is its base, but for an interface
abbrev pub class_above : List Known → Option TypeId → List TypeId → Above
class_above types other [] = above other []
class_above types other (s ∷ rest) = cond (is_interface types s) (above other (s ∷ rest)) (above (Some s) rest)

abbrev pub body_above : List Known → List ℕ → TreeKind → List TypeId → Above
body_above types full tree_kind.Class named = class_above types (class_base types full) named
body_above types full tree_kind.Interface named = above None named
body_above types full tree_kind.Struct named = above (implied types (codes "System.ValueType")) named

-- an enum over no integer type has a base that isn't there
abbrev pub enum_base : List Known → Option Prim_ → Option TypeId
enum_base types (Some p) = implied types (codes "System.Enum")
enum_base types None = Some (type_id nothing)

abbrev pub above_of : List Known → List ℕ → Content → Above
above_of types full (Body kind bases members) = body_above types full kind (map (super types) bases)
above_of types full (Enum ty enumerators) = above (enum_base types (underlying ty)) []
above_of types full (Delegate result params) = above (implied types (codes "System.MulticastDelegate")) []

-- ---- the row

-- an interface is abstract, a static class is abstract and sealed, and what isn't a class is sealed else
abbrev pub abstract_by : Mods → Kind → Bool
abstract_by mods row_kind.Interface = true
abstract_by mods row_kind.StaticClass = true
abstract_by mods row_kind.Class = mods.is_abstract
abstract_by mods _ = false

abbrev pub sealed_by : Mods → Kind → Bool
sealed_by mods row_kind.Interface = false
sealed_by mods row_kind.Class = mods.is_sealed
sealed_by mods _ = true

abbrev pub row_with : Placed → Above → TypeRow
row_with p above =
    record {
      name = p.name.text;
      space = p.space;
      outer = p.outer;
      kind = placed_kind p;
      access = access_or p.mods.access (access_within p.within);
      base = above.base;
      bases = above.bases;
      is_abstract = abstract_by p.mods (placed_kind p);
      is_sealed = sealed_by p.mods (placed_kind p);
      own = false;
    }

abbrev pub type_row : List Known → Placed → TypeRow
type_row types p = row_with p (above_of types p.full p.content)
