-- The rows of own methods (ECMA-335 II.22.26).
use Rattle.std.specs.Prelude.{◌≡◌, ℕ, ◌+◌, ◌-◌, Bool, true, false, ◌&&◌, ◌||◌, cond, codes, List, length, slice_get, Option, Some, None}
use Rattle.std.specs.Str.{bytes_eq}
use Rattle.class_rows.specs.declared.row.TypeRow.{TypeRow}
use Rattle.class_rows.specs.declared.row.Kind.{Kind}
use Rattle.class_rows.specs.declared.row.Kind.TheVariants as type_kind
use Rattle.class_rows.specs.declared.row.MemberRow.{MemberRow}
use Rattle.class_rows.specs.declared.row.MemberKind.{MemberKind}
use Rattle.class_rows.specs.declared.row.MemberKind.TheVariants as member_kind
use Rattle.cli_metadata.specs.declared.tables.Table.TheVariants as tables
use Rattle.cli_metadata.specs.Metadata.{Contents, row_of}
use Rattle.cli_tables.specs.declared.members.MethodDefRow.{MethodDefRow}
use Rattle.cli_tables.specs.Members.{method_def_of}
use Rattle.cli_types.specs.declared.types.Types.{Types}
use Rattle.cli_flags.specs.Flags.{has, member_access, virt_of}
use Rattle.cli_flags.specs.declared.bits.MemberFlag.TheVariants as flag
use Rattle.cli_names.specs.Texts.{IsTextAt}
use Rattle.cli_members.specs.declared.numbers.Owned.{Owned}
use Rattle.cli_members.specs.declared.roles.Role.{Role}
use Rattle.cli_members.specs.declared.roles.Role.TheVariants as role
use Rattle.cli_members.specs.Roles.{IsRole}
use Rattle.cli_member_rows.specs.declared.sigs.MethodTypes.{MethodTypes}
use Rattle.cli_member_rows.specs.Said.{AreMethodTypes}

abbrev pub method_at : Contents → ℕ → MethodDefRow
method_at m k = method_def_of (row_of m tables.MethodDef k)

-- ---- what a method is

-- constructors, also those of types, go by their names (II.10.5)
abbrev pub is_constructor_name : List ℕ → Bool
is_constructor_name name = bytes_eq name (codes ".ctor") || bytes_eq name (codes ".cctor")

abbrev pub kind_of_role : Role → MemberKind
kind_of_role role.Getter = member_kind.Getter
kind_of_role role.Setter = member_kind.Setter
kind_of_role role.None = member_kind.Method

-- any other method is what it is to a property
abbrev pub kind_of : List ℕ → Role → MemberKind
kind_of name what = cond (is_constructor_name name) member_kind.Constructor (kind_of_role what)

abbrev pub is_delegate_kind : Kind → Bool
is_delegate_kind type_kind.Delegate = true
is_delegate_kind _ = false

abbrev pub is_delegate_row : Option TypeRow → Bool
is_delegate_row None = false
is_delegate_row (Some row) = is_delegate_kind row.kind

-- an instance constructor of a delegate: `own` has the rows of own types, the first for row 2 of TypeDef
abbrev pub constructs_delegate : List TypeRow → ℕ → List ℕ → Bool
constructs_delegate own n name = bytes_eq name (codes ".ctor") && is_delegate_row (slice_get own (n - 2))

-- ---- rows

-- The row of row k of MethodDef, which is this one and stands in the list of row n of TypeDef; row 2 of TypeDef is the first own
-- type. A method that can take over a slot does so here.
pub record IsOfMethod (m : Contents) (types : Types) (own : List TypeRow) (n k : ℕ) (method : MethodDefRow) (row : MemberRow) : Type 0 where
  pub owner : row.owner.0 ≡ types.tokens.own_from + (n - 2)
  pub name : IsTextAt m method.name row.name
  pub what : Role
  pub to_property : IsRole m k what
  pub kind : row.kind ≡ kind_of row.name what
  pub access : row.access ≡ member_access method.flags
  pub is_static : row.is_static ≡ has flag.Static method.flags
  pub virt : row.virt ≡ virt_of method.flags true
  pub said : MethodTypes
  pub signature : AreMethodTypes m types method.signature (constructs_delegate own n row.name) said
  pub params : row.params ≡ said.params
  pub result : row.result ≡ said.result

abbrev pub IsMethodRow : Contents → Types → List TypeRow → ℕ → ℕ → MemberRow → Type 0
IsMethodRow m types own n k row = IsOfMethod m types own n k (method_at m k) row

-- the rows of these methods, in their order
pub record AreMethodRows (m : Contents) (types : Types) (own : List TypeRow) (methods : List Owned) (rows : List MemberRow) : Type 0 where
  pub long : length rows ≡ length methods
  pub each : (j : ℕ) (o : Owned) (row : MemberRow) → slice_get methods j ≡ Some o → slice_get rows j ≡ Some row → IsMethodRow m types own o.owner o.row row
