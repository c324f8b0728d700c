-- What the types and members of the assembly itself name, each table at its own section of ECMA-335 II.22.
use Rattle.std.specs.Prelude.{◌≡◌, ◌⊎◌, ℕ, ◌≤◌, List, ◌++◌}
use Rattle.std.specs.List.{Contains}
use Rattle.std.specs.Option.{option_to_list}
use Rattle.dc_base.specs.declared.names.Token.{Token}
use Rattle.cli_metadata.specs.declared.tables.Table.{Table}
use Rattle.cli_metadata.specs.declared.tables.Table.TheVariants as tables
use Rattle.cli_metadata.specs.Metadata.{Contents, rows_of, row_of, coded_of}
use Rattle.cli_tables.specs.declared.members.FieldRow.{FieldRow}
use Rattle.cli_tables.specs.declared.members.MethodDefRow.{MethodDefRow}
use Rattle.cli_tables.specs.declared.members.MethodImplRow.{MethodImplRow}
use Rattle.cli_tables.specs.declared.properties.PropertyRow.{PropertyRow}
use Rattle.cli_tables.specs.declared.types.InterfaceImplRow.{InterfaceImplRow}
use Rattle.cli_tables.specs.declared.types.TypeDefRow.{TypeDefRow}
use Rattle.cli_tables.specs.Members.{field_of, method_def_of, method_impl_of}
use Rattle.cli_tables.specs.Properties.{property_of}
use Rattle.cli_tables.specs.Types.{interface_impl_of, type_def_of}
use Rattle.cli_signature.specs.declared.kind.Kind.TheVariants.{Field, Method, Property}
use Rattle.cli_sig_tokens.specs.Tokens.{AreTokens}
use Rattle.cli_roots.specs.declared.own.Own.{Own}
use Rattle.cli_roots.specs.declared.own.Own.TheVariants as own

abbrev pub type_def_at : Contents → ℕ → TypeDefRow
type_def_at m r = type_def_of (row_of m tables.TypeDef r)

abbrev pub interface_impl_at : Contents → ℕ → InterfaceImplRow
interface_impl_at m r = interface_impl_of (row_of m tables.InterfaceImpl r)

abbrev pub field_at : Contents → ℕ → FieldRow
field_at m r = field_of (row_of m tables.Field r)

abbrev pub method_def_at : Contents → ℕ → MethodDefRow
method_def_at m r = method_def_of (row_of m tables.MethodDef r)

abbrev pub property_at : Contents → ℕ → PropertyRow
property_at m r = property_of (row_of m tables.Property r)

abbrev pub method_impl_at : Contents → ℕ → MethodImplRow
method_impl_at m r = method_impl_of (row_of m tables.MethodImpl r)

abbrev pub table_of : Own → Table
table_of own.Types = tables.TypeDef
table_of own.Interfaces = tables.InterfaceImpl
table_of own.Fields = tables.Field
table_of own.Methods = tables.MethodDef
table_of own.Properties = tables.Property
table_of own.Implementations = tables.MethodImpl

-- What row r names: a type what it extends, a row of InterfaceImpl the interface, a member what its signature says, and a row of
-- MethodImpl both methods.
abbrev pub AreNamedBy : Contents → Own → ℕ → List Token → Type 0
AreNamedBy m own.Types r tokens = tokens ≡ option_to_list (coded_of (type_def_at m r).extends.kind (type_def_at m r).extends.cell)
AreNamedBy m own.Interfaces r tokens = tokens ≡ option_to_list (coded_of (interface_impl_at m r).interface.kind (interface_impl_at m r).interface.cell)
AreNamedBy m own.Fields r tokens = AreTokens m Field (field_at m r).signature tokens
AreNamedBy m own.Methods r tokens = AreTokens m Method (method_def_at m r).signature tokens
AreNamedBy m own.Properties r tokens = AreTokens m Property (property_at m r).signature tokens
AreNamedBy m own.Implementations r tokens =
    tokens ≡ option_to_list (coded_of (method_impl_at m r).body.kind (method_impl_at m r).body.cell) ++ option_to_list (coded_of (method_impl_at m r).declaration.kind (method_impl_at m r).declaration.cell)

-- row r of such a table names the token
pub record IsNamedAt (m : Contents) (table : Own) (r : ℕ) (token : Token) : Type 0 where
  pub low : 1 ≤ r
  pub high : r ≤ rows_of m (table_of table)
  pub tokens : List Token
  pub named : AreNamedBy m table r tokens
  pub among : Contains tokens token

-- a row of such a table does
abbrev pub IsNamedIn : Contents → Own → Token → Type 0
IsNamedIn m table token = (r : ℕ) × IsNamedAt m table r token

-- these are the tokens that the rows of all such tables name
pub record AreOwnTokens (m : Contents) (found : List Token) : Type 0 where
  pub all : (table : Own) (token : Token) → IsNamedIn m table token → Contains found token
  pub only : (token : Token) → Contains found token → (table : Own) × IsNamedIn m table token

-- ---- inner facts

-- behind some tokens stand those that the first rows of a table name
pub record AreFirstRows (m : Contents) (table : Own) (count : ℕ) (before after : List Token) : Type 0 where
  pub kept : (token : Token) → Contains before token → Contains after token
  pub more : (token : Token) (r : ℕ) → r ≤ count → IsNamedAt m table r token → Contains after token
  pub only : (token : Token) → Contains after token → Contains before token ⊎ ((r : ℕ) × (r ≤ count) × IsNamedAt m table r token)
