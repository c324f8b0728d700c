-- The cells of rows, each table at its own section of ECMA-335 II.22, and which rows are asked.
use Rattle.std.specs.Prelude.{ℕ, ◌+◌, ◌-◌, ◌*◌, ◌%◌, ◌^◌, ◌==◌, Bool, true, false, List, [], ◌∷◌, slice_index_or, Option, Some, None, cond}
use Rattle.dc_base.specs.declared.names.Token.{Token}
use Rattle.cli_metadata.specs.declared.tables.Table.{Table}
use Rattle.cli_metadata.specs.declared.tables.Table.TheVariants as tables
use Rattle.cli_metadata.specs.Numbers.{number_of as number_of_table}
use Rattle.cli_metadata.specs.Metadata.{Contents, rows_of, row_of}
use Rattle.cli_tables.specs.Assemblies.{assembly_of}
use Rattle.cli_tables.specs.Types.{type_ref_of, type_def_of, type_spec_of, nested_class_of, interface_impl_of}
use Rattle.cli_tables.specs.Members.{field_of, method_def_of, param_of, member_ref_of, constant_of, stand_alone_sig_of, method_impl_of}
use Rattle.cli_tables.specs.Properties.{property_map_of, property_of, method_semantics_of}
use Rattle.cli_named.specs.Numbers.{numbers_of, number_of}
use Rattle.cli_cells.specs.declared.cell.Cell.{Cell}
use Rattle.cli_cells.specs.declared.cell.Cell.TheVariants.{Text, Blob, Row, Coded, List as ListCell}
use Rattle.cli_cells.specs.declared.table.CellTable.{CellTable}
use Rattle.cli_cells.specs.declared.table.CellTable.TheVariants.{TypeRef, TypeDef, Field, MethodDef, Param, InterfaceImpl, MemberRef, Constant, StandAloneSig, PropertyMap, Property, MethodSemantics, MethodImpl, TypeSpec, Assembly, NestedClass}

-- metadata, and for each row that has a number whether it is reached
pub record Subject : Type 0 where
  pub metadata : Contents
  pub reached : List Bool

abbrev pub table_of : CellTable → Table
table_of TypeRef = tables.TypeRef
table_of TypeDef = tables.TypeDef
table_of Field = tables.Field
table_of MethodDef = tables.MethodDef
table_of Param = tables.Param
table_of InterfaceImpl = tables.InterfaceImpl
table_of MemberRef = tables.MemberRef
table_of Constant = tables.Constant
table_of StandAloneSig = tables.StandAloneSig
table_of PropertyMap = tables.PropertyMap
table_of Property = tables.Property
table_of MethodSemantics = tables.MethodSemantics
table_of MethodImpl = tables.MethodImpl
table_of TypeSpec = tables.TypeSpec
table_of Assembly = tables.Assembly
table_of NestedClass = tables.NestedClass

-- the token of row r of a table (II.22): the table's number in the top byte
abbrev pub token_at : CellTable → ℕ → Token
token_at table r = record { 0 = number_of_table (table_of table) * 2 ^ 24 + r }

-- the start of the list of the row before row r, where `start` is that of each row; 0 before the first row
abbrev pub started : (ℕ → ℕ) → ℕ → ℕ
started start r = cond (r == 1) 0 (start (r - 1))

-- the start of the list of row r of a table, in a table of so many rows
abbrev pub list_at : (ℕ → ℕ) → ℕ → ℕ → Cell
list_at start r rows = ListCell (started start r) (start r) rows

-- the cells of row r that are asked, in the order of the columns; of constants only those of fields (tag 0) have some
abbrev pub cells_at : Contents → CellTable → ℕ → List Cell
cells_at m TypeRef r =
    let row = type_ref_of (row_of m tables.TypeRef r) in
    Coded row.scope ∷ Text row.name ∷ Text row.namespace ∷ []
cells_at m TypeDef r =
    let row = type_def_of (row_of m tables.TypeDef r) in
    Text row.name ∷ Text row.namespace ∷ Coded row.extends
    ∷ list_at (λ n. (type_def_of (row_of m tables.TypeDef n)).fields) r (rows_of m tables.Field)
    ∷ list_at (λ n. (type_def_of (row_of m tables.TypeDef n)).methods) r (rows_of m tables.MethodDef) ∷ []
cells_at m Field r =
    let row = field_of (row_of m tables.Field r) in
    Text row.name ∷ Blob row.signature ∷ []
cells_at m MethodDef r =
    let row = method_def_of (row_of m tables.MethodDef r) in
    Text row.name ∷ Blob row.signature
    ∷ list_at (λ n. (method_def_of (row_of m tables.MethodDef n)).params) r (rows_of m tables.Param) ∷ []
cells_at m Param r = Text (param_of (row_of m tables.Param r)).name ∷ []
cells_at m InterfaceImpl r =
    let row = interface_impl_of (row_of m tables.InterfaceImpl r) in
    Row tables.TypeDef row.class ∷ Coded row.interface ∷ []
cells_at m MemberRef r =
    let row = member_ref_of (row_of m tables.MemberRef r) in
    Coded row.class ∷ Text row.name ∷ Blob row.signature ∷ []
cells_at m Constant r =
    let row = constant_of (row_of m tables.Constant r) in
    cond (row.parent.cell % 4 == 0) (Coded row.parent ∷ Blob row.value ∷ []) []
cells_at m StandAloneSig r = Blob (stand_alone_sig_of (row_of m tables.StandAloneSig r)).signature ∷ []
cells_at m PropertyMap r =
    Row tables.TypeDef (property_map_of (row_of m tables.PropertyMap r)).parent
    ∷ list_at (λ n. (property_map_of (row_of m tables.PropertyMap n)).properties) r (rows_of m tables.Property) ∷ []
cells_at m Property r =
    let row = property_of (row_of m tables.Property r) in
    Text row.name ∷ Blob row.signature ∷ []
cells_at m MethodSemantics r =
    let row = method_semantics_of (row_of m tables.MethodSemantics r) in
    Row tables.MethodDef row.method ∷ Coded row.association ∷ []
cells_at m MethodImpl r =
    let row = method_impl_of (row_of m tables.MethodImpl r) in
    Row tables.TypeDef row.class ∷ Coded row.body ∷ Coded row.declaration ∷ []
cells_at m TypeSpec r = Blob (type_spec_of (row_of m tables.TypeSpec r)).signature ∷ []
cells_at m Assembly r = Text (assembly_of (row_of m tables.Assembly r)).name ∷ []
cells_at m NestedClass r =
    let row = nested_class_of (row_of m tables.NestedClass r) in
    Row tables.TypeDef row.nested ∷ Row tables.TypeDef row.enclosing ∷ []

-- the mark of a number, where there is one
abbrev pub marked : List Bool → Option ℕ → Bool
marked marks None = false
marked marks (Some k) = slice_index_or marks k false

abbrev pub is_reached : Subject → CellTable → ℕ → Bool
is_reached s table r = marked s.reached (number_of (numbers_of s.metadata) (token_at table r))

-- the rows of four tables are asked where they are reached, those of the others always
abbrev pub is_asked : Subject → CellTable → ℕ → Bool
is_asked s TypeRef r = is_reached s TypeRef r
is_asked s MemberRef r = is_reached s MemberRef r
is_asked s StandAloneSig r = is_reached s StandAloneSig r
is_asked s TypeSpec r = is_reached s TypeSpec r
is_asked s _ r = true

-- the cells of row r, where it is asked
abbrev pub asked_cells : Subject → CellTable → ℕ → List Cell
asked_cells s table r = cond (is_asked s table r) (cells_at s.metadata table r) []
