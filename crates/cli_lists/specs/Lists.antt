-- The list columns of metadata, and which row's cell is wrong first.
use Rattle.std.specs.Prelude.{◌≡◌, ℕ, ◌+◌, ◌*◌, ◌^◌, ◌<◌, List, [], ◌∷◌, length, map}
use Rattle.std.specs.List.{range_with_len}
use Rattle.dc_base.specs.declared.names.Token.{Token}
use Rattle.dc_causes.specs.Step.{Step, Told}
use Rattle.dc_causes.specs.Rows.{OfRows}
use Rattle.cli_metadata.specs.declared.tables.Table.{Table}
use Rattle.cli_metadata.specs.declared.tables.Table.TheVariants as tables
use Rattle.cli_metadata.specs.Numbers.{number_of}
use Rattle.cli_metadata.specs.Metadata.{Contents, rows_of, row_of}
use Rattle.cli_tables.specs.Types.{type_def_of}
use Rattle.cli_tables.specs.Members.{method_def_of}
use Rattle.cli_tables.specs.Properties.{property_map_of}
use Rattle.cli_lists.specs.declared.column.ListColumn.{ListColumn}
use Rattle.cli_lists.specs.declared.lists.Lists.{Lists}
use Rattle.cli_lists.specs.declared.owner.Owner.{Owner}
use Rattle.cli_lists.specs.declared.owner.Owner.TheVariants.{TypeDef, MethodDef, PropertyMap}
use Rattle.cli_lists.specs.Starts.{IsStart, AreStarts}

-- the rows of each table here are so few that three bytes hold a row's number, as in a token (II.22)
pub record FewRows (m : Contents) : Type 0 where
  pub types : rows_of m tables.TypeDef < 2 ^ 24
  pub fields : rows_of m tables.Field < 2 ^ 24
  pub methods : rows_of m tables.MethodDef < 2 ^ 24
  pub params : rows_of m tables.Param < 2 ^ 24
  pub property_maps : rows_of m tables.PropertyMap < 2 ^ 24
  pub properties : rows_of m tables.Property < 2 ^ 24

-- ---- the columns

-- the cells of a column of a table, from row 1 on; `list` is a row's cell
abbrev pub cells_in : Contents → Table → (List ℕ → ℕ) → List ℕ
cells_in m table list = map (λ k. list (row_of m table (k + 1))) (range_with_len 0 (rows_of m table))

-- the list columns of the tables
abbrev pub lists_of : Contents → Lists
lists_of m = record {
  fields = record { cells = cells_in m tables.TypeDef (λ row. (type_def_of row).fields); rows = rows_of m tables.Field };
  methods = record { cells = cells_in m tables.TypeDef (λ row. (type_def_of row).methods); rows = rows_of m tables.MethodDef };
  params = record { cells = cells_in m tables.MethodDef (λ row. (method_def_of row).params); rows = rows_of m tables.Param };
  properties = record { cells = cells_in m tables.PropertyMap (λ row. (property_map_of row).properties); rows = rows_of m tables.Property };
}

-- a column has a cell for each row of its table
pub record HaveEachRow (m : Contents) (lists : Lists) : Type 0 where
  pub fields : length lists.fields.cells ≡ rows_of m tables.TypeDef
  pub methods : length lists.methods.cells ≡ rows_of m tables.TypeDef
  pub params : length lists.params.cells ≡ rows_of m tables.MethodDef
  pub properties : length lists.properties.cells ≡ rows_of m tables.PropertyMap

-- a list column with starts of lists, of tables with few rows
pub record IsListColumn (c : ListColumn) : Type 0 where
  pub few_cells : length c.cells < 2 ^ 24
  pub few_rows : c.rows < 2 ^ 24
  pub starts : AreStarts c.rows c.cells

-- four such columns
pub record AreLists (lists : Lists) : Type 0 where
  pub fields : IsListColumn lists.fields
  pub methods : IsListColumn lists.methods
  pub params : IsListColumn lists.params
  pub properties : IsListColumn lists.properties

-- ---- what is wrong

-- how many rows the table of an owner has
abbrev pub owners : Owner → Lists → ℕ
owners TypeDef lists = length lists.fields.cells
owners MethodDef lists = length lists.params.cells
owners PropertyMap lists = length lists.properties.cells

-- row k + 1 begins lists in each list column of its table
abbrev pub BeginsLists : Owner → Lists → ℕ → Type 0
BeginsLists TypeDef lists k = IsStart lists.fields.rows lists.fields.cells (k + 1) × IsStart lists.methods.rows lists.methods.cells (k + 1)
BeginsLists MethodDef lists k = IsStart lists.params.rows lists.params.cells (k + 1)
BeginsLists PropertyMap lists k = IsStart lists.properties.rows lists.properties.cells (k + 1)

abbrev pub table_of : Owner → Table
table_of TypeDef = tables.TypeDef
table_of MethodDef = tables.MethodDef
table_of PropertyMap = tables.PropertyMap

-- the token of row k + 1 (II.22): the table's number in the top byte
abbrev pub row_token : Owner × ℕ → Token
row_token row = record { 0 = number_of (table_of row.0) * 2 ^ 24 + (row.1 + 1) }

-- Each row of TypeDef begins lists, then each of MethodDef, then each of PropertyMap; the first row that doesn't is the
-- fault, told by its token.
abbrev pub EachBeginsLists : Lists → Step (Unit {0}) Token
EachBeginsLists lists = Told row_token (OfRows owners BeginsLists lists (TypeDef ∷ MethodDef ∷ PropertyMap ∷ []))
