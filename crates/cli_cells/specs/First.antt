-- The first cell that says nothing: by the table's number, then by row, then in the order of the columns.
use Rattle.std.specs.Prelude.{◌≡◌, ◌<◌, ℕ, ◌+◌, ◌^◌, List, [], ◌∷◌, Some, None, Ok, Err}
use Rattle.dc_causes.specs.Step.{Step}
use Rattle.dc_causes.specs.Rows.{OfRows}
use Rattle.cli_metadata.specs.Metadata.{Contents, rows_of}
use Rattle.cli_cells.specs.declared.fault.CellFault.{CellFault}
use Rattle.cli_cells.specs.declared.table.CellTable.{CellTable}
use Rattle.cli_cells.specs.declared.table.CellTable.TheVariants.{TypeRef, TypeDef, Field, MethodDef, Param, InterfaceImpl, MemberRef, Constant, StandAloneSig, PropertyMap, Property, MethodSemantics, MethodImpl, TypeSpec, Assembly, NestedClass}
use Rattle.cli_cells.specs.Cells.{IsFirstFault}
use Rattle.cli_cells.specs.Rows.{Subject, table_of, token_at, asked_cells}

-- how many rows a table has
abbrev pub asked_rows : CellTable → Subject → ℕ
asked_rows table s = rows_of s.metadata (table_of table)

-- each cell of row k + 1 that is asked says something
abbrev pub RowStands : CellTable → Subject → ℕ → Type 0
RowStands table s k = IsFirstFault s.metadata (asked_cells s table (k + 1)) None

-- the tables by their numbers
abbrev pub by_number : List CellTable
by_number = TypeRef ∷ TypeDef ∷ Field ∷ MethodDef ∷ Param ∷ InterfaceImpl ∷ MemberRef ∷ Constant ∷ StandAloneSig ∷ PropertyMap ∷ Property ∷ MethodSemantics ∷ MethodImpl ∷ TypeSpec ∷ Assembly ∷ NestedClass ∷ []

-- three bytes hold each row's number of these tables
abbrev pub AreFew : Contents → Type 0
AreFew m = (table : CellTable) → rows_of m (table_of table) < 2 ^ 24

-- the first row that doesn't stand, and there the fault of the first cell that says nothing
pub record IsFirst (s : Subject) (f : CellFault) : Type 0 where
  pub table : CellTable
  pub k : ℕ
  pub row : OfRows asked_rows RowStands s by_number (Err (table, k))
  pub cell : IsFirstFault s.metadata (asked_cells s table (k + 1)) (Some f.fault)
  pub token : f.token ≡ token_at table (k + 1)

-- each row of the tables stands, or this is the first fault
abbrev pub CellsStand : Subject → Step (Unit {0}) CellFault
CellsStand s (Ok a) = OfRows asked_rows RowStands s by_number (Ok tt)
CellsStand s (Err f) = IsFirst s f
