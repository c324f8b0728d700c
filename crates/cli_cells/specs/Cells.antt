-- What the cells of rows say, and what is wrong with one (ECMA-335 II.22, II.24.2.6).
use Rattle.std.specs.Prelude.{◌≡◌, ◌⊎◌, ◌≤◌, ◌<◌, ℕ, ◌+◌, ◌/◌, ◌%◌, ◌^◌, List, Option, Some, None, slice_get, slice_index_or}
use Rattle.cli_metadata.specs.declared.fault.MetaFault.{MetaFault}
use Rattle.cli_metadata.specs.declared.fault.MetaCause.TheVariants.{BadIndex}
use Rattle.cli_metadata.specs.declared.coded_tokens.CodedIndex.{CodedIndex}
use Rattle.cli_metadata.specs.declared.tables.Table.{Table}
use Rattle.cli_metadata.specs.Standard.{standard_targets}
use Rattle.cli_metadata.specs.Metadata.{Contents, rows_of, IsNoString, IsNoItem, IsFaultAt}
use Rattle.cli_cells.specs.declared.cell.Cell.{Cell}
use Rattle.cli_cells.specs.declared.cell.Cell.TheVariants.{Text, Blob, Row, Coded, List as ListCell}

-- the fault of a cell that names what isn't there
abbrev pub bad_index : MetaFault
bad_index = record { cause = BadIndex; place = 0 }

-- the table has no such row, or no token can name it
abbrev pub IsPast : Contents → Table → ℕ → Type 0
IsPast m table n = (rows_of m table < n) ⊎ (2 ^ 24 ≤ n)

-- the table that a coded cell's tag stands for, and the row in it
abbrev pub tagged : CodedIndex → Option Table
tagged c = let t = standard_targets c.kind in slice_index_or t.tables (c.cell % 2 ^ t.bits) None

abbrev pub row_in : CodedIndex → ℕ
row_in c = c.cell / 2 ^ (standard_targets c.kind).bits

-- a coded cell names a row past its table; a tag that stands for no table isn't asked here
abbrev pub NamesPast : Contents → CodedIndex → Type 0
NamesPast m c = (table : Table) × (tagged c ≡ Some table) × IsPast m table (row_in c)

-- a list begins at a row of its table, or behind its last, and not before the list of the row before
pub record Begins (before start rows : ℕ) : Type 0 where
  pub low : 1 ≤ start
  pub high : start ≤ rows + 1
  pub rises : before ≤ start

-- a cell says nothing, and this is its fault
abbrev pub IsWrong : Contents → Cell → MetaFault → Type 0
IsWrong m (Text i) fault = IsFaultAt (IsNoString m.strings i) i fault
IsWrong m (Blob i) fault = IsFaultAt (IsNoItem m.blobs i) i fault
IsWrong m (Row table n) fault = IsPast m table n × (fault ≡ bad_index)
IsWrong m (Coded c) fault = NamesPast m c × (fault ≡ bad_index)
IsWrong m (ListCell before start rows) fault = (Begins before start rows → ⊥) × (fault ≡ bad_index)

-- a cell says something
abbrev pub SaysSomething : Contents → Cell → Type 0
SaysSomething m cell = (fault : MetaFault) → IsWrong m cell fault → ⊥

-- the first of these cells that says nothing, with its fault
pub record IsFirstWrong (m : Contents) (cells : List Cell) (fault : MetaFault) : Type 0 where
  pub k : ℕ
  pub cell : Cell
  pub there : slice_get cells k ≡ Some cell
  pub wrong : IsWrong m cell fault
  pub before : (j : ℕ) (other : Cell) → j < k → slice_get cells j ≡ Some other → SaysSomething m other

-- the fault of the first of these cells that says nothing; none where each says something
abbrev pub IsFirstFault : Contents → List Cell → Option MetaFault → Type 0
IsFirstFault m cells None = (j : ℕ) (cell : Cell) → slice_get cells j ≡ Some cell → SaysSomething m cell
IsFirstFault m cells (Some fault) = IsFirstWrong m cells fault

-- ---- inner facts

-- the fault of a cell, if it says nothing
abbrev pub IsFaultOf : Contents → Cell → Option MetaFault → Type 0
IsFaultOf m cell None = SaysSomething m cell
IsFaultOf m cell (Some fault) = IsWrong m cell fault
