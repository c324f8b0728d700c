-- What follows from the definitions.
use Rattle.std.specs.Prelude.{◌≡◌, ◌≤◌, ℕ, ◌+◌, List, length}
use Rattle.cli_metadata.specs.declared.fault.MetaFault.{MetaFault}
use Rattle.cli_metadata.specs.declared.tables.Table.{Table}
use Rattle.cli_metadata.specs.declared.tables.TheConstants.{TABLES}
use Rattle.cli_metadata.specs.declared.coded_index.Coded.{Coded as Kind}
use Rattle.cli_metadata.specs.Tables.{targets_of}
use Rattle.cli_metadata.specs.Standard.{tables_by_number, standard_targets}
use Rattle.cli_metadata.specs.Widths.{row_width}
use Rattle.cli_metadata.specs.Metadata.{Contents, placed_of, rows_of, row_start}
use Rattle.cli_metadata.specs.Standing.{IsStanding}
use Rattle.cli_metadata.specs.Wrong.{IsWrong}

-- the tables of the crate are those of the standard, by number
abbrev pub TablesAreTheStandards : Type 0
TablesAreTheStandards = TABLES ≡ tables_by_number

-- the coded indices of the crate are those of the standard
abbrev pub CodedAreTheStandards : Type 0
CodedAreTheStandards = (kind : Kind) → targets_of kind ≡ standard_targets kind

-- bytes are metadata with one content
abbrev pub HasOneContent : Type 0
HasOneContent = (bytes : List ℕ) (m n : Contents) → IsStanding bytes m → IsStanding bytes n → m ≡ n

-- nothing is wrong with metadata
abbrev pub HasNoFault : Type 0
HasNoFault = (bytes : List ℕ) (m : Contents) (fault : MetaFault) → IsStanding bytes m → IsWrong bytes fault.place fault.cause → ⊥

-- what is no metadata has one fault
abbrev pub HasOneFault : Type 0
HasOneFault = (bytes : List ℕ) (fault other : MetaFault) → IsWrong bytes fault.place fault.cause → IsWrong bytes other.place other.cause → fault ≡ other

-- each row of metadata stands whole in the bytes up to the end of the stream of tables
abbrev pub RowsAreWithin : Type 0
RowsAreWithin =
    (bytes : List ℕ) (m : Contents) (table : Table) (n : ℕ) → IsStanding bytes m → 1 ≤ n → n ≤ rows_of m table
    → row_start (placed_of m table) n + row_width (placed_of m table).widths ≤ length m.stream
