-- How many bytes a cell has (ECMA-335 II.24.2.6).
use Rattle.std.specs.Prelude.{ℕ, ◌-◌, ◌^◌, List, Bool, true, false, Option, None, Some, nat_lt, ◌==◌, slice_index, bit_and}
use Rattle.std.specs.List.{list_all, sum_by}
use Rattle.cli_metadata.specs.declared.tables.Table.{Table}
use Rattle.cli_metadata.specs.declared.tables.Column.{Column}
use Rattle.cli_metadata.specs.declared.tables.Column.TheVariants.{Absent, Number1, Number2, Number4, Strings, Guid, Blob, Row, Coded}
use Rattle.cli_metadata.specs.declared.coded_index.Targets.{Targets}
use Rattle.cli_metadata.specs.declared.widths.Width.{Width}
use Rattle.cli_metadata.specs.declared.widths.Width.TheVariants.{Zero, One, Two, Four}
use Rattle.cli_metadata.specs.Numbers.{number_of}
use Rattle.cli_metadata.specs.Standard.{standard_targets}

abbrev pub bytes_in : Width → ℕ
bytes_in Zero = 0
bytes_in One = 1
bytes_in Two = 2
bytes_in Four = 4

-- an index has four bytes where two are too few
abbrev pub index_width : Bool → Width
index_width true = Two
index_width false = Four

-- an index into a heap has four bytes where the heap's bit of HeapSizes is set
abbrev pub heap_width : ℕ → ℕ → Width
heap_width sizes bit = index_width (bit_and sizes bit == 0)

-- a table has fewer rows than this
abbrev pub has_fewer : List ℕ → ℕ → Option Table → Bool
has_fewer counts limit None = true
has_fewer counts limit (Some table) = nat_lt (slice_index counts (number_of table)) limit

-- each table that a coded index may name has so few rows that two bytes hold the row and the tag
abbrev pub fits_two : List ℕ → Targets → Bool
fits_two counts targets = list_all (has_fewer counts (2 ^ (16 - targets.bits))) targets.tables

-- the width of a column's cells, by HeapSizes and the row counts of the tables
abbrev pub width_of : ℕ → List ℕ → Column → Width
width_of sizes counts Absent = Zero
width_of sizes counts Number1 = One
width_of sizes counts Number2 = Two
width_of sizes counts Number4 = Four
width_of sizes counts Strings = heap_width sizes 0x01
width_of sizes counts Guid = heap_width sizes 0x02
width_of sizes counts Blob = heap_width sizes 0x04
width_of sizes counts (Row table) = index_width (has_fewer counts (2 ^ 16) (Some table))
width_of sizes counts (Coded kind) = index_width (fits_two counts (standard_targets kind))

-- the bytes of a row with these cells
abbrev pub row_width : List Width → ℕ
row_width widths = sum_by bytes_in widths
