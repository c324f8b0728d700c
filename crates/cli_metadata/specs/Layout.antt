-- The stream of tables, as it is read: its header, and where the tables stand in it. Places count from the root's
-- first byte, and the bytes are those up to the end of the stream.
use Rattle.std.specs.Prelude.{ℕ, zero, suc, ◌+◌, ◌*◌, ◌/◌, ◌%◌, List, [], ◌∷◌, Bool, Result, Ok, nat_lt, ◌==◌, ◌&&◌, ◌||◌, if◌then◌else◌, slice_index, map}
use Rattle.cli_metadata.specs.declared.fault.MetaFault.{MetaFault}
use Rattle.cli_metadata.specs.declared.fault.MetaCause.TheVariants.{BadHeader, UnknownTable, Truncated}
use Rattle.cli_metadata.specs.declared.tables.Column.{Column}
use Rattle.cli_metadata.specs.declared.widths.Width.{Width}
use Rattle.cli_metadata.specs.declared.layout.Prefix.{Prefix}
use Rattle.cli_metadata.specs.declared.layout.Placed.{Placed}
use Rattle.cli_metadata.specs.Reading.{◌>>=◌, behind, number_at, holds}
use Rattle.cli_metadata.specs.Numbers.{table_numbers}
use Rattle.cli_metadata.specs.Widths.{width_of, row_width}
use Rattle.cli_metadata.specs.Standing.{is_table}

-- each bit that is set is the bit of a table, from the lowest bit and the first table on
abbrev pub are_tables : ℕ → List (List Column) → Bool
are_tables valid [] = valid == 0
are_tables valid (t ∷ tables) = (valid % 2 == 0 || is_table t) && are_tables (valid / 2) tables

-- The fields before the row counts: a reserved number, the major and the minor version, HeapSizes, a reserved byte, and
-- which tables are there and sorted. No bit of HeapSizes is set but the lowest three, and no table is there whose number
-- no table has.
unfoldable pub versioned_at : List ℕ → ℕ → Result ℕ MetaFault
versioned_at bytes at = do
  reserved ← number_at BadHeader 4 bytes at
  major ← number_at BadHeader 1 bytes (at + 4)
  right_major ← holds (major == 2) BadHeader (at + 4)
  minor ← number_at BadHeader 1 bytes (at + 5)
  holds (minor == 0) BadHeader (at + 5)

unfoldable pub prefix_at : List (List Column) → List ℕ → ℕ → Result Prefix MetaFault
prefix_at tables bytes at = do
  versioned ← versioned_at bytes at
  sizes ← number_at BadHeader 1 bytes (at + 6)
  known_sizes ← holds (nat_lt sizes 8) BadHeader (at + 6)
  reserved ← number_at BadHeader 1 bytes (at + 7)
  valid ← number_at BadHeader 8 bytes (at + 8)
  sorted ← number_at BadHeader 8 bytes (at + 16)
  known ← holds (are_tables valid tables) UnknownTable (at + 8)
  Ok (record { sizes = sizes; valid = valid })

-- the row count of a table, which has one where its bit is set, and the place behind it
abbrev pub count_at : ℕ → List ℕ → ℕ → Result (ℕ × ℕ) MetaFault
count_at valid bytes at =
    if valid % 2 == 0 then Ok (0, at) else (number_at Truncated 4 bytes at >>= λ n. Ok (n, at + 4))

-- the row counts of so many tables, from the lowest bit on, and the place behind them
unfoldable pub counts_at : ℕ → ℕ → List ℕ → ℕ → Result (List ℕ × ℕ) MetaFault
counts_at zero valid bytes at = Ok ([], at)
counts_at (suc tables) valid bytes at = do
  first ← count_at valid bytes at
  others ← counts_at tables (valid / 2) bytes first.1
  Ok (first.0 ∷ others.0, others.1)

-- a table with these cells and so many rows, which stands whole at a place, and the place behind it
unfoldable pub table_at : List Width → ℕ → List ℕ → ℕ → Result (Placed × ℕ) MetaFault
table_at widths rows bytes at = do
  end ← behind Truncated (rows * row_width widths) bytes at
  Ok (record { rows = rows; start = at; widths = widths }, end)

-- the tables from number `k` on, each directly behind the one before it
unfoldable pub tables_at : ℕ → List ℕ → List (List Column) → ℕ → List ℕ → ℕ → Result (List Placed) MetaFault
tables_at sizes counts [] k bytes at = Ok []
tables_at sizes counts (columns ∷ tables) k bytes at = do
  first ← table_at (map (width_of sizes counts) columns) (slice_index counts k) bytes at
  others ← tables_at sizes counts tables (k + 1) bytes first.1
  Ok (first.0 ∷ others)

-- the tables of the stream of tables that begins at a place: behind the fields and the row counts
unfoldable pub tables_of : List (List Column) → List ℕ → ℕ → Result (List Placed) MetaFault
tables_of tables bytes at = do
  prefix ← prefix_at tables bytes at
  counts ← counts_at table_numbers prefix.valid bytes (at + 24)
  tables_at prefix.sizes counts.0 tables 0 bytes counts.1
