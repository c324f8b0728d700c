-- Metadata: its heaps and its rows (ECMA-335 II.22, II.24).
use Rattle.std.specs.Prelude.{◌≡◌, ◌≤◌, ◌<◌, ◌⊎◌, ℕ, ◌+◌, ◌-◌, ◌*◌, ◌/◌, ◌%◌, ◌^◌, List, [], ◌∷◌, ◌++◌, length, take, drop, Option, None, Some, nat_lt, ◌==◌, if◌then◌else◌, slice_index_or, position, IsUtf8}
use Rattle.std.specs.Option.{option_map}
use Rattle.byteorder.specs.Endian.{little_number}
use Rattle.dc_base.specs.declared.names.Token.{Token}
use Rattle.dc_base.specs.Spelling.{BeginsWithNumber, BeginsWithNone}
use Rattle.cli_metadata.specs.declared.fault.MetaFault.{MetaFault}
use Rattle.cli_metadata.specs.declared.fault.MetaCause.{MetaCause}
use Rattle.cli_metadata.specs.declared.fault.MetaCause.TheVariants.{BadIndex, BadText, BadBlob}
use Rattle.cli_metadata.specs.declared.coded_index.Coded.{Coded}
use Rattle.cli_metadata.specs.declared.tables.Table.{Table}
use Rattle.cli_metadata.specs.declared.coded_index.Targets.{Targets}
use Rattle.cli_metadata.specs.declared.root.Stream.{Stream}
use Rattle.cli_metadata.specs.declared.root.Streams.{Streams}
use Rattle.cli_metadata.specs.declared.widths.Width.{Width}
use Rattle.cli_metadata.specs.declared.layout.Placed.{Placed}
use Rattle.cli_metadata.specs.Numbers.{number_of}
use Rattle.cli_metadata.specs.Standard.{standard_targets}
use Rattle.cli_metadata.specs.Widths.{bytes_in, row_width}

-- What metadata holds: its heaps, the bytes up to the end of the stream of tables, and where in them each table stands,
-- by the table's number.
pub record Contents : Type 0 where
  pub strings : List ℕ
  pub user_strings : List ℕ
  pub blobs : List ℕ
  pub stream : List ℕ
  pub tables : List Placed

-- the bytes of a stream; a heap that is missing is empty
abbrev pub heap_of : List ℕ → Option Stream → List ℕ
heap_of bytes None = []
heap_of bytes (Some s) = take s.size (drop s.from bytes)

-- the bytes up to the end of the stream of tables
abbrev pub up_to_tables : List ℕ → Streams → List ℕ
up_to_tables bytes streams = take (streams.tables.from + streams.tables.size) bytes

-- ---- rows

-- where a table without rows stands
abbrev pub nowhere : Placed
nowhere = record { rows = 0; start = 0; widths = [] }

-- where a table stands
abbrev pub placed_of : Contents → Table → Placed
placed_of m table = slice_index_or m.tables (number_of table) nowhere

-- how many rows a table has
abbrev pub rows_of : Contents → Table → ℕ
rows_of m table = (placed_of m table).rows

-- the numbers in cells of these widths, each directly behind the one before it, the least byte first
abbrev pub cells_of : List Width → List ℕ → List ℕ
cells_of [] bytes = []
cells_of (w ∷ widths) bytes = little_number (bytes_in w) bytes ∷ cells_of widths (drop (bytes_in w) bytes)

-- row n of a table begins behind the n - 1 rows before it
abbrev pub row_start : Placed → ℕ → ℕ
row_start p n = p.start + (n - 1) * row_width p.widths

-- the numbers in the cells of row n of a table, with 0 behind the last
abbrev pub row_of : Contents → Table → ℕ → List ℕ
row_of m table n =
    let p = placed_of m table in
    cells_of p.widths (drop (row_start p n) m.stream)

-- the token of a row of a table, where there is such a table and the row fits three bytes
abbrev pub token_of : Option Table → ℕ → Option Token
token_of None row = None
token_of (Some table) row = if nat_lt 0xFFFFFF row then None else Some (record { 0 = number_of table * 2 ^ 24 + row })

-- the token that a coded index means: the tag of its table is in the low bits, and the row above them (II.24.2.6)
abbrev pub coded_with : Targets → ℕ → Option Token
coded_with targets cell = token_of (slice_index_or targets.tables (cell % 2 ^ targets.bits) None) (cell / 2 ^ targets.bits)

abbrev pub coded_of : Coded → ℕ → Option Token
coded_of kind cell = coded_with (standard_targets kind) cell

-- ---- heaps

-- the bytes from a place of a heap to the next zero
abbrev pub up_to_zero : List ℕ → ℕ → Option (List ℕ)
up_to_zero heap i = option_map (λ n. take n (drop i heap)) (position (λ b. b == 0) (drop i heap))

-- a zero-ended UTF-8 text of a heap (II.24.2.3)
abbrev pub IsString : List ℕ → ℕ → List ℕ → Type 0
IsString heap i text = (i < length heap) × (up_to_zero heap i ≡ Some text) × IsUtf8 text

-- why no text begins there
abbrev pub IsNoString : List ℕ → ℕ → MetaCause → Type 0
IsNoString heap i BadIndex = length heap ≤ i
IsNoString heap i BadText =
    (i < length heap) × ((up_to_zero heap i ≡ None) ⊎ ((text : List ℕ) × (up_to_zero heap i ≡ Some text) × (¬ IsUtf8 text)))
IsNoString heap i _ = ⊥

-- an item of a heap: its length as a compressed integer, and so many bytes (II.24.2.4)
pub record IsItem (heap : List ℕ) (i : ℕ) (item : List ℕ) : Type 0 where
  pub len : ℕ
  pub below : i < length heap
  pub number : BeginsWithNumber (drop i heap) (length item) len
  pub whole : i + len + length item ≤ length heap
  pub bytes : item ≡ take (length item) (drop (i + len) heap)

-- an item of a heap that passes its end
pub record PassesEnd (heap : List ℕ) (i : ℕ) : Type 0 where
  pub len : ℕ
  pub size : ℕ
  pub number : BeginsWithNumber (drop i heap) size len
  pub passes : length heap < i + len + size

-- why no item begins there
abbrev pub IsNoItem : List ℕ → ℕ → MetaCause → Type 0
IsNoItem heap i BadIndex = length heap ≤ i
IsNoItem heap i BadBlob = (i < length heap) × (BeginsWithNone (drop i heap) ⊎ PassesEnd heap i)
IsNoItem heap i _ = ⊥

-- a user string: an item without its last byte, in units of two bytes
abbrev pub IsUserString : List ℕ → ℕ → List ℕ → Type 0
IsUserString heap i text = (last : ℕ) × IsItem heap i (text ++ last ∷ []) × (length text % 2 ≡ 0)

-- why no user string begins there: no item does, or one that is empty or has an odd number of bytes before the last
abbrev pub IsNoUserString : List ℕ → ℕ → MetaCause → Type 0
IsNoUserString heap i BadIndex = length heap ≤ i
IsNoUserString heap i BadBlob = IsNoItem heap i BadBlob ⊎ ((item : List ℕ) × IsItem heap i item × (length item % 2 ≡ 0))
IsNoUserString heap i _ = ⊥

-- a fault of an index into a heap
abbrev pub IsFaultAt : (MetaCause → Type 0) → ℕ → MetaFault → Type 0
IsFaultAt why i fault = (fault.place ≡ i) × why fault.cause
