-- Metadata in the standard's words: which numbers and names stand at which places of its bytes (ECMA-335 II.24.2.1,
-- II.24.2.2, II.24.2.6). Nothing here reads, and no fact comes before another. Places count from the root's first byte.
use Rattle.std.specs.Prelude.{◌≡◌, ◌≢◌, ◌≤◌, ◌<◌, ℕ, zero, suc, ◌+◌, ◌*◌, ◌/◌, ◌%◌, ◌^◌, List, [], ◌∷◌, ◌++◌, length, drop, Bool, true, false, Option, None, Some, IsTrue, All, slice_index, slice_index_or, map, codes}
use Rattle.byteorder.specs.Endian.{little_number}
use Rattle.cli_metadata.specs.declared.tables.Column.{Column}
use Rattle.cli_metadata.specs.declared.tables.Column.TheVariants as columns
use Rattle.cli_metadata.specs.declared.root.Stream.{Stream}
use Rattle.cli_metadata.specs.declared.root.Streams.{Streams}
use Rattle.cli_metadata.specs.declared.layout.Placed.{Placed}
use Rattle.cli_metadata.specs.Widths.{width_of, row_width}
use Rattle.cli_metadata.specs.Standard.{tables_by_number}
use Rattle.cli_metadata.specs.Metadata.{Contents, heap_of, up_to_tables}

-- a number of `n` bytes stands whole at a place, the least byte first
pub record IsNumber (n : ℕ) (bytes : List ℕ) (place number : ℕ) : Type 0 where
  pub whole : place + n ≤ length bytes
  pub same : number ≡ little_number n (drop place bytes)

-- ---- the root (II.24.2.1)

-- The signature; then a major and a minor version and four reserved bytes, with any values; the length of the version's
-- text, and the text; the flags, with any value; the number of streams. The stream headers begin behind it.
pub record IsRoot (bytes : List ℕ) (count at : ℕ) : Type 0 where
  pub size : ℕ
  pub signature : IsNumber 4 bytes 0 0x424A5342
  pub length_of_version : IsNumber 4 bytes 12 size
  pub streams : IsNumber 2 bytes (16 + size + 2) count
  pub headers : at ≡ 16 + size + 4

-- ---- the stream headers (II.24.2.2)

-- the bytes of a name of `n` bytes with the zero behind it and what fills it up to a multiple of four
abbrev pub padded : ℕ → ℕ
padded n = (n / 4 + 1) * 4

-- a name at a place: 32 bytes at most, none of them zero, with a zero behind them and filled up to a multiple of four
pub record IsName (bytes : List ℕ) (place : ℕ) (name : List ℕ) : Type 0 where
  pub others : List ℕ
  pub ended : drop place bytes ≡ name ++ 0 ∷ others
  pub nonzero : All (λ b. b ≢ 0) name
  pub short : length name ≤ 32
  pub whole : place + padded (length name) ≤ length bytes

-- a stream header: its stream, its name, and the place behind it
pub record Header : Type 0 where
  pub stream : Stream
  pub name : List ℕ
  pub next : ℕ

-- what stands in a header: where the stream begins, its size, and its name
pub record IsHeader (bytes : List ℕ) (h : Header) : Type 0 where
  pub from : IsNumber 4 bytes h.stream.place h.stream.from
  pub size : IsNumber 4 bytes (h.stream.place + 4) h.stream.size
  pub name : IsName bytes (h.stream.place + 8) h.name
  pub next : h.next ≡ h.stream.place + 8 + padded (length h.name)

-- the headers from a place on, each directly behind the one before it, up to an end
abbrev pub AreHeaders : List ℕ → ℕ → List Header → ℕ → Type 0
AreHeaders bytes at [] end = end ≡ at
AreHeaders bytes at (h ∷ headers) end = (h.stream.place ≡ at) × IsHeader bytes h × AreHeaders bytes h.next headers end

-- the header before which none has its name
pub record IsFirst (name : List ℕ) (headers : List Header) (stream : Stream) : Type 0 where
  pub before : List Header
  pub header : Header
  pub behind : List Header
  pub among : headers ≡ before ++ header ∷ behind
  pub new : All (λ h. h.name ≢ name) before
  pub named : header.name ≡ name
  pub its : header.stream ≡ stream

-- the stream of a name is that of the first header which has it, and there is none where no header has it
abbrev pub IsFirstNamed : List ℕ → List Header → Option Stream → Type 0
IsFirstNamed name headers None = All (λ h. h.name ≢ name) headers
IsFirstNamed name headers (Some stream) = IsFirst name headers stream

-- a stream stands whole in so many bytes
abbrev pub IsWithin : ℕ → Option Stream → Type 0
IsWithin len None = Unit {0}
IsWithin len (Some s) = s.from + s.size ≤ len

-- the streams that are read stand whole in so many bytes
pub record AreWithin (len : ℕ) (streams : Streams) : Type 0 where
  pub tables : streams.tables.from + streams.tables.size ≤ len
  pub strings : IsWithin len streams.strings
  pub user_strings : IsWithin len streams.user_strings
  pub blobs : IsWithin len streams.blobs

-- The streams of metadata: as many headers stand as the root counts, and of each name that is read the first one's stream
-- stands whole within the metadata; there is one of tables.
pub record AreStreams (bytes : List ℕ) (streams : Streams) : Type 0 where
  pub count : ℕ
  pub at : ℕ
  pub end : ℕ
  pub headers : List Header
  pub guids : Option Stream
  pub root : IsRoot bytes count at
  pub stand : AreHeaders bytes at headers end
  pub counted : length headers ≡ count
  pub tables_named : IsFirstNamed (codes "#~") headers (Some streams.tables)
  pub strings_named : IsFirstNamed (codes "#Strings") headers streams.strings
  pub user_strings_named : IsFirstNamed (codes "#US") headers streams.user_strings
  pub guids_named : IsFirstNamed (codes "#GUID") headers guids
  pub blobs_named : IsFirstNamed (codes "#Blob") headers streams.blobs
  pub within : AreWithin (length bytes) streams
  pub guids_within : IsWithin (length bytes) guids

-- ---- the stream of tables (II.24.2.6)

-- bit `k` of Valid, which is set where table `k` is there
abbrev pub bit : ℕ → ℕ → ℕ
bit valid k = valid / 2 ^ k % 2

-- how many of the tables below number `k` are there
unfoldable pub tables_below : ℕ → ℕ → ℕ
tables_below valid zero = 0
tables_below valid (suc k) = tables_below valid k + bit valid k

-- how many rows table `k` has: none where it is not there, else the number at its place among the row counts
pub record IsRowCount (bytes : List ℕ) (counts valid k rows : ℕ) : Type 0 where
  pub there : bit valid k ≡ 1 → IsNumber 4 bytes (counts + 4 * tables_below valid k) rows
  pub missing : bit valid k ≡ 0 → rows ≡ 0

-- the row counts by the tables' numbers
abbrev pub rows_by_number : List Placed → List ℕ
rows_by_number placed = map (λ p. p.rows) placed

-- a table that has a column
abbrev pub is_column : Column → Bool
is_column columns.Absent = false
is_column _ = true

abbrev pub is_table : List Column → Bool
is_table [] = false
is_table (c ∷ cs) = is_column c

-- the tables stand from a place on, each directly behind the one before it
abbrev pub AreConsecutive : ℕ → List Placed → Type 0
AreConsecutive at [] = Unit {0}
AreConsecutive at (p ∷ placed) = (p.start ≡ at) × AreConsecutive (at + p.rows * row_width p.widths) placed

-- each row of these tables stands whole in so many bytes
abbrev pub ArePlaced : ℕ → List Placed → Type 0
ArePlaced len [] = Unit {0}
ArePlaced len (p ∷ placed) = (p.start + p.rows * row_width p.widths ≤ len) × ArePlaced len placed

-- The stream of tables at a place, in the bytes up to its end: four reserved bytes, with any value; version 2.0; HeapSizes,
-- in which no bit is set but 1, 2 and 4; a reserved byte, with any value; Valid, in which each bit that is set is that of a table with columns; Sorted, with any
-- value; the row counts, each directly behind the one before it; the tables, which stand whole, also one behind the other.
-- How wide a table's cells are is told by its columns, HeapSizes and the row counts.
pub record AreTables (tables : List (List Column)) (bytes : List ℕ) (at : ℕ) (placed : List Placed) : Type 0 where
  pub sizes : ℕ
  pub valid : ℕ
  pub major : IsNumber 1 bytes (at + 4) 2
  pub minor : IsNumber 1 bytes (at + 5) 0
  pub heap_sizes : IsNumber 1 bytes (at + 6) sizes
  pub known_sizes : sizes < 8
  pub bits : IsNumber 8 bytes (at + 8) valid
  pub prefix : at + 24 ≤ length bytes
  pub known : (k : ℕ) → bit valid k ≡ 1 → IsTrue (is_table (slice_index_or tables k []))
  pub rows : (k : ℕ) → k < length tables → IsRowCount bytes (at + 24) valid k (slice_index (rows_by_number placed) k)
  pub widths : map (λ p. p.widths) placed ≡ map (map (width_of sizes (rows_by_number placed))) tables
  pub consecutive : AreConsecutive (at + 24 + 4 * tables_below valid (length tables)) placed
  pub whole : ArePlaced (length bytes) placed

-- ---- metadata

-- these bytes are metadata with these contents
pub record IsStanding (bytes : List ℕ) (m : Contents) : Type 0 where
  pub streams : Streams
  pub headed : AreStreams bytes streams
  pub strings : m.strings ≡ heap_of bytes streams.strings
  pub user_strings : m.user_strings ≡ heap_of bytes streams.user_strings
  pub blobs : m.blobs ≡ heap_of bytes streams.blobs
  pub stream : m.stream ≡ up_to_tables bytes streams
  pub tables : AreTables tables_by_number m.stream streams.tables.from m.tables
