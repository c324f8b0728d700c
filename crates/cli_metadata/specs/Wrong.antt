-- What is wrong with bytes that aren't metadata, in the standard's words (ECMA-335 II.24.2.1, II.24.2.2, II.24.2.6): what
-- should stand next to what stands doesn't. Places count from the root's first byte.
use Rattle.std.specs.Prelude.{◌≡◌, ◌≤◌, ◌<◌, ◌⊎◌, ℕ, ◌+◌, ◌*◌, List, [], ◌∷◌, ◌++◌, length, None, IsTrue, All, Contains, slice_index, slice_index_or, map, codes, false}
use Rattle.cli_metadata.specs.declared.fault.MetaCause.{MetaCause}
use Rattle.cli_metadata.specs.declared.fault.MetaCause.TheVariants.{BadRoot, BadStream, BadHeader, UnknownTable, Truncated}
use Rattle.cli_metadata.specs.declared.tables.Column.{Column}
use Rattle.cli_metadata.specs.declared.root.Stream.{Stream}
use Rattle.cli_metadata.specs.declared.root.Streams.{Streams}
use Rattle.cli_metadata.specs.declared.layout.Placed.{Placed}
use Rattle.cli_metadata.specs.Standard.{tables_by_number}
use Rattle.cli_metadata.specs.Widths.{width_of, row_width}
use Rattle.cli_metadata.specs.Metadata.{up_to_tables}
use Rattle.cli_metadata.specs.Standing.{Header, is_table, AreConsecutive, IsNumber, IsRoot, IsName, AreHeaders, IsFirst, IsFirstNamed, AreStreams, bit, tables_below, IsRowCount, rows_by_number}

-- ---- fields

-- the values that a field may have: all, one, or those below a limit
pub data Values : Type 0 where
  Every : Values
  One : ℕ → Values
  Below : ℕ → Values

-- a field: its place, its size, and the values that it may have
pub record Field : Type 0 where
  pub place : ℕ
  pub size : ℕ
  pub values : Values

abbrev pub field : ℕ → ℕ → Field
field place size = record { place = place; size = size; values = Every }

abbrev pub field_of : ℕ → ℕ → ℕ → Field
field_of place size value = record { place = place; size = size; values = One value }

abbrev pub field_below : ℕ → ℕ → ℕ → Field
field_below place size limit = record { place = place; size = size; values = Below limit }

abbrev pub IsRightAs : List ℕ → ℕ → ℕ → Values → Type 0
IsRightAs bytes place size Every = place + size ≤ length bytes
IsRightAs bytes place size (One value) = IsNumber size bytes place value
IsRightAs bytes place size (Below limit) = (number : ℕ) × IsNumber size bytes place number × (number < limit)

-- a field stands whole, with a value that it may have
abbrev pub IsRight : List ℕ → Field → Type 0
IsRight bytes f = IsRightAs bytes f.place f.size f.values

-- the first of these fields that isn't right is the one at a place
pub record IsFirstWrong (bytes : List ℕ) (fields : List Field) (place : ℕ) : Type 0 where
  pub before : List Field
  pub wrong : Field
  pub behind : List Field
  pub among : fields ≡ before ++ wrong ∷ behind
  pub right : All (IsRight bytes) before
  pub not_right : ¬ (IsRight bytes wrong)
  pub its : wrong.place ≡ place

-- ---- the root and the stream headers (II.24.2.1, II.24.2.2)

-- The fields of the root, where the version's text has so many bytes: signature, major and minor version, reserved, the
-- text's length, the text, flags, number of streams.
abbrev pub root_fields : ℕ → List Field
root_fields size =
    field_of 0 4 0x424A5342 ∷ field 4 2 ∷ field 6 2 ∷ field 8 4 ∷ field 12 4 ∷ field 16 size ∷ field (16 + size) 2 ∷ field (16 + size + 2) 2 ∷ []

-- a field of the root isn't right
pub record IsNoRoot (bytes : List ℕ) (place : ℕ) : Type 0 where
  pub size : ℕ
  pub length_of_version : 16 ≤ length bytes → IsNumber 4 bytes 12 size
  pub first : IsFirstWrong bytes (root_fields size) place

-- the numbers of a stream header: where the stream begins, and its size
abbrev pub header_numbers : ℕ → List Field
header_numbers at = field at 4 ∷ field (at + 4) 4 ∷ []

-- no stream header stands there: one of its numbers doesn't, or no name behind them does
abbrev pub IsNoHeader : List ℕ → ℕ → ℕ → Type 0
IsNoHeader bytes at place =
    IsFirstWrong bytes (header_numbers at) place
    ⊎ ((at + 8 ≤ length bytes) × ((name : List ℕ) → ¬ (IsName bytes (at + 8) name)) × (place ≡ at + 8))

-- the root counts more headers than those that stand, and behind these no other does
pub record IsHeaderMissing (bytes : List ℕ) (place : ℕ) : Type 0 where
  pub count : ℕ
  pub at : ℕ
  pub end : ℕ
  pub headers : List Header
  pub root : IsRoot bytes count at
  pub stand : AreHeaders bytes at headers end
  pub few : length headers < count
  pub missing : IsNoHeader bytes end place

-- ---- the streams

-- the names of the streams that are read
abbrev pub read_names : List (List ℕ)
read_names = codes "#~" ∷ codes "#Strings" ∷ codes "#US" ∷ codes "#GUID" ∷ codes "#Blob" ∷ []

-- a stream that is read passes the end
pub record IsPassing (bytes : List ℕ) (headers : List Header) (stream : Stream) : Type 0 where
  pub name : List ℕ
  pub read : Contains read_names name
  pub first : IsFirst name headers stream
  pub passes : length bytes < stream.from + stream.size

-- of the streams that pass the end, the first header is at this place
pub record IsFirstPassing (bytes : List ℕ) (headers : List Header) (place : ℕ) : Type 0 where
  pub stream : Stream
  pub passing : IsPassing bytes headers stream
  pub its : stream.place ≡ place
  pub least : (s : Stream) → IsPassing bytes headers s → place ≤ s.place

-- none passes the end and no stream is that of the tables; the place is that behind the headers
pub record IsWithoutTables (bytes : List ℕ) (headers : List Header) (end place : ℕ) : Type 0 where
  pub within : (s : Stream) → ¬ (IsPassing bytes headers s)
  pub missing : IsFirstNamed (codes "#~") headers None
  pub its : place ≡ end

-- all headers stand, and a stream that is read passes the end, or there is no stream of tables
pub record IsStreamWrong (bytes : List ℕ) (place : ℕ) : Type 0 where
  pub count : ℕ
  pub at : ℕ
  pub end : ℕ
  pub headers : List Header
  pub root : IsRoot bytes count at
  pub stand : AreHeaders bytes at headers end
  pub counted : length headers ≡ count
  pub wrong : IsFirstPassing bytes headers place ⊎ IsWithoutTables bytes headers end place

-- ---- the stream of tables (II.24.2.6)

-- Its fields before the row counts: reserved, major and minor version, HeapSizes, in which no bit is set but 1, 2 and 4,
-- reserved, Valid, Sorted.
abbrev pub header_fields : ℕ → List Field
header_fields at =
    field at 4 ∷ field_of (at + 4) 1 2 ∷ field_of (at + 5) 1 0 ∷ field_below (at + 6) 1 8 ∷ field (at + 7) 1 ∷ field (at + 8) 8 ∷ field (at + 16) 8 ∷ []

-- one of these fields isn't right
abbrev pub IsHeaderWrong : List ℕ → ℕ → ℕ → Type 0
IsHeaderWrong bytes at place = IsFirstWrong bytes (header_fields at) place

-- they are right, but a bit of Valid is set that is no table's; the place is that of Valid
pub record IsTableUnknown (tables : List (List Column)) (bytes : List ℕ) (at place : ℕ) : Type 0 where
  pub valid : ℕ
  pub table : ℕ
  pub fields : All (IsRight bytes) (header_fields at)
  pub bits : IsNumber 8 bytes (at + 8) valid
  pub set : bit valid table ≡ 1
  pub unknown : is_table (slice_index_or tables table []) ≡ false
  pub its : place ≡ at + 8

-- a row count passes the end of the stream, and those before it don't
pub record IsCountCut (tables : List (List Column)) (bytes : List ℕ) (at valid place : ℕ) : Type 0 where
  pub table : ℕ
  pub within : table < length tables
  pub there : bit valid table ≡ 1
  pub its : place ≡ at + 24 + 4 * tables_below valid table
  pub before : place ≤ length bytes
  pub cut : length bytes < place + 4

-- The row counts stand. Of the tables, laid one behind the other from there on, the first that doesn't stand whole is the
-- one at this place.
pub record IsTableCut (tables : List (List Column)) (bytes : List ℕ) (at valid place : ℕ) : Type 0 where
  pub sizes : ℕ
  pub placed : List Placed
  pub heap_sizes : IsNumber 1 bytes (at + 6) sizes
  pub counts : at + 24 + 4 * tables_below valid (length tables) ≤ length bytes
  pub rows : (k : ℕ) → k < length tables → IsRowCount bytes (at + 24) valid k (slice_index (rows_by_number placed) k)
  pub widths : map (λ p. p.widths) placed ≡ map (map (width_of sizes (rows_by_number placed))) tables
  pub consecutive : AreConsecutive (at + 24 + 4 * tables_below valid (length tables)) placed
  pub before : List Placed
  pub cut : Placed
  pub behind : List Placed
  pub among : placed ≡ before ++ cut ∷ behind
  pub whole : All (λ p. p.start + p.rows * row_width p.widths ≤ length bytes) before
  pub passes : length bytes < cut.start + cut.rows * row_width cut.widths
  pub its : cut.start ≡ place

-- the fields are right and the tables known, but a row count or a table is cut off
pub record IsCut (tables : List (List Column)) (bytes : List ℕ) (at place : ℕ) : Type 0 where
  pub valid : ℕ
  pub fields : All (IsRight bytes) (header_fields at)
  pub bits : IsNumber 8 bytes (at + 8) valid
  pub known : (k : ℕ) → bit valid k ≡ 1 → IsTrue (is_table (slice_index_or tables k []))
  pub wrong : IsCountCut tables bytes at valid place ⊎ IsTableCut tables bytes at valid place

-- ---- metadata

-- the streams stand, and this is wrong with the stream of tables, in the bytes up to its end
pub record InTables (bytes : List ℕ) (Wrong : List ℕ → ℕ → Type 0) : Type 0 where
  pub streams : Streams
  pub headed : AreStreams bytes streams
  pub wrong : Wrong (up_to_tables bytes streams) streams.tables.from

-- for this cause these bytes aren't metadata, and what is wrong is at this place
abbrev pub IsWrong : List ℕ → ℕ → MetaCause → Type 0
IsWrong bytes place BadRoot = IsNoRoot bytes place ⊎ IsHeaderMissing bytes place
IsWrong bytes place BadStream = IsStreamWrong bytes place
IsWrong bytes place BadHeader = InTables bytes (λ stream at. IsHeaderWrong stream at place)
IsWrong bytes place UnknownTable = InTables bytes (λ stream at. IsTableUnknown tables_by_number stream at place)
IsWrong bytes place Truncated = InTables bytes (λ stream at. IsCut tables_by_number stream at place)
IsWrong bytes place _ = ⊥
