-- The metadata root and its streams, as they are read.
use Rattle.std.specs.Prelude.{ℕ, zero, suc, ◌+◌, List, [], ◌∷◌, length, take, drop, Option, None, Some, Result, Ok, Err, nat_lt, ◌==◌, if◌then◌else◌, find, position, codes, min}
use Rattle.std.specs.Str.{bytes_eq}
use Rattle.std.specs.Option.{option_map}
use Rattle.cli_metadata.specs.declared.fault.MetaFault.{MetaFault}
use Rattle.cli_metadata.specs.declared.fault.MetaCause.TheVariants.{BadRoot, BadStream}
use Rattle.cli_metadata.specs.declared.root.Stream.{Stream}
use Rattle.cli_metadata.specs.declared.root.Streams.{Streams}
use Rattle.cli_metadata.specs.declared.root.Found.{Found}
use Rattle.cli_metadata.specs.Standing.{Header, padded, IsWithin}
use Rattle.cli_metadata.specs.Reading.{◌>>=◌, fault_at, behind, number_at, holds}

-- where the stream headers begin, and how many there are
pub record Root : Type 0 where
  pub at : ℕ
  pub count : ℕ

-- The root: the signature, a major and a minor version, a reserved number, the version as a text behind its length,
-- the flags and the number of streams.
unfoldable pub root_of : List ℕ → Result Root MetaFault
root_of bytes = do
  signature ← number_at BadRoot 4 bytes 0
  signed ← holds (signature == 0x424A5342) BadRoot 0
  major ← number_at BadRoot 2 bytes 4
  minor ← number_at BadRoot 2 bytes 6
  reserved ← number_at BadRoot 4 bytes 8
  size ← number_at BadRoot 4 bytes 12
  flags ← behind BadRoot size bytes 16
  flag ← number_at BadRoot 2 bytes flags
  count ← number_at BadRoot 2 bytes (flags + 2)
  Ok (record { at = flags + 4; count = count })

-- the name at a place that has its zero behind this many bytes
abbrev pub name_of : List ℕ → ℕ → Option ℕ → Result (List ℕ) MetaFault
name_of bytes at None = fault_at BadRoot at
name_of bytes at (Some n) =
    if nat_lt (length bytes) (at + padded n) then fault_at BadRoot at else Ok (take n (drop at bytes))

-- the name at a place: the bytes before a zero, 32 of them at most
abbrev pub name_at : List ℕ → ℕ → Result (List ℕ) MetaFault
name_at bytes at = name_of bytes at (position (λ b. b == 0) (take 33 (drop at bytes)))

-- the stream header at a place: where its stream begins, counted from the root, the stream's size, and its name
unfoldable pub header_at : List ℕ → ℕ → Result Header MetaFault
header_at bytes at = do
  from ← number_at BadRoot 4 bytes at
  size ← number_at BadRoot 4 bytes (at + 4)
  name ← name_at bytes (at + 8)
  Ok (record { stream = record { place = at; from = from; size = size }; name = name; next = at + 8 + padded (length name) })

-- so many stream headers, each directly behind the one before it, and the place behind the last
unfoldable pub headers_at : ℕ → List ℕ → ℕ → Result (List Header × ℕ) MetaFault
headers_at zero bytes at = Ok ([], at)
headers_at (suc n) bytes at = do
  first ← header_at bytes at
  others ← headers_at n bytes first.next
  Ok (first ∷ others.0, others.1)

-- the place behind the last of these headers
abbrev pub end_of : Result (List Header × ℕ) MetaFault → Result ℕ MetaFault
end_of (Ok headers) = Ok headers.1
end_of (Err e) = Err e

-- the first stream of a name
abbrev pub named : List ℕ → List Header → Option Stream
named name headers = option_map (λ h. h.stream) (find (λ h. bytes_eq h.name name) headers)

-- the same among headers that were read
abbrev pub named_in : List ℕ → Result (List Header × ℕ) MetaFault → Option Stream
named_in name (Ok headers) = named name headers.0
named_in name (Err e) = None

-- the place of the header of a stream that passes the end of these bytes
abbrev pub past_end : List ℕ → Option Stream → Option ℕ
past_end bytes None = None
past_end bytes (Some s) = if nat_lt (length bytes) (s.from + s.size) then Some s.place else None

-- the earlier of two places, where there are two
abbrev pub earlier : Option ℕ → Option ℕ → Option ℕ
earlier None q = q
earlier (Some p) None = Some p
earlier (Some p) (Some q) = Some (min p q)

-- the first of the headers of these streams whose stream passes the end
abbrev pub first_past_end : List ℕ → Found → Option ℕ
first_past_end bytes found =
    earlier (earlier (earlier (past_end bytes found.tables) (past_end bytes found.strings)) (past_end bytes found.user_strings))
    (earlier (past_end bytes found.guids) (past_end bytes found.blobs))

-- the first stream of each name that is read
abbrev pub found_in : Result (List Header × ℕ) MetaFault → Found
found_in headers = record {
  tables = named_in (codes "#~") headers;
  strings = named_in (codes "#Strings") headers;
  user_strings = named_in (codes "#US") headers;
  guids = named_in (codes "#GUID") headers;
  blobs = named_in (codes "#Blob") headers;
}

-- the same, where it is known which header is the first whose stream passes the end, and which stream has the tables
abbrev pub unless_past_end : Option ℕ → ℕ → Found → Option Stream → Result Streams MetaFault
unless_past_end (Some place) end found tables = fault_at BadStream place
unless_past_end None end found None = fault_at BadStream end
unless_past_end None end found (Some tables) =
    Ok (record { tables = tables; strings = found.strings; user_strings = found.user_strings; blobs = found.blobs })

-- the streams that were found, where none passes the end and there is one of tables; `end` is the place behind the last
-- header
abbrev pub streams_in : List ℕ → ℕ → Found → Result Streams MetaFault
streams_in bytes end found = unless_past_end (first_past_end bytes found) end found found.tables

-- the streams of some metadata
unfoldable pub streams_of : List ℕ → Result Streams MetaFault
streams_of bytes = do
  root ← root_of bytes
  headers ← headers_at root.count bytes root.at
  streams_in bytes headers.1 (found_in (Ok headers))

-- all these streams do
pub record AreWithinAll (len : ℕ) (found : Found) : Type 0 where
  pub tables : IsWithin len found.tables
  pub strings : IsWithin len found.strings
  pub user_strings : IsWithin len found.user_strings
  pub guids : IsWithin len found.guids
  pub blobs : IsWithin len found.blobs
