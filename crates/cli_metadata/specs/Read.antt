-- What is read of metadata, step by step. It serves proofs: what stands in metadata is in `Standing`, and what is wrong
-- with it in `Wrong`.
use Rattle.std.specs.Prelude.{◌≡◌, ℕ, List, Result, Ok, Err}
use Rattle.cli_metadata.specs.declared.fault.MetaFault.{MetaFault}
use Rattle.cli_metadata.specs.declared.tables.Column.{Column}
use Rattle.cli_metadata.specs.declared.tables.TheConstants.{TABLES}
use Rattle.cli_metadata.specs.Reading.{◌>>=◌}
use Rattle.cli_metadata.specs.Root.{streams_of}
use Rattle.cli_metadata.specs.Layout.{tables_of}
use Rattle.cli_metadata.specs.Metadata.{Contents, heap_of, up_to_tables}
use Rattle.cli_metadata.specs.Standing.{IsStanding}
use Rattle.cli_metadata.specs.Wrong.{IsWrong}

-- the metadata that these bytes are, or what is wrong with them first, where these are the tables and their columns
unfoldable pub metadata_with : List (List Column) → List ℕ → Result Contents MetaFault
metadata_with tables bytes = do
  streams ← streams_of bytes
  placed ← tables_of tables (up_to_tables bytes streams) streams.tables.from
  Ok (record {
    strings = heap_of bytes streams.strings;
    user_strings = heap_of bytes streams.user_strings;
    blobs = heap_of bytes streams.blobs;
    stream = up_to_tables bytes streams;
    tables = placed;
  })

-- the metadata that these bytes are, or what is wrong with them first
abbrev pub metadata_of : List ℕ → Result Contents MetaFault
metadata_of bytes = metadata_with TABLES bytes

-- what is read of metadata is what stands in its bytes
abbrev pub ReadIsStanding : Type 0
ReadIsStanding = (bytes : List ℕ) (m : Contents) → metadata_of bytes ≡ Ok m → IsStanding bytes m

-- what stands in the bytes of metadata is what is read
abbrev pub StandingIsRead : Type 0
StandingIsRead = (bytes : List ℕ) (m : Contents) → IsStanding bytes m → metadata_of bytes ≡ Ok m

-- a fault that is met is one that these bytes have
abbrev pub FaultIsWrong : Type 0
FaultIsWrong = (bytes : List ℕ) (f : MetaFault) → metadata_of bytes ≡ Err f → IsWrong bytes f.place f.cause

-- a fault that these bytes have is the one that is met
abbrev pub WrongIsFault : Type 0
WrongIsFault = (bytes : List ℕ) (f : MetaFault) → IsWrong bytes f.place f.cause → metadata_of bytes ≡ Err f
