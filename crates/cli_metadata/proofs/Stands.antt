-- What is read of metadata is what stands in its bytes.
use Rattle.std.proofs.Common.{◌≡◌, ℕ, List, Ok, refl, sym, ap, subst, ◌∙◌}
use Rattle.cli_metadata.specs.declared.tables.Column.{Column}
use Rattle.cli_metadata.specs.declared.tables.TheConstants.{TABLES}
use Rattle.cli_metadata.specs.declared.root.Streams.{Streams}
use Rattle.cli_metadata.specs.declared.layout.Placed.{Placed}
use Rattle.cli_metadata.specs.Root.{streams_of}
use Rattle.cli_metadata.specs.Layout.{tables_of}
use Rattle.cli_metadata.specs.Metadata.{Contents, up_to_tables}
use Rattle.cli_metadata.specs.Read.{metadata_with}
use Rattle.cli_metadata.specs.Standing.{AreTables, IsStanding}
use Rattle.cli_metadata.specs.Read.{ReadIsStanding, StandingIsRead}
use Rattle.cli_metadata.proofs.Places.{ok_is, bind_ok}
use Rattle.cli_metadata.proofs.Whole.{contents, read-is}
use Rattle.cli_metadata.proofs.Inside.{streams-stand, streams-read}
use Rattle.cli_metadata.proofs.Standard.{tables_are}
use Rattle.cli_metadata.proofs.Rows.{layout-stands, layout-read}

-- what was read of the streams and of the tables
record Parts (tables : List (List Column)) (bytes : List ℕ) (m : Contents) : Type 0 where
  streams : Streams
  placed : List Placed
  headed : streams_of bytes ≡ Ok streams
  laid : tables_of tables (up_to_tables bytes streams) streams.tables.from ≡ Ok placed
  made : contents bytes streams placed ≡ m

parts : (tables : List (List Column)) (bytes : List ℕ) (m : Contents) → metadata_with tables bytes ≡ Ok m → Parts tables bytes m
unfolding metadata_with
parts tables bytes m e =
    let a = bind_ok (streams_of bytes) _ m e in
    let b = bind_ok (tables_of tables (up_to_tables bytes a.0) a.0.tables.from) _ m a.2 in
    record { streams = a.0; placed = b.0; headed = a.1; laid = b.1; made = ok_is (contents bytes a.0 b.0) m b.2 }

pub read-stands : ReadIsStanding
read-stands bytes m e =
    let p = parts TABLES bytes m e in
    let stands : IsStanding bytes (contents bytes p.streams p.placed) = record {
      streams = p.streams;
      headed = streams-stand bytes p.streams p.headed;
      strings = refl;
      user_strings = refl;
      blobs = refl;
      stream = refl;
      tables = subst (λ (t : List (List Column)). AreTables t (up_to_tables bytes p.streams) p.streams.tables.from p.placed) tables_are (layout-stands TABLES (up_to_tables bytes p.streams) p.streams.tables.from p.placed refl p.laid);
    } in
    subst (λ (x : Contents). IsStanding bytes x) p.made stands

pub standing-read : StandingIsRead
standing-read bytes m w =
    let s = streams-read bytes w.streams w.headed in
    let laid_out : AreTables TABLES m.stream w.streams.tables.from m.tables = subst (λ (t : List (List Column)). AreTables t m.stream w.streams.tables.from m.tables) (sym tables_are) w.tables in
    let t = layout-read TABLES m.stream w.streams.tables.from m.tables refl laid_out in
    let laid : tables_of TABLES (up_to_tables bytes w.streams) w.streams.tables.from ≡ Ok m.tables = ap (λ (b : List ℕ). tables_of TABLES b w.streams.tables.from) (sym w.stream) ∙ t in
    let read = read-is TABLES bytes w.streams m.tables s laid in
    let same : contents bytes w.streams m.tables ≡ m = rw (sym w.strings, sym w.user_strings, sym w.blobs, sym w.stream) refl in
    read ∙ ap (λ (x : Contents). Ok x) same
