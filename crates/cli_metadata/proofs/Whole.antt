-- Metadata as a whole.
use Rattle.std.proofs.Common.{◌≡◌, ℕ, List, Ok, refl, sym, ap, ◌∙◌}
use Rattle.cli_metadata.specs.declared.tables.Column.{Column}
use Rattle.cli_metadata.specs.declared.root.Streams.{Streams}
use Rattle.cli_metadata.specs.declared.layout.Placed.{Placed}
use Rattle.cli_metadata.specs.Root.{streams_of}
use Rattle.cli_metadata.specs.Layout.{tables_of}
use Rattle.cli_metadata.specs.Metadata.{Contents, heap_of, up_to_tables}
use Rattle.cli_metadata.specs.Read.{metadata_with}

abbrev pub contents : List ℕ → Streams → List Placed → Contents
contents bytes s placed = record {
  strings = heap_of bytes s.strings;
  user_strings = heap_of bytes s.user_strings;
  blobs = heap_of bytes s.blobs;
  stream = up_to_tables bytes s;
  tables = placed;
}

pub read-is : (tables : List (List Column)) (bytes : List ℕ) (s : Streams) (placed : List Placed) → streams_of bytes ≡ Ok s
    → tables_of tables (up_to_tables bytes s) s.tables.from ≡ Ok placed → metadata_with tables bytes ≡ Ok (contents bytes s placed)
unfolding metadata_with
read-is tables bytes s placed e f = rw (e, f) refl

-- the same of what was read
pub read-as : (tables : List (List Column)) (bytes : List ℕ) (s : Streams) (placed : List Placed) (strings user_strings blobs stream : List ℕ) → Ok s ≡ streams_of bytes → stream ≡ up_to_tables bytes s
    → Ok placed ≡ tables_of tables stream s.tables.from → strings ≡ heap_of bytes s.strings → user_strings ≡ heap_of bytes s.user_strings → blobs ≡ heap_of bytes s.blobs
    → Ok (record { strings = strings; user_strings = user_strings; blobs = blobs; stream = stream; tables = placed }) ≡ metadata_with tables bytes
read-as tables bytes s placed strings user_strings blobs stream e st f a b d =
    rw (a, b, d, st) (sym (read-is tables bytes s placed (sym e) (ap (λ (b : List ℕ). tables_of tables b s.tables.from) (sym st) ∙ sym f)))
