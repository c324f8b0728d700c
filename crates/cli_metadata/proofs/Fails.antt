-- The faults of metadata are what is wrong with it.
use Rattle.std.proofs.Common.{◌≡◌, ◌⊎◌, inl, inr, ℕ, List, Ok, Err, refl, sym, subst}
use Rattle.cli_metadata.specs.declared.fault.MetaFault.{MetaFault}
use Rattle.cli_metadata.specs.declared.fault.MetaCause.{MetaCause}
use Rattle.cli_metadata.specs.declared.fault.MetaCause.TheVariants.{BadRoot, BadStream, BadHeader, UnknownTable, Truncated, BadIndex, BadText, BadBlob}
use Rattle.cli_metadata.specs.declared.tables.Column.{Column}
use Rattle.cli_metadata.specs.declared.tables.TheConstants.{TABLES}
use Rattle.cli_metadata.specs.declared.root.Streams.{Streams}
use Rattle.cli_metadata.specs.Root.{streams_of}
use Rattle.cli_metadata.specs.Layout.{tables_of}
use Rattle.cli_metadata.specs.Metadata.{up_to_tables}
use Rattle.cli_metadata.specs.Read.{metadata_with}
use Rattle.cli_metadata.specs.Wrong.{IsTableUnknown, IsCut, IsWrong}
use Rattle.cli_metadata.specs.Read.{FaultIsWrong, WrongIsFault}
use Rattle.cli_metadata.proofs.Standard.{tables_are}
use Rattle.cli_metadata.proofs.Inside.{streams-stand, streams-read}
use Rattle.cli_metadata.proofs.Fields.{fault, bind_err}
use Rattle.cli_metadata.proofs.Passing.{streams-fail, no-root-meets, no-streams-meet}
use Rattle.cli_metadata.proofs.Cuts.{layout-fails, header-wrong-met, unknown-table-met, cut-met}

-- a fault of the streams, or of the stream of tables of streams that stand
record Parts (tables : List (List Column)) (bytes : List ℕ) (f : MetaFault) : Type 0 where
  streams : Streams
  headed : streams_of bytes ≡ Ok streams
  laid : tables_of tables (up_to_tables bytes streams) streams.tables.from ≡ Err f

parts : (tables : List (List Column)) (bytes : List ℕ) (f : MetaFault) → metadata_with tables bytes ≡ Err f → (streams_of bytes ≡ Err f) ⊎ Parts tables bytes f
unfolding metadata_with
parts tables bytes f e = elim (bind_err (streams_of bytes) _ f e) [
  | inl a ↦ inl a
  | inr a ↦ elim (bind_err (tables_of tables (up_to_tables bytes a.0) a.0.tables.from) _ f a.2) [
    | inl b ↦ inr (record { streams = a.0; headed = a.1; laid = b })
    | inr b ↦ (let z = b.2 in absurd cc)
  ]
]

no-streams : (tables : List (List Column)) (bytes : List ℕ) (f : MetaFault) → streams_of bytes ≡ Err f → metadata_with tables bytes ≡ Err f
unfolding metadata_with
no-streams tables bytes f e = rw e refl

no-tables : (tables : List (List Column)) (bytes : List ℕ) (s : Streams) (f : MetaFault) → streams_of bytes ≡ Ok s → tables_of tables (up_to_tables bytes s) s.tables.from ≡ Err f → metadata_with tables bytes ≡ Err f
unfolding metadata_with
no-tables tables bytes s f e g = rw (e, g) refl

pub fault-wrong : FaultIsWrong
fault-wrong bytes f e = elim (parts TABLES bytes f e) [
  | inl a ↦ streams-fail bytes f a
  | inr a ↦ (let headed = streams-stand bytes a.streams a.headed in
      elim (layout-fails TABLES (up_to_tables bytes a.streams) a.streams.tables.from f refl a.laid) [
        | inl b ↦ elim b [
          | inl c ↦ subst (λ (k : MetaCause). IsWrong bytes f.place k) (sym c.0) (record { streams = a.streams; headed = headed; wrong = c.1 })
          | inr c ↦ subst (λ (k : MetaCause). IsWrong bytes f.place k) (sym c.0)
              (record { streams = a.streams; headed = headed; wrong = subst (λ (t : List (List Column)). IsTableUnknown t (up_to_tables bytes a.streams) a.streams.tables.from f.place) tables_are c.1 })
        ]
        | inr c ↦ subst (λ (k : MetaCause). IsWrong bytes f.place k) (sym c.0)
            (record { streams = a.streams; headed = headed; wrong = subst (λ (t : List (List Column)). IsCut t (up_to_tables bytes a.streams) a.streams.tables.from f.place) tables_are c.1 })
      ])
]

wrong-met : (bytes : List ℕ) (place : ℕ) (cause : MetaCause) → IsWrong bytes place cause → metadata_with TABLES bytes ≡ Err (fault cause place)
wrong-met bytes place BadRoot w = no-streams TABLES bytes (fault BadRoot place) (no-root-meets bytes place w)
wrong-met bytes place BadStream w = no-streams TABLES bytes (fault BadStream place) (no-streams-meet bytes place w)
wrong-met bytes place BadHeader w =
    no-tables TABLES bytes w.streams (fault BadHeader place) (streams-read bytes w.streams w.headed) (header-wrong-met TABLES (up_to_tables bytes w.streams) w.streams.tables.from place w.wrong)
wrong-met bytes place UnknownTable w =
    let wrong : IsTableUnknown TABLES (up_to_tables bytes w.streams) w.streams.tables.from place = subst (λ (t : List (List Column)). IsTableUnknown t (up_to_tables bytes w.streams) w.streams.tables.from place) (sym tables_are) w.wrong in
    no-tables TABLES bytes w.streams (fault UnknownTable place) (streams-read bytes w.streams w.headed) (unknown-table-met TABLES (up_to_tables bytes w.streams) w.streams.tables.from place wrong)
wrong-met bytes place Truncated w =
    let wrong : IsCut TABLES (up_to_tables bytes w.streams) w.streams.tables.from place = subst (λ (t : List (List Column)). IsCut t (up_to_tables bytes w.streams) w.streams.tables.from place) (sym tables_are) w.wrong in
    no-tables TABLES bytes w.streams (fault Truncated place) (streams-read bytes w.streams w.headed) (cut-met TABLES (up_to_tables bytes w.streams) w.streams.tables.from place refl wrong)
wrong-met bytes place BadIndex w = absurd w
wrong-met bytes place BadText w = absurd w
wrong-met bytes place BadBlob w = absurd w

pub wrong-fault : WrongIsFault
wrong-fault bytes f w = wrong-met bytes f.place f.cause w
