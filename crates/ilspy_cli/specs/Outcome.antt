-- What a run comes to.
use Rattle.std.specs.Prelude.{◌≡◌, ℕ, List, [], ◌∷◌, ◌++◌, Some}
use Rattle.cil_lone.specs.declared.standalone.LoneFault.{LoneFault}
use Rattle.cil_lone.specs.Cut.{Placed}
use Rattle.cil_lone.specs.Lone.{IsLone, IsLoneFault}
use Rattle.dc_outside.specs.Outside.{HasRisen, IsFile}
use Rattle.ilspy_body.specs.Flat.{flat_of}
use Rattle.ilspy_body.specs.Layout.{text_of}
use Rattle.ilspy_body.specs.Theorem.{LoneBodyMeansTheSame}
use Rattle.ilspy_cli.specs.declared.status.Status.{Status}
use Rattle.ilspy_cli.specs.declared.status.Status.TheVariants.{Done, Refused, Usage, ReadFault, WriteFault, NoMemory, No}
use Rattle.ilspy_cli.specs.declared.words.Request.{Request}
use Rattle.ilspy_cli.specs.declared.words.Request.TheVariants.{Body, Show}
use Rattle.ilspy_cli.specs.Words.{AsksFor}
use Rattle.ilspy_cli.specs.Files.{Wanted, files_of, Shelved, HasNotFailed, HasFailedAt, AreRead, HasGiven, given_for, is_longer, IsTooLong, StopsAt}
use Rattle.ilspy_cli.specs.Show.{IsShowDue}
use Rattle.ilspy_cli.specs.Lines.{usage_line, cannot_read_line, too_big_line, fault_line}

-- what is due for the file of a lone body: its text, or the line of its fault
pub data IsBodyDue (file : List ℕ) (status : Status) (text : List ℕ) : Type 0 where
  written : (code : List Placed) → IsLone file code → status ≡ Done → text ≡ text_of (flat_of code) → IsBodyDue file status text
  refused : (fault : LoneFault) → IsLoneFault file fault → status ≡ Refused → text ≡ fault_line fault → IsBodyDue file status text

-- what is due for a request whose files have these bytes
abbrev pub IsRequestDue : Request → List (List ℕ) → Status → List ℕ → Type 0
IsRequestDue (Body name) (file ∷ []) status text = IsBodyDue file status text
IsRequestDue (Show name) (assembly ∷ []) status text = IsShowDue assembly status text
IsRequestDue request contents status text = ⊥

-- What is due for words, by what the shelf did: the usage, where they ask for nothing, and then nothing was read; the line
-- of the first file that wasn't given, since it is too long or its read failed; or what is due for the bytes that the shelf
-- gave for the files of the words, each once and in their order, and which are the files where it tells them.
pub data IsDue (shelf : Shelved) (words : List (List ℕ)) (status : Status) (text : List ℕ) : Type 0 where
  usage : HasNotFailed shelf → HasGiven shelf [] → ((request : Request) → AsksFor words request → ⊥) → status ≡ Usage → text ≡ usage_line → IsDue shelf words status text
  too_big : (request : Request) (file : Wanted) → HasNotFailed shelf → AsksFor words request → StopsAt shelf (files_of request) file (is_longer file)
      → IsTooLong shelf.files file → status ≡ Refused → text ≡ too_big_line file.name → IsDue shelf words status text
  unread : (request : Request) (file : Wanted) → HasFailedAt shelf file.name → AsksFor words request → StopsAt shelf (files_of request) file []
      → status ≡ ReadFault → text ≡ cannot_read_line file.name → IsDue shelf words status text
  of_files : (request : Request) (contents : List (List ℕ)) → HasNotFailed shelf → AsksFor words request
      → AreRead shelf.files (files_of request) contents → HasGiven shelf (given_for (files_of request) contents) → IsRequestDue request contents status text → IsDue shelf words status text

-- a sink over a run: all bytes that it took, and its count of faults, before the run and now
pub record Sunk : Type 0 where
  pub old : List ℕ
  pub new : List ℕ
  pub before : ℕ
  pub now : ℕ

abbrev pub sunk : List ℕ → List ℕ → ℕ → ℕ → Sunk
sunk old new before now = record { old = old; new = new; before = before; now = now }

-- the sink took just these bytes
abbrev pub Adds : Sunk → List ℕ → Type 0
Adds sink text = sink.new ≡ sink.old ++ text

-- a front of the text was written, and the sink has counted a fault
pub record IsCutShort (sink : Sunk) (text : List ℕ) : Type 0 where
  pub front : List ℕ
  pub rest : List ℕ
  pub whole : text ≡ front ++ rest
  pub adds : Adds sink front
  pub risen : HasRisen sink.before sink.now

-- all of the text was written, and the sink has counted no fault
pub record IsWritten (sink : Sunk) (text : List ℕ) : Type 0 where
  pub adds : Adds sink text
  pub unfailed : sink.now ≡ sink.before

-- what is written means what the code means that the shelf gave under this name, which is the file where it tells that
pub record WroteTheSame (shelf : Shelved) (name : List ℕ) (sink : Sunk) : Type 0 where
  pub file : List ℕ
  pub given : HasGiven shelf ((name, Some file) ∷ [])
  pub is_file : IsFile shelf.files name file
  pub text : List ℕ
  pub adds : Adds sink text
  pub same : LoneBodyMeansTheSame file text

-- of a `body` that ended well, what was written means what the named file's code means
abbrev pub MeansTheSame : Shelved → List (List ℕ) → Sunk → Status → Type 0
MeansTheSame shelf words sink status = status ≡ Done → (name : List ℕ) → AsksFor words (Body name) → WroteTheSame shelf name sink

-- a count of faults has not risen
abbrev pub HasNotRisen : ℕ → ℕ → Type 0
HasNotRisen before now = HasRisen before now → ⊥

-- the status is one that a counted fault of the shelf leaves: the read failed, or then the write, or memory
abbrev pub IsAfterReadFault : Status → Type 0
IsAfterReadFault ReadFault = Unit {0}
IsAfterReadFault WriteFault = Unit {0}
IsAfterReadFault NoMemory = Unit {0}
IsAfterReadFault _ = ⊥

-- the status is one of a run in which the outside counts no fault
abbrev pub IsWithoutFault : Status → Type 0
IsWithoutFault ReadFault = ⊥
IsWithoutFault WriteFault = ⊥
IsWithoutFault No = ⊥
IsWithoutFault _ = Unit {0}

-- How a run ends, by the due texts of each status (`due`): with the due text written; with a front of a due text, where the
-- sink failed; or for want of memory with nothing written.
abbrev pub IsOutcome : (Status → List ℕ → Type 0) → Sunk → Status → Type 0
IsOutcome due sink WriteFault = (status : Status) × (text : List ℕ) × due status text × IsCutShort sink text
IsOutcome due sink NoMemory = (sink.new ≡ sink.old) × (sink.now ≡ sink.before)
IsOutcome due sink status = (text : List ℕ) × due status text × IsWritten sink text
