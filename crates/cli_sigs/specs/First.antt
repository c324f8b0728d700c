-- The first row whose signature fails.
use Rattle.std.specs.Prelude.{◌≡◌, ◌⊎◌, ℕ, ◌≤◌, ◌<◌, Option, Some, None, Ok, Err}
use Rattle.dc_causes.specs.Step.{Step, Told}
use Rattle.cli_metadata.specs.Metadata.{rows_of}
use Rattle.cli_sigs.specs.declared.form.Form.{Form}
use Rattle.cli_sigs.specs.declared.refusal.SigCause.{SigCause}
use Rattle.cli_sigs.specs.declared.refusal.SigRefusal.{SigRefusal}
use Rattle.cli_sigs.specs.declared.table.SigTable.{SigTable}
use Rattle.cli_sigs.specs.Forms.{IsCause}
use Rattle.cli_sigs.specs.Rows.{Subject, table_of, table_number, token_at, place_of, form_of}

-- row r of the table is asked for a signature, and this is why it has none
pub record Fails (s : Subject) (table : SigTable) (r : ℕ) (cause : SigCause) : Type 0 where
  pub low : 1 ≤ r
  pub high : r ≤ rows_of s.metadata (table_of table)
  pub form : Form
  pub asked : form_of s table r ≡ Some form
  pub is : IsCause s.metadata form (place_of s.metadata table r) cause

-- a row that fails, and why
pub record Failure : Type 0 where
  pub table : SigTable
  pub row : ℕ
  pub cause : SigCause

abbrev pub IsFailure : Subject → Failure → Type 0
IsFailure s f = Fails s f.table f.row f.cause

-- one failure comes before another: by the table's number, then by row
abbrev pub ComesBefore : Failure → Failure → Type 0
ComesBefore f g = (table_number f.table < table_number g.table) ⊎ ((f.table ≡ g.table) × (f.row < g.row))

-- no failure comes before this one
pub record IsFirst (s : Subject) (f : Failure) : Type 0 where
  pub fails : IsFailure s f
  pub first : (g : Failure) → IsFailure s g → ComesBefore g f → ⊥

-- no row fails, or the fault is the first failure
abbrev pub FailsFirst : Subject → Step (Unit {0}) Failure
FailsFirst s (Ok a) = (f : Failure) → IsFailure s f → ⊥
FailsFirst s (Err f) = IsFirst s f

-- a failure as it is told: by the token of the row
abbrev pub refusal_of : Failure → SigRefusal
refusal_of f = record { token = token_at f.table f.row; cause = f.cause }

-- each row that is asked for a signature has one, or this is the first that hasn't
abbrev pub HaveSignatures : Subject → Step (Unit {0}) SigRefusal
HaveSignatures s = Told refusal_of (FailsFirst s)

-- ---- inner facts

-- no row of the table fails
abbrev pub NoneFails : Subject → SigTable → Type 0
NoneFails s table = (r : ℕ) (cause : SigCause) → Fails s table r cause → ⊥

-- the first row of the table that fails, with its number and cause
abbrev pub IsFirstIn : Subject → SigTable → Option (ℕ × SigCause) → Type 0
IsFirstIn s table None = NoneFails s table
IsFirstIn s table (Some found) =
    Fails s table found.0 found.1 × ((r : ℕ) (cause : SigCause) → r < found.0 → Fails s table r cause → ⊥)
