-- What taking the files of a command gives.
use Rattle.std.specs.Prelude.{◌≡◌, ⊤, ℕ, List, [], map, Result, Ok, Err, Vec}
use Rattle.std.specs.declared.alloc.Global.{Global}
use Rattle.dc_base.specs.declared.failure.Or.{Or}
use Rattle.dc_base.specs.declared.failure.Or.TheVariants.{NoMemory, Fault}
use Rattle.ilspy_cli.specs.declared.status.Status.{Status}
use Rattle.ilspy_cli.specs.declared.status.Status.TheVariants.{Refused, ReadFault}
use Rattle.ilspy_cli.specs.declared.taking.Untaken.{Untaken}
use Rattle.ilspy_cli.specs.declared.taking.Untaken.TheVariants.{TooBig, Unread}
use Rattle.ilspy_cli.specs.Lines.{cannot_read_line, too_big_line}
use Rattle.ilspy_cli.specs.Files.{Wanted, Shelved, HasNotFailed, HasFailedAt, AreRead, HasGiven, given_for, is_longer, IsTooLong, StopsAt}

-- the first of these files that wasn't given has this name, and is too long or wasn't read
abbrev pub IsUntaken : Shelved → List Wanted → Untaken → Type 0
IsUntaken shelf all (TooBig name) =
    (file : Wanted) × (file.name ≡ name.now) × StopsAt shelf all file (is_longer file) × HasNotFailed shelf × IsTooLong shelf.files file
IsUntaken shelf all (Unread name) =
    (file : Wanted) × (file.name ≡ name.now) × StopsAt shelf all file [] × HasFailedAt shelf file.name

-- the bytes of all files, or the first of them that wasn't given
abbrev pub IsTaken : Shelved → List Wanted → Result (Vec (Vec ℕ Global) Global) (Or Untaken) → Type 0
IsTaken shelf all (Ok contents) =
    HasNotFailed shelf × AreRead shelf.files all (map (λ file. file.items) contents.items) × HasGiven shelf (given_for all (map (λ file. file.items) contents.items))
IsTaken shelf all (Err (Fault untaken)) = IsUntaken shelf all untaken
IsTaken shelf all (Err NoMemory) = ⊤

-- what is due for a file that wasn't given
abbrev pub IsUntakenDue : Untaken → Status → List ℕ → Type 0
IsUntakenDue (TooBig name) status text = (status ≡ Refused) × (text ≡ too_big_line name.now)
IsUntakenDue (Unread name) status text = (status ≡ ReadFault) × (text ≡ cannot_read_line name.now)
