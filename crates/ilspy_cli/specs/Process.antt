-- The words of the process, and the number that it ends with.
use Rattle.std.specs.Prelude.{◌≡◌, ◌≢◌, ⊤, ℕ, List, [], map, Result, Ok, Err, Vec, String}
use Rattle.std.specs.String.{string_bytes}
use Rattle.std.specs.Vec.Iter.{into_iter_items}
use Rattle.std.specs.IoError.{error_kind}
use Rattle.std.specs.declared.alloc.Global.{Global}
use Rattle.std.specs.declared.vec.IntoIter.{IntoIter}
use Rattle.std.specs.declared.io.Error.{Error}
use Rattle.std.specs.declared.io.ErrorKind.TheVariants.{OutOfMemory}
use Rattle.dc_base.specs.declared.failure.NoMemory.{NoMemory}
use Rattle.ilspy_cli.specs.declared.status.Status.{Status}
use Rattle.ilspy_cli.specs.Status.{code_of}
use Rattle.ilspy_cli.specs.Files.{Shelved}
use Rattle.ilspy_cli.specs.Outcome.{IsDue, IsOutcome, MeansTheSame, Sunk}

-- The words of the command line, by what the system gave of them: all of them, in their order; none, where it couldn't give
-- them since one isn't text; and no command line for want of memory.
abbrev pub AreWords : Result (IntoIter (String Global) Global) Error → Result (Vec (List ℕ) Global) NoMemory → Type 0
AreWords (Ok args) (Ok words) = words.items ≡ map string_bytes (into_iter_items args)
AreWords (Ok args) (Err _) = ⊤
AreWords (Err e) (Ok words) = (error_kind e ≢ OutOfMemory) × (words.items ≡ [])
AreWords (Err e) (Err _) = error_kind e ≡ OutOfMemory

-- The number that the process ends with: that of a status with which the run comes to its outcome and means the same; or 5
-- where no memory was there for the words, and then nothing was taken.
abbrev pub HasEnded : Result (Vec (List ℕ) Global) NoMemory → Shelved → Sunk → ℕ → Type 0
HasEnded (Ok words) shelf sink number =
    (status : Status) × (number ≡ code_of status) × IsOutcome (IsDue shelf words.items) sink status × MeansTheSame shelf words.items sink status
HasEnded (Err _) shelf sink number = (number ≡ 5) × (sink.new ≡ sink.old)
