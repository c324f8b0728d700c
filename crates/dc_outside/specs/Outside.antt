-- What the calls to the outside do: files are read from a shelf, and bytes are written to a sink.
use Rattle.std.specs.Prelude.{◌≡◌, ◌<◌, ◌≤◌, ⊤, ℕ, ◌+◌, ◌-◌, ◌^◌, min, List, [], ◌∷◌, ◌++◌, length, take, Option, Some, None, Result, Ok, Err, Vec}
use Rattle.std.specs.declared.alloc.Global.{Global}
use Rattle.dc_base.specs.declared.failure.Or.{Or}
use Rattle.dc_base.specs.declared.failure.Or.TheVariants.{NoMemory, Fault}
use Rattle.dc_outside.specs.declared.shelf.TakeFault.{TakeFault}
use Rattle.dc_outside.specs.declared.shelf.TakeFault.TheVariants.{Longer, Failed as FailedTake}
use Rattle.dc_outside.specs.declared.sink.Failed.{Failed}

-- one more, in a count that stands still at the end of its type
abbrev pub one_more : ℕ → ℕ
one_more n = min (n + 1) (2 ^ 64 - 1)

-- a count of faults has risen, or stands at the end of its type
abbrev pub HasRisen : ℕ → ℕ → Type 0
HasRisen before now = min (before + 1) (2 ^ 64 - 1) ≤ now

-- what a shelf tells: the file of that name has these bytes, or nothing is told
abbrev pub IsFile : Option (List ℕ → Option (List ℕ)) → List ℕ → List ℕ → Type 0
IsFile None name bytes = ⊤
IsFile (Some files) name bytes = files name ≡ Some bytes

-- what a shelf tells: the file of that name has at least so many bytes, or nothing is told
abbrev pub HasAtLeast : Option (List ℕ → Option (List ℕ)) → List ℕ → ℕ → Type 0
HasAtLeast None name n = ⊤
HasAtLeast (Some files) name n = (bytes : List ℕ) × (files name ≡ Some bytes) × (n ≤ length bytes)

-- what a call to a shelf gives: the file where it isn't longer than the limit, and else a number of bytes past it that the file has
abbrev pub Takes : Option (List ℕ → Option (List ℕ)) → List ℕ → ℕ → Result (Vec ℕ Global) (Or TakeFault) → Type 0
Takes files name limit (Ok bytes) = (length bytes.items ≤ limit) × IsFile files name bytes.items
Takes files name limit (Err (Fault (Longer n))) = (limit < n) × HasAtLeast files name n
Takes files name limit (Err (Fault FailedTake)) = ⊤
Takes files name limit (Err NoMemory) = ⊤

-- what a call to a shelf gave: under which name, and the file's bytes, or none where the file is longer than was asked for
abbrev pub Given : Type 0
Given = List ℕ × Option (List ℕ)

-- all that a shelf gave after one call more; a failed one gives nothing
abbrev pub given_after : List Given → List ℕ → Result (Vec ℕ Global) (Or TakeFault) → List Given
given_after given name (Ok bytes) = given ++ (name, Some bytes.items) ∷ []
given_after given name (Err (Fault (Longer n))) = given ++ (name, None) ∷ []
given_after given name (Err (Fault FailedTake)) = given
given_after given name (Err NoMemory) = given

-- how a call to a shelf counts: a failed one raises the count and is the last that failed, any other leaves both
abbrev pub CountsTake : List ℕ → ℕ → ℕ → Option (List ℕ) → Option (List ℕ) → Result (Vec ℕ Global) (Or TakeFault) → Type 0
CountsTake name before now last_before last_now (Err (Fault FailedTake)) = HasRisen before now × (last_now ≡ Some name)
CountsTake name before now last_before last_now _ = (now ≡ before) × (last_now ≡ last_before)

-- what a call to a sink takes: a front of the piece, of a byte at least, or nothing where it failed
abbrev pub Puts : List ℕ → List ℕ → List ℕ → Result ℕ Failed → Type 0
Puts piece before now (Ok n) = (1 ≤ n) × (n ≤ length piece) × (now ≡ before ++ take n piece)
Puts piece before now (Err _) = now ≡ before

-- how a call to a sink counts: a failed one raises the count, any other leaves it
abbrev pub CountsPut : ℕ → ℕ → Result ℕ Failed → Type 0
CountsPut before now (Ok _) = now ≡ before
CountsPut before now (Err _) = HasRisen before now
