-- A shelf in memory.
use Rattle.std.specs.Prelude.{◌≡◌, ◌<◌, ◌≤◌, ◌⊎◌, ⊤, ℕ, List, length, map, find, Option, Some, None, option_map, Result, Ok, Err, Vec}
use Rattle.std.specs.Str.{bytes_eq}
use Rattle.std.specs.declared.alloc.Global.{Global}
use Rattle.dc_outside.specs.Outside.{Given, given_after, one_more}
use Rattle.dc_outside.specs.Script.{IsNextListed}
use Rattle.dc_base.specs.declared.failure.Or.{Or}
use Rattle.dc_base.specs.declared.failure.Or.TheVariants.{NoMemory, Fault}
use Rattle.dc_outside.specs.declared.shelf.TakeFault.{TakeFault}
use Rattle.dc_outside.specs.declared.shelf.TakeFault.TheVariants.{Longer, Failed}

-- the names and bytes of the files, the numbers of the calls that are to fail, how many calls there
-- were and how many failed, the name that the last failed call was given, and what the calls gave
pub record ShelfState : Type 0 where
  pub entries : List (List ℕ × List ℕ)
  pub fails : List ℕ
  pub calls : ℕ
  pub faults : ℕ
  pub last : Option (List ℕ)
  pub given : List Given

-- the names and the bytes of these files
abbrev pub entries_of : List (List ℕ × Vec ℕ Global) → List (List ℕ × List ℕ)
entries_of files = map (λ file. (file.0, file.1.items)) files

-- the bytes of the first entry of this name
abbrev pub file_of : List (List ℕ × List ℕ) → List ℕ → Option (List ℕ)
file_of entries name = option_map (λ entry. entry.1) (find (λ entry. bytes_eq entry.0 name) entries)

-- what is read of a file: its bytes, or its length where that is above the limit; it fails where there is none
abbrev pub Reads : Option (List ℕ) → ℕ → Result (Vec ℕ Global) (Or TakeFault) → Type 0
Reads file limit (Ok bytes) = (length bytes.items ≤ limit) × (file ≡ Some bytes.items)
Reads file limit (Err (Fault (Longer n))) = (limit < n) × (option_map length file ≡ Some n)
Reads file limit (Err (Fault Failed)) = file ≡ None
Reads file limit (Err NoMemory) = ⊤

-- a call fails where it is to fail or the file isn't there, and no other does; one that finds the file longer says its length
abbrev pub TakesFromMemory : ShelfState → List ℕ → Result (Vec ℕ Global) (Or TakeFault) → Type 0
TakesFromMemory shelf name (Err (Fault Failed)) =
    IsNextListed shelf.fails shelf.calls ⊎ (file_of shelf.entries name ≡ None)
TakesFromMemory shelf name (Err NoMemory) = ⊤
TakesFromMemory shelf name (Err (Fault (Longer n))) =
    (¬ IsNextListed shelf.fails shelf.calls) × (option_map length (file_of shelf.entries name) ≡ Some n)
TakesFromMemory shelf name (Ok bytes) = ¬ IsNextListed shelf.fails shelf.calls

-- the shelf after a call: one call more, and what it gave, or where it failed one fault more and its name
abbrev pub after_take : ShelfState → List ℕ → Result (Vec ℕ Global) (Or TakeFault) → ShelfState
after_take shelf name (Err (Fault Failed)) =
    record shelf { calls = one_more shelf.calls; faults = one_more shelf.faults; last = Some name }
after_take shelf name result =
    record shelf { calls = one_more shelf.calls; given = given_after shelf.given name result }
