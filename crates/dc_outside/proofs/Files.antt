-- Looking a file up among the entries of a shelf.
use Rattle.std.proofs.Common.{◌≡◌, ◌≤◌, ℕ, length, true, false, cond, List, [], ◌∷◌, find, Option, None, Some, Result, Ok, Err, Vec, arith, refl, ap, sym, ◌∙◌}
use Rattle.std.specs.Option.{option_map}
use Rattle.std.specs.Str.{bytes_eq}
use Rattle.std.specs.declared.alloc.Global.{Global}
use Rattle.dc_base.specs.declared.failure.Or.{Or}
use Rattle.dc_base.specs.declared.failure.Or.TheVariants.{NoMemory, Fault}
use Rattle.dc_outside.specs.declared.shelf.TakeFault.{TakeFault}
use Rattle.dc_outside.specs.declared.shelf.TakeFault.TheVariants.{Longer, Failed}
use Rattle.dc_outside.specs.Outside.{Takes}
use Rattle.dc_outside.specs.MemShelf.{entries_of, file_of, Reads}

-- the first file with this name
abbrev pub named : List (List ℕ × Vec ℕ Global) → List ℕ → Option (List ℕ × Vec ℕ Global)
named files name = find (λ file. bytes_eq file.0 name) files

-- the bytes of a file that was found
abbrev pub bytes_of : Option (List ℕ × Vec ℕ Global) → Option (List ℕ)
bytes_of found = option_map (λ file. file.1.items) found

-- the bytes that the entries have under a name are those of the first file with this name
file_of-entries_of : (files : List (List ℕ × Vec ℕ Global)) (name : List ℕ) → file_of (entries_of files) name ≡ bytes_of (named files name)
file_of-entries_of [] name = refl
file_of-entries_of (f ∷ fs) name =
    elim (bytes_eq f.0 name)
    as (λ b. option_map (λ entry. entry.1) (cond b (Some (f.0, f.1.items)) (find (λ entry. bytes_eq entry.0 name) (entries_of fs)))
    ≡ bytes_of (cond b (Some f) (named fs name)))
    [ true ↦ refl | false ↦ file_of-entries_of fs name ]

-- the same of what a search for that file found
pub file_of-found : (files : List (List ℕ × Vec ℕ Global)) (name : List ℕ) (found : Option (List ℕ × Vec ℕ Global)) →
    found ≡ named files name → file_of (entries_of files) name ≡ bytes_of found
file_of-found files name found is = file_of-entries_of files name ∙ sym (ap bytes_of is)

-- a file has as many bytes as its length says
has_length : (file : Option (List ℕ)) (n : ℕ) → option_map length file ≡ Some n → (bytes : List ℕ) × (file ≡ Some bytes) × (n ≤ length bytes)
has_length None n e = absurd (let no : None ≡ Some n = e in cc)
has_length (Some bytes) n e = let same : length bytes ≡ n = cc in (bytes, refl, omega (arith, same))

-- what is read of a file is what a call that tells the files gives
pub takes : (files : List ℕ → Option (List ℕ)) (name : List ℕ) (limit : ℕ) (result : Result (Vec ℕ Global) (Or TakeFault))
    → Reads (files name) limit result → Takes (Some files) name limit result
takes files name limit (Ok bytes) r = r
takes files name limit (Err (Fault (Longer n))) r = (r.0, has_length (files name) n r.1)
takes files name limit (Err (Fault Failed)) r = tt
takes files name limit (Err NoMemory) r = tt
