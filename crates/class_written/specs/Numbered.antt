-- Inner facts: a table of the types of a text by their full names.
use Rattle.std.specs.Prelude.{◌≡◌, ℕ, List, Option, map}
use Rattle.std.specs.Borrow.{Bor}
use Rattle.std.specs.Str.{bytes_eq}
use Rattle.std.specs.Map.{lookup}
use Rattle.cs_declared.specs.declared.declared.Declared.{Declared}
use Rattle.cs_declared.specs.Seen.{seen}
use Rattle.class_written.specs.Named.{Known, number_from}
use Rattle.class_written.specs.Forms.{known}

-- the number at a name
abbrev pub at_name : List (Bor (List ℕ) × ℕ) → List ℕ → Option ℕ
at_name entries name = lookup (λ (key : Bor (List ℕ)). bytes_eq name key.now) entries

-- for each name the first of some types, counted from `k` on, that has it
abbrev pub AreNumbered : ℕ → List Declared → List (Bor (List ℕ) × ℕ) → Type 0
AreNumbered k found entries = (name : List ℕ) → at_name entries name ≡ number_from k (map (λ (d : Declared). d.full) found) name

-- what is known of declared types
abbrev pub known_in : List Declared → List Known
known_in found = map (λ d. known (seen d)) found
