-- Inner facts: a table of types by their names.
use Rattle.std.specs.Prelude.{◌≡◌, ℕ, List, Option}
use Rattle.std.specs.Map.{lookup}
use Rattle.cli_scopes.specs.declared.name.TypeName.{TypeName}
use Rattle.cli_scopes.specs.Names.{is_name, first_from}

-- the number at a name
abbrev pub at_name : List (TypeName × ℕ) → TypeName → Option ℕ
at_name entries name = lookup (λ (key : TypeName). is_name name key) entries

-- for each name the first of some types, counted from `k` on, that has it
abbrev pub AreNumbered : ℕ → List TypeName → List (TypeName × ℕ) → Type 0
AreNumbered k names entries = (name : TypeName) → at_name entries name ≡ first_from k names name
