-- Outer types that are in the list.
use Rattle.std.specs.Prelude.{ℕ, ◌<◌, List, length}
use Rattle.class_rows.specs.declared.row.TypeRow.{TypeRow}
use Rattle.class_rows.specs.Types.{IsOuter}

-- each type that is named as an outer one is there
abbrev pub OutersAreThere : List TypeRow → Type 0
OutersAreThere types = (t o : ℕ) → IsOuter types t o → o < length types
