-- The aims of jumps (ECMA-335 III.1.7.2), as numbers of instructions counted from 0.
use Rattle.std.specs.Prelude.{◌≡◌, ℕ, ◌<◌, ◌==◌, Bool, false, List, length, slice_index_or}
use Rattle.std.specs.List.{list_any}
use Rattle.cil_rows.specs.declared.row.Row.{Row}
use Rattle.cil_rows.specs.Flow.{aims_of}

-- whether the row leads to instruction n besides the next one
abbrev pub leads_to : ℕ → Row → Bool
leads_to n row = list_any (λ aim. aim == n) (aims_of row)

-- whether some row leads there
abbrev pub is_aim : List Row → ℕ → Bool
is_aim rows n = list_any (leads_to n) rows

-- a mark for each instruction, which says whether it is an aim
pub record AreMarks (rows : List Row) (marks : List Bool) : Type 0 where
  pub as_many : length marks ≡ length rows
  pub each : (n : ℕ) → n < length rows → slice_index_or marks n false ≡ is_aim rows n
