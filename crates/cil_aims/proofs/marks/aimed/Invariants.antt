use Rattle.std.proofs.Common.{◌≡◌, ℕ, ◌<◌, false, length, slice_index_or, take}
use Rattle.std.specs.List.{list_any}
use Rattle.cil_aims.specs.Aims.{leads_to}
use Rattle.cil_aims.proofs.marks.aimed.Given as goal

abbrev pub invariant-loop-row : goal.invariant-loop-row
invariant-loop-row l =
    record {
      as_many : length l.marks.items ≡ length l.rows;
      each : (n : ℕ) → n < length l.rows → slice_index_or l.marks.items n false ≡ list_any (leads_to n) (take l.row-index l.rows);
    }
