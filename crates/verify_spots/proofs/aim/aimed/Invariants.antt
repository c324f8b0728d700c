use Rattle.std.proofs.Common.{◌≡◌, ℕ, ◌<◌, true, false, length, get_or}
use Rattle.std.specs.List.{Contains}
use Rattle.cil_rows.specs.declared.row.Row.{Row}
use Rattle.cil_rows.specs.Flow.{aims_of}
use Rattle.verify_spots.specs.Spots.{IsAimed, IsRow}
use Rattle.verify_spots.proofs.aim.aimed.Given as goal

abbrev pub invariant-loop-row : goal.invariant-loop-row
invariant-loop-row l = record {
  as_many : length l.aimed.items ≡ length l.setting.rows.now;
  some : (i : ℕ) → get_or l.aimed.items i false ≡ true → IsAimed l.setting i;
  all : (k : ℕ) → k < l.row-index → (row : Row) → IsRow l.setting k row → (i : ℕ) → i < length l.setting.rows.now → Contains (aims_of row) i → get_or l.aimed.items i false ≡ true;
}
