use Rattle.std.proofs.Common.{ℕ, ◌<◌}
use Rattle.cil_rows.specs.declared.row.Row.{Row}
use Rattle.verify_spots.specs.Spots.{CallsConstructor, IsRow}
use Rattle.verify_spots.proofs.head.first_call.Given as goal

abbrev pub invariant-loop-number : goal.invariant-loop-number
invariant-loop-number l = (k : ℕ) → k < l.number → (row : Row) → IsRow l.setting k row → CallsConstructor l.setting row → ⊥
