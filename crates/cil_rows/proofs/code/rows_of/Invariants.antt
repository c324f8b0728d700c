use Rattle.std.proofs.Common.{◌≡◌, map, take}
use Rattle.cil_rows.specs.Instruction.{row_of}
use Rattle.cil_rows.specs.Code.{numbered, starts_of}
use Rattle.cil_rows.proofs.code.rows_of.Given as goal

abbrev pub invariant-loop-placed : goal.invariant-loop-placed
invariant-loop-placed l =
    l.rows.items ≡ map (λ e. row_of (numbered (starts_of l.code) e.1)) (take l.placed-index l.code)
