use Rattle.std.proofs.Common.{◌≤◌, ◌-◌, drop, length}
use Rattle.cil_body.specs.Code.{Reads}
use Rattle.cil_body.proofs.code.cut.Given as goal

abbrev pub invariant-loop-at : goal.invariant-loop-at
invariant-loop-at l =
    record {
      read : Reads 0 l.code l.placed.items l.at (drop l.at l.code);
      within : l.at ≤ length l.code;
    }

abbrev pub decreases-loop-at : goal.decreases-loop-at
decreases-loop-at l = length l.initial.code - l.at
