use Rattle.std.proofs.Common.{◌≤◌, ◌-◌, drop, length}
use Rattle.cil_lone.specs.Cut.{Cuts}
use Rattle.cil_lone.proofs.standalone.cut.Given as goal

abbrev pub invariant-loop-at : goal.invariant-loop-at
invariant-loop-at l =
    record {
      read : Cuts 1 (drop 1 l.body) l.code.items l.at (drop l.at l.body);
      within : l.at ≤ length l.body;
    }

abbrev pub decreases-loop-at : goal.decreases-loop-at
decreases-loop-at l = length l.initial.body - l.at
