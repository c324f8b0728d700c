use Rattle.std.proofs.Common.{take}
use Rattle.cil_body.specs.Code.{AreTargets, jumps_by}
use Rattle.cil_body.proofs.code.targets.Given as goal

abbrev pub invariant-loop-k : goal.invariant-loop-k
invariant-loop-k l =
    AreTargets l.starts (l.at, l.found) (take l.k (jumps_by l.found.operand l.found.simple.arg l.bytes)) l.targets.items
