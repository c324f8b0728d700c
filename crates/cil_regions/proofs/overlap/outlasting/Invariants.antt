use Rattle.std.proofs.Common.{◌≤◌, length}
use Rattle.cil_regions.specs.Outlasting.{AreOutlasting}
use Rattle.cil_regions.proofs.overlap.outlasting.Given as goal

abbrev pub invariant-loop-i : goal.invariant-loop-i
invariant-loop-i l = record {
  few : l.i ≤ length l.spans;
  known : AreOutlasting l.spans l.i l.outlasting.items;
}

abbrev pub decreases-loop-i : goal.decreases-loop-i
decreases-loop-i l = l.i
