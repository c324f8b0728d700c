use Rattle.std.proofs.Common.{length}
use Rattle.class_open.specs.Stacks.{AreStacked}
use Rattle.class_open.proofs.Closing.{AreClosing}
use Rattle.class_open.proofs.open.closed.Given as goal

abbrev pub invariant-loop-m : goal.invariant-loop-m
invariant-loop-m l = AreStacked l.signs l.tops.items l.below.items l.trail × AreClosing l.members l.t.0 l.fn.state.trail l.trail

abbrev pub decreases-loop-m : goal.decreases-loop-m
decreases-loop-m l = length l.trail
