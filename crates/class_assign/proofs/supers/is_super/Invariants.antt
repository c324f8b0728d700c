use Rattle.std.proofs.Common.{length}
use Rattle.class_parts.proofs.Climb.{height}
use Rattle.class_assign.proofs.Up.{IsOnWay}
use Rattle.class_assign.proofs.supers.is_super.Given as goal

abbrev pub invariant-loop-above : goal.invariant-loop-above
invariant-loop-above l = IsOnWay l.types l.fn.t.0 l.above.0 l.at.0

abbrev pub decreases-loop-above : goal.decreases-loop-above
decreases-loop-above l = height (length l.types) l.supers.orders.bases l.at.0
