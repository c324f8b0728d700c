use Rattle.std.proofs.Common.{length}
use Rattle.class_parts.proofs.Climb.{height}
use Rattle.class_parts.proofs.Heirs.{IsOpenClimb}
use Rattle.class_parts.proofs.access.is_open.Given as goal

abbrev pub invariant-loop-outer : goal.invariant-loop-outer
invariant-loop-outer l = IsOpenClimb l.types l.from.0 l.fn.t.0 l.at.0

abbrev pub decreases-loop-outer : goal.decreases-loop-outer
decreases-loop-outer l = height (length l.types) l.orders.outers l.at.0
