use Rattle.std.proofs.Common.{length}
use Rattle.class_parts.proofs.Climb.{height}
use Rattle.class_parts.proofs.Heirs.{IsHeirClimb}
use Rattle.class_parts.proofs.access.is_heir.Given as goal

abbrev pub invariant-loop-owner : goal.invariant-loop-owner
invariant-loop-owner l = IsHeirClimb l.types l.fn.from.0 l.at.0 l.owner.0 l.through

abbrev pub decreases-loop-owner : goal.decreases-loop-owner
decreases-loop-owner l = height (length l.types) l.orders.outers l.at.0
