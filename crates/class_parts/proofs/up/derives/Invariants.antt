use Rattle.std.proofs.Common.{length}
use Rattle.class_rows.specs.Types.{IsBase}
use Rattle.class_parts.proofs.Climb.{IsClimb, height}
use Rattle.class_parts.proofs.up.derives.Given as goal

abbrev pub invariant-loop-above : goal.invariant-loop-above
invariant-loop-above l = IsClimb (IsBase l.types) l.fn.t.0 l.at.0 l.above.0

abbrev pub decreases-loop-above : goal.decreases-loop-above
decreases-loop-above l = height (length l.types) l.order l.at.0
