use Rattle.std.proofs.Common.{length}
use Rattle.class_rows.specs.Types.{IsOuter}
use Rattle.class_parts.proofs.Climb.{IsClimb, height}
use Rattle.class_parts.proofs.up.is_inside.Given as goal

abbrev pub invariant-loop-round : goal.invariant-loop-round
invariant-loop-round l = IsClimb (IsOuter l.types) l.fn.t.0 l.at.0 l.round.0

abbrev pub decreases-loop-round : goal.decreases-loop-round
decreases-loop-round l = height (length l.types) l.order l.at.0
