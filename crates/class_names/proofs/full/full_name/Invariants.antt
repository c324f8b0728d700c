use Rattle.std.proofs.Common.{length}
use Rattle.class_parts.proofs.Climb.{height}
use Rattle.class_names.proofs.Walk.{IsNameWalk}
use Rattle.class_names.proofs.full.full_name.Given as goal

abbrev pub invariant-loop-outer : goal.invariant-loop-outer
invariant-loop-outer l = IsNameWalk l.types l.fn.t.0 l.at.0 l.inner.items

abbrev pub decreases-loop-outer : goal.decreases-loop-outer
decreases-loop-outer l = height (length l.types) l.order l.at.0
