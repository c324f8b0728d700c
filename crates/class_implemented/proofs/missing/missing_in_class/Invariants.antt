use Rattle.std.proofs.Common.{length}
use Rattle.class_parts.proofs.Climb.{height}
use Rattle.class_implemented.proofs.Up.{IsOnChain}
use Rattle.class_implemented.proofs.missing.missing_in_class.Given as goal

abbrev pub invariant-loop-base : goal.invariant-loop-base
invariant-loop-base l = IsOnChain l.known l.fn.c.0 l.at.0 l.least

abbrev pub decreases-loop-base : goal.decreases-loop-base
decreases-loop-base l = height (length l.known.types.now) l.known.order.now l.at.0
