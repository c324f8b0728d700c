use Rattle.std.proofs.Common.{length}
use Rattle.class_parts.proofs.Climb.{height}
use Rattle.class_implemented.proofs.Open.{IsOnLinks}
use Rattle.class_implemented.proofs.chain.open_from.Given as goal

abbrev pub invariant-loop-spread : goal.invariant-loop-spread
invariant-loop-spread l = IsOnLinks l.known l.c.0 l.fn.d.0 l.at l.least

abbrev pub decreases-loop-spread : goal.decreases-loop-spread
decreases-loop-spread l = height (length l.known.types.now) l.known.order.now l.at
