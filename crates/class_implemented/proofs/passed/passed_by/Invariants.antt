use Rattle.std.proofs.Common.{length}
use Rattle.class_parts.proofs.Climb.{height}
use Rattle.class_implemented.proofs.Passing.{IsPassing}
use Rattle.class_implemented.proofs.passed.passed_by.Given as goal

abbrev pub invariant-loop-spread : goal.invariant-loop-spread
invariant-loop-spread l = IsPassing l.known l.c.0 l.at l.passed.items

abbrev pub decreases-loop-spread : goal.decreases-loop-spread
decreases-loop-spread l = height (length l.known.types.now) l.known.order.now l.at
