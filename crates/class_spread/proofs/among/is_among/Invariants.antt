use Rattle.std.proofs.Common.{length}
use Rattle.class_parts.proofs.Climb.{height}
use Rattle.class_spread.proofs.Table.{IsHunt}
use Rattle.class_spread.proofs.among.is_among.Given as goal

abbrev pub invariant-loop-spread : goal.invariant-loop-spread
invariant-loop-spread l = IsHunt l.types l.spreads l.fn.t.0 l.interface.0 l.at

abbrev pub decreases-loop-spread : goal.decreases-loop-spread
decreases-loop-spread l = height (length l.types) l.order l.at
