use Rattle.std.proofs.Common.{length}
use Rattle.class_parts.proofs.Climb.{height}
use Rattle.class_spread.proofs.Table.{IsFollowed}
use Rattle.class_spread.proofs.spread.follow.Given as goal

abbrev pub invariant-loop-spread : goal.invariant-loop-spread
invariant-loop-spread l = IsFollowed l.table l.fn.t l.fn.seen.keys l.at l.seen.keys

abbrev pub decreases-loop-spread : goal.decreases-loop-spread
decreases-loop-spread l = height (length l.types) l.order l.at
