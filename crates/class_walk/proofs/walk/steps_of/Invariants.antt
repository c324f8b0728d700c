use Rattle.std.proofs.Common.{◌-◌, ◌*◌, length}
use Rattle.class_walk.specs.Ring.{IsRing}
use Rattle.class_walk.proofs.Read.{IsRead}
use Rattle.class_walk.proofs.walk.steps_of.Given as goal

abbrev pub invariant-loop-at : goal.invariant-loop-at
invariant-loop-at l = (ring : IsRing l.types l.next l.order (length l.order)) × IsRead (length l.types) l.next ring.steps l.steps.items l.at

abbrev pub decreases-loop-at : goal.decreases-loop-at
decreases-loop-at l = 2 * length l.order - length l.steps.items
