use Rattle.class_walk.specs.Ring.{IsRing}
use Rattle.class_walk.proofs.ring.ring_of.Given as goal

abbrev pub invariant-loop-t : goal.invariant-loop-t
invariant-loop-t l = IsRing l.types l.next.items l.order l.t-index
